-- A script gives one list of commands.
use Rattle.std.proofs.Common.{◌≡◌, ◌∙◌, ℕ, List, [], ◌∷◌, ◌++◌, Some, inl, inr}
use Rattle.std.proofs.Common.{refl, sym, ap, subst}
use Rattle.rc_model.specs.Session.{Command}
use Rattle.rc_script.specs.Says.{Saying, SaysNothing, SaysWrong, SaysStep, SaysDry, SaysLive}
use Rattle.rc_script.specs.Says.{SaysBundles, SaysJournal}
use Rattle.rc_script.specs.Script.{AddsLine, IsBadLine, IsItem, IsItemSaying, IsScript, Item, Reads}
use Rattle.rc_script.specs.Script.{with_item}
use Rattle.rc_script.proofs.Sayings.{line_once}

-- what is one saying is one item
said_once : (names : List (List ℕ)) (line : List ℕ) (saying : Saying) (a b : Item)
    → IsItemSaying names line saying a → IsItemSaying names line saying b → a ≡ b
said_once names line SaysNothing a b x y = x ∙ sym y
said_once names line (SaysStep command) a b x y = x ∙ sym y
said_once names line SaysWrong a b (inl x) (inl y) = x.1 ∙ sym y.1
said_once names line SaysWrong a b (inl x) (inr y) = absurd (y.0 x.0)
said_once names line SaysWrong a b (inr x) (inl y) = absurd (x.0 y.0)
said_once names line SaysWrong a b (inr x) (inr y) = x.1 ∙ sym y.1
said_once names line (SaysDry ask) a b x y = x ∙ sym y
said_once names line SaysLive a b x y = x ∙ sym y
said_once names line SaysBundles a b x y = x ∙ sym y
said_once names line SaysJournal a b x y = x ∙ sym y

-- a line is one item
item_once : (names : List (List ℕ)) (line : List ℕ) (a b : Item)
    → IsItem names line a → IsItem names line b → a ≡ b
item_once names line a b x y =
    let says : Saying → Type 0 = λ s. IsItemSaying names line s b in
    said_once names line x.0 a b x.2 (subst says (line_once line y.0 x.0 y.1 x.1) y.2)

-- a line adds to commands in one way
adds_once : (names : List (List ℕ)) (line : List ℕ) (old a b : List Command)
    → AddsLine names line old a → AddsLine names line old b → a ≡ b
adds_once names line old a b x y =
    let same : Some a ≡ Some b =
    sym x.2 ∙ ap (with_item old) (item_once names line x.0 y.0 x.1 y.1) ∙ y.2
    in cc

-- lines give one list of commands
pub reads_once : (names lines : List (List ℕ)) (old a b : List Command)
    → Reads names lines old a → Reads names lines old b → a ≡ b
reads_once names [] old a b x y = x ∙ sym y
reads_once names (line ∷ lines) old a b x y =
    let reads : List Command → Type 0 = λ m. Reads names lines m b in
    let same : y.0 ≡ x.0 = adds_once names line old y.0 x.0 y.1 x.1 in
    reads_once names lines x.0 a b x.2 (subst reads same y.2)

-- lines are read one part after the other
reads_apart : (names front lines : List (List ℕ)) (old new : List Command)
    → Reads names (front ++ lines) old new
    → (mid : List Command) × Reads names front old mid × Reads names lines mid new
reads_apart names [] lines old new x = (old, refl, x)
reads_apart names (line ∷ front) lines old new x =
    let rest = reads_apart names front lines x.0 new x.2 in
    (rest.0, (x.0, x.1, rest.1), rest.2)

-- a script has no line that may not stand where it does
pub scripts_are_right : (names : List (List ℕ)) (text : List ℕ) (commands : List Command) (n : ℕ)
    → IsScript names text commands → IsBadLine names text n → ⊥
scripts_are_right names text commands n is wrong =
    let bad = wrong.bad in let good = added in absurd (cc)
  where
    reads : Reads names (wrong.before ++ wrong.line ∷ wrong.after) [] commands
    reads = subst (λ (ls : List (List ℕ)). Reads names ls [] commands) wrong.lines is

    apart : (mid : List Command) × Reads names wrong.before [] mid
        × Reads names (wrong.line ∷ wrong.after) mid commands
    apart = reads_apart names wrong.before (wrong.line ∷ wrong.after) [] commands reads

    same : apart.0 ≡ wrong.commands
    same = reads_once names wrong.before [] apart.0 wrong.commands apart.1 wrong.reads

    added : with_item wrong.commands wrong.item ≡ Some (apart.2.0)
    added = ap (λ (cs : List Command). with_item cs wrong.item) (sym same)
        ∙ ap (with_item apart.0)
        (item_once names wrong.line wrong.item apart.2.1.0 wrong.is apart.2.1.1)
        ∙ apart.2.1.2
