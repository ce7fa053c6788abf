-- The first line of a log, and that there is no other.
use Rattle.std.proofs.Common.{◌≡◌, ◌≢◌, ◌∙◌, ◌++◌, ◌∷◌, ◌==◌, ◌↔◌, ℕ, suc, All, Bool}
use Rattle.std.proofs.Common.{false, List, [], IsTrue, Contains, Some, refl, sym, ap, subst, arith}
use Rattle.std.proofs.Common.{append_assoc, inl, inr, ◌⊎◌, true, Option, None, MatchOption, Bor}
use Rattle.std.specs.Prelude.{is_some}
use Rattle.std.specs.List.{AllByRecursion, slice_split}
use Rattle.std.proofs.lemmas.Bool.{ne_eqb}
use Rattle.std.proofs.lemmas.List.{append_cancel_left}
use Rattle.std.proofs.lemmas.List.Elements.{All-from_recursion, Contains-append_right}
use Rattle.std.proofs.lemmas.List.Splits.{slice_split_at}
use Rattle.rc_model.specs.Session.{Command, Redo, Undo}
use Rattle.rc_script.specs.Says.{Saying, SaysStep, Says}
use Rattle.rc_script.specs.RunLines.{least_limited, step_mark}
use Rattle.rc_cli.specs.Begun.{BeginsWith, SaysMarked, SaysWay}

-- no byte of a line is its newline
no_newline : (line : List ℕ) → (Contains line 10 → ⊥)
    → AllByRecursion (λ byte. (byte == 10) ≡ false) line
no_newline [] bare = tt
no_newline (x ∷ xs) bare = (
  ne_eqb x 10 (λ is. bare (0, omega arith, is)),
  no_newline xs (λ has. bare (suc has.0, omega (arith, has.1), has.2)),
)

-- the part before the first newline is the first of the parts between newlines
front_part : (line rest : List ℕ) → (Contains line 10 → ⊥)
    → slice_split (λ byte. byte == 10) (line ++ 10 ∷ rest)
    ≡ line ∷ slice_split (λ byte. byte == 10) rest
front_part line rest bare =
    slice_split_at (λ byte. byte == 10) line 10 rest
    (All-from_recursion (λ byte. (byte == 10) ≡ false) line (no_newline line bare)) refl

-- what has no newline at any place contains none
bare_of : (line : List ℕ) → All (λ byte. byte ≢ 10) line → Contains line 10 → ⊥
bare_of line whole has = whole has.0 10 has.1 has.2

-- lines without a newline that stand at the front of one text are one
same_front : (line other rest more : List ℕ) → (Contains line 10 → ⊥) → (Contains other 10 → ⊥)
    → line ++ 10 ∷ rest ≡ (other ++ 10 ∷ []) ++ more → line ≡ other
same_front line other rest more bare torn same =
    let parts : line ∷ slice_split (λ byte. byte == 10) rest
    ≡ other ∷ slice_split (λ byte. byte == 10) more =
    sym (front_part line rest bare)
    ∙ ap (slice_split (λ byte. byte == 10)) (same ∙ append_assoc other (10 ∷ []) more)
    ∙ front_part other more torn in
    cc

-- bytes without a newline do not begin with a line
pub none_said : (bytes : List ℕ) (command : Command) → All (λ byte. byte ≢ 10) bytes
    → BeginsWith command bytes → ⊥
none_said bytes command plain says =
    let line : List ℕ = says.3.0 in
    let text = says.3.1.0 in
    let whole : bytes ≡ line ++ 10 ∷ says.1 =
    says.2 ∙ ap (λ (t : List ℕ). t ++ says.1) text ∙ append_assoc line (10 ∷ []) says.1 in
    bare_of bytes plain (subst (λ (b : List ℕ). Contains b 10) (sym whole)
    (Contains-append_right line (10 ∷ says.1) 10 (0, omega arith, refl)))

-- bytes without a newline have no line that is marked
pub none_marked : (bytes : List ℕ) → All (λ byte. byte ≢ 10) bytes → SaysMarked bytes → ⊥
none_marked bytes plain (line, rest, is, bare) =
    bare_of bytes plain (subst (λ (b : List ℕ). Contains b 10) (sym is)
    (Contains-append_right line (10 ∷ (step_mark ++ rest)) 10 (0, omega arith, refl)))

-- behind the first line stands what stands behind the one that is marked
abbrev tail_of : List ℕ → List ℕ
tail_of [] = []
tail_of (x ∷ xs) = xs

-- bytes have a marked line where the mark stands behind their first line
pub marked_behind : (bytes line rest : List ℕ) (answer : Bool)
    → (bytes ≡ line ++ 10 ∷ rest) × All (λ byte. byte ≢ 10) line
    → (IsTrue answer ↔ ((more : List ℕ) × (rest ≡ step_mark ++ more)))
    → IsTrue answer ↔ SaysMarked bytes
marked_behind bytes line rest answer cut says = (
  λ yes.
      let (more, is) = says.0 yes in
      (line, more, cut.0 ∙ ap (λ (t : List ℕ). line ++ 10 ∷ t) is, bare_of line cut.1),
  λ (other, more, is, bare).
      let same : line ≡ other =
      same_front line other rest (step_mark ++ more) (bare_of line cut.1) bare
      (sym cut.0 ∙ is ∙ sym (append_assoc other (10 ∷ []) (step_mark ++ more))) in
      let both : 10 ∷ rest ≡ 10 ∷ (step_mark ++ more) =
      append_cancel_left line (10 ∷ rest) (10 ∷ (step_mark ++ more))
      (sym cut.0 ∙ is ∙ ap (λ (t : List ℕ). t ++ 10 ∷ (step_mark ++ more)) (sym same)) in
      says.1 (more, ap tail_of both),
)

-- what the first line says is the command that bytes begin with
pub said_once : (bytes line rest : List ℕ) (command : Command) (saying : Saying)
    → ((l : List ℕ) (a b : Saying) → Says l a → Says l b → a ≡ b)
    → (bytes ≡ line ++ 10 ∷ rest) × All (λ byte. byte ≢ 10) line → Says line saying
    → BeginsWith command bytes → saying ≡ SaysStep (least_limited command)
said_once bytes line rest command saying one cut said says =
    let other : List ℕ = says.3.0 in
    let text = says.3.1 in
    let same : line ≡ other =
    same_front line other rest says.1 (bare_of line cut.1) text.1
    (sym cut.0 ∙ says.2 ∙ ap (λ (t : List ℕ). t ++ says.1) text.0) in
    one line saying (SaysStep (least_limited command)) said
    (subst (λ (l : List ℕ). Says l (SaysStep (least_limited command))) (sym same) says.3.2)

-- and they begin with it where the first line says it
pub says_it : (bytes line rest : List ℕ) (command : Command)
    → (bytes ≡ line ++ 10 ∷ rest) × All (λ byte. byte ≢ 10) line
    → Says line (SaysStep (least_limited command)) → BeginsWith command bytes
says_it bytes line rest command cut said = (
  line ++ 10 ∷ [],
  rest,
  cut.0 ∙ sym (append_assoc line (10 ∷ []) rest),
  (line, (refl, bare_of line cut.1), said),
)

-- the command that is said is the one that was read
pub read_once : (read other : Command) → SaysStep read ≡ SaysStep other → read ≡ other
read_once read other same = cc

-- a command is an undo or a redo, or else bytes begin with none
pub way_said : (bytes line rest : List ℕ) (read : Command)
    (answer : Bool) → ((l : List ℕ) (a b : Saying) → Says l a → Says l b → a ≡ b)
    → (bytes ≡ line ++ 10 ∷ rest) × All (λ byte. byte ≢ 10) line → Says line (SaysStep read)
    → (IsTrue answer ↔ ((read ≡ Undo 1 []) ⊎ (read ≡ Redo 1 []))) → IsTrue answer ↔ SaysWay bytes
way_said bytes line rest read answer one cut said is = (
  λ yes. elim (is.0 yes) [
    | inl undo ↦ inl (says_it bytes line rest (Undo 1 []) cut
        (subst (λ (c : Command). Says line (SaysStep c)) undo said))
    | inr redo ↦ inr (says_it bytes line rest (Redo 1 []) cut
        (subst (λ (c : Command). Says line (SaysStep c)) redo said))
  ],
  λ says. is.1 (elim says [
    | inl undo ↦ inl (read_once read (Undo 1 [])
        (said_once bytes line rest (Undo 1 []) (SaysStep read) one cut said undo))
    | inr redo ↦ inr (read_once read (Redo 1 [])
        (said_once bytes line rest (Redo 1 []) (SaysStep read) one cut said redo))
  ]),
)

-- bytes whose first line says no command begin with no undo or redo
pub no_way : (bytes line rest : List ℕ) (saying : Saying)
    → ((l : List ℕ) (a b : Saying) → Says l a → Says l b → a ≡ b)
    → (bytes ≡ line ++ 10 ∷ rest) × All (λ byte. byte ≢ 10) line → Says line saying
    → ((command : Command) → saying ≡ SaysStep command → ⊥) → SaysWay bytes → ⊥
no_way bytes line rest saying one cut said none says = elim says [
  | inl undo ↦
      none (Undo 1 []) (said_once bytes line rest (Undo 1 []) saying one cut said undo)
  | inr redo ↦
      none (Redo 1 []) (said_once bytes line rest (Redo 1 []) saying one cut said redo)
]

-- what stands behind the text of a session is one
pub behind_once : (P : List ℕ → Type 0) (file log rest : List ℕ) (answer : Bool)
    → log ≡ file ++ rest → (IsTrue answer ↔ P rest)
    → IsTrue answer ↔ ((more : List ℕ) × (log ≡ file ++ more) × P more)
behind_once P file log rest answer log_is says = (
  λ yes. (rest, log_is, says.0 yes),
  λ there. says.1 (subst P (append_cancel_left file there.0 rest (sym there.1 ∙ log_is)) there.2),
)

-- bytes begin with others where what stands behind those was found
pub is_behind : (found : Option (Bor (List ℕ))) (answer : Bool) (front bytes : List ℕ)
    → answer ≡ is_some found
    → MatchOption found ((rest : List ℕ) → bytes ≡ front ++ rest → ⊥)
    (λ rest. bytes ≡ front ++ rest.now)
    → IsTrue answer ↔ ((more : List ℕ) × (bytes ≡ front ++ more))
is_behind None answer front bytes is none = (
  λ yes. absurd (let bad : false ≡ true = sym is ∙ yes in cc),
  λ there. absurd (none there.0 there.1),
)
is_behind (Some rest) answer front bytes is at = (λ yes. (rest.now, at), λ there. is)
