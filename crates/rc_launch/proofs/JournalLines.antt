-- The lines of a journal: the end of the last one, and those of one generation more.
use Rattle.std.proofs.Common.{◌≡◌, ◌∙◌, ◌<◌, ◌+◌, ℕ, suc, Bool, true, false, List}
use Rattle.std.proofs.Common.{[], ◌∷◌, ◌++◌, Option, Some, None, length, refl, sym, ap, subst}
use Rattle.std.proofs.Common.{append_assoc, arith, codes}
use Rattle.std.proofs.lemmas.List.{append-nil}
use Rattle.std.proofs.lemmas.Option.{same_Some}
use Rattle.std.specs.Borrow.{Bor}
use Rattle.std.specs.Prelude.{option_map}
use Rattle.rc_model.specs.Database.{Database, IsDatabase}
use Rattle.rc_model.specs.Line.{Line, State, states}
use Rattle.rc_model.specs.Session.{IsLineOf}
use Rattle.rc_db.specs.Database.{IsWritable}
use Rattle.rc_dbtext.specs.Base.{Spells}
use Rattle.rc_dbtext.specs.Spelling.{spelling as database_text}
use Rattle.rc_livetext.specs.Spelling.{Spells as SpellsLine}
use Rattle.rc_render.specs.JournalText.{AreEntryLines}
use Rattle.rc_historytext.specs.Text.{GenerationText}
use Rattle.rc_launch.specs.HistoryJournal.{AreLines, AreLinesOf, ArePassing}
use Rattle.rc_launch.specs.Numbers.{Told}

-- a text ends in a newline
abbrev IsEnded : List ℕ → Type 0
IsEnded text = (front : List ℕ) × (text ≡ front ++ 10 ∷ [])

-- the lines of the entries of two states or more do
lines_end : (names : List (List ℕ)) (n : ℕ) (a b : State) (rest : List State) (text : List ℕ)
    → AreEntryLines names n (a ∷ b ∷ rest) text → IsEnded text
lines_end names n a b [] text (first, others, (edit, is_edit, is), none, whole) =
    (_, whole ∙ ap (λ (t : List ℕ). first ++ t) none ∙ append-nil first ∙ is)
lines_end names n a b (c ∷ rest) text (first, others, is, more, whole) =
    let (front, ends) = lines_end names (suc n) b c rest others more in (
      first ++ front,
      whole ∙ ap (λ (t : List ℕ). first ++ t) ends
          ∙ sym (append_assoc first front (10 ∷ [])),
    )

pub lines_ended : (names : List (List ℕ)) (n : ℕ) (all : List State) (text : List ℕ)
    → 1 < length all → AreEntryLines names n all text → IsEnded text
lines_ended names n [] text some lines = absurd (omega (arith, some))
lines_ended names n (a ∷ []) text some lines = absurd (omega (arith, some))
lines_ended names n (a ∷ b ∷ rest) text some lines = lines_end names n a b rest text lines

-- the lines of generations, and the number of the first state behind them
abbrev pub AddsLines : (first next : ℕ) → List GenerationText → List ℕ → Type 0
AddsLines first next [] text = (next ≡ first) × (text ≡ [])
AddsLines first next (g ∷ generations) text = (told : Told g) × (own : List ℕ) × (others : List ℕ)
    × AreLinesOf first g told own
    × AddsLines (first + length (states told.line)) next generations others
    × (text ≡ own ++ others)

-- they are the lines of these generations
pub adds_lines : (first next : ℕ) (gs : List GenerationText) (text : List ℕ)
    → AddsLines first next gs text → AreLines first gs text
adds_lines first next [] text (same, none) = none
adds_lines first next (g ∷ gs) text (told, own, others, is, more, whole) = (
  told,
  own,
  others,
  is,
  adds_lines (first + length (states told.line)) next gs others more,
  whole,
)

-- one generation more
pub adds_more : (first next last : ℕ) (gs : List GenerationText) (g : GenerationText)
    (text own : List ℕ) (told : Told g) → AddsLines first next gs text → AreLinesOf next g told own
    → last ≡ next + length (states told.line) → AddsLines first last (gs ++ g ∷ []) (text ++ own)
adds_more first next last [] g text own told (same, none) is counts = (
  told,
  own,
  [],
  subst (λ (n : ℕ). AreLinesOf n g told own) same is,
  (counts ∙ ap (λ (n : ℕ). n + length (states told.line)) same, refl),
  ap (λ (t : List ℕ). t ++ own) none ∙ sym (append-nil own),
)
adds_more first next last (f ∷ gs) g text own told (was, before, others, at, more, whole) is
    counts = (
      was,
      before,
      others ++ own,
      at,
      adds_more (first + length (states was.line)) next last gs g others own told more is counts,
      ap (λ (t : List ℕ). t ++ own) whole ∙ append_assoc before others own,
    )

-- a text is of one database
one_base : (text : List ℕ) (d e : Database)
    → ((a b : Database) (x y : List ℕ) → IsDatabase a → IsWritable a → IsDatabase b
    → IsWritable b → database_text a ++ x ≡ database_text b ++ y → a ≡ b)
    → Spells (Some text) [] d [] → Spells (Some text) [] e [] → d ≡ e
one_base text d e one first second =
    one d e [] [] first.0 first.1 second.0 second.1
    (ap (λ (t : List ℕ). t ++ []) (sym first.2 ∙ second.2))

-- a generation is told by no texts of which that of its session is of no line
pub none_told : (g : GenerationText) (database session : List ℕ) (d : Database)
    → database ≡ g.database → session ≡ g.session
    → ((a b : Database) (x y : List ℕ) → IsDatabase a → IsWritable a → IsDatabase b
    → IsWritable b → database_text a ++ x ≡ database_text b ++ y → a ≡ b)
    → Spells (Some database) [] d []
    → ((line : Line) → IsLineOf d line → SpellsLine d session line → ⊥) → Told g → ⊥
none_told g database session d its own one is none told =
    let here : Spells (Some g.database) [] d [] =
    subst (λ (t : List ℕ). Spells (Some t) [] d []) its is in
    let same : told.base ≡ d = one_base g.database told.base d one told.says here in
    none told.line (subst (λ (b : Database). IsLineOf b told.line) same told.line_of)
    (subst (λ (t : List ℕ). SpellsLine d t told.line) (sym own)
    (subst (λ (b : Database). SpellsLine b g.session told.line) same told.spelled))

-- the lines of entries say that they lead to a passed state, or they do not
pub are_passing : (b : Bool) (lines text front : List ℕ) → b ≡ true → lines ≡ front ++ 10 ∷ []
    → text ≡ front ++ codes " ..\n" → ArePassing b lines text
are_passing true lines text front passed ends is = (front, ends, is)
are_passing false lines text front passed ends is = absurd (let bad : false ≡ true = passed in cc)

pub not_passing : (b : Bool) (lines : List ℕ) → b ≡ false → ArePassing b lines lines
not_passing true lines stays = absurd (let bad : true ≡ false = stays in cc)
not_passing false lines stays = refl

-- the end of the last line of a text that grew by lines
pub ends_whole : (after front old border lines start : List ℕ) → after ≡ front ++ lines
    → front ≡ old ++ border → lines ≡ start ++ 10 ∷ []
    → after ≡ ((old ++ border) ++ start) ++ 10 ∷ []
ends_whole after front old border lines start grows bordered ends =
    grows ∙ ap (λ (t : List ℕ). t ++ lines) bordered
    ∙ ap (λ (t : List ℕ). (old ++ border) ++ t) ends
    ∙ sym (append_assoc (old ++ border) start (10 ∷ []))

-- four texts in a row
pub in_row : (a b c d : List ℕ) → ((a ++ b) ++ c) ++ d ≡ a ++ (b ++ (c ++ d))
in_row a b c d = append_assoc (a ++ b) c d ∙ append_assoc a b (c ++ d)

-- a text that grew by a border and lines
pub grows_by : (after front old border lines : List ℕ) → after ≡ front ++ lines
    → front ≡ old ++ border → after ≡ old ++ (border ++ lines)
grows_by after front old border lines grows bordered =
    grows ∙ ap (λ (t : List ℕ). t ++ lines) bordered ∙ append_assoc old border lines

-- a text that is there, where its bytes are known
pub found : (text : Option (Bor (List ℕ))) (bytes : List ℕ)
    → option_map (λ (t : Bor (List ℕ)). t.now) text ≡ Some bytes
    → (b : Bor (List ℕ)) × (text ≡ Some b) × (b.now ≡ bytes)
found None bytes is = absurd (let bad : None ≡ Some bytes = is in cc)
found (Some b) bytes is = (b, refl, same_Some b.now bytes is)
