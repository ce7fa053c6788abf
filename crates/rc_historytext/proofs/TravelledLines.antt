-- A line and the next one, as their texts have them.
use Rattle.std.proofs.Common.{◌≡◌, ◌≢◌, ◌∙◌, ◌-◌, ◌==◌, ◌&&◌, inl, inr, ℕ, suc}
use Rattle.std.proofs.Common.{Bool, true, false, List, [], ◌∷◌, ◌++◌, length, map, get_or, Option}
use Rattle.std.proofs.Common.{Some, None, arith, refl, sym, ap, length-append}
use Rattle.std.proofs.Common.{if◌then◌else◌}
use Rattle.std.proofs.lemmas.Bool.{and_left, and_right, ne_eqb}
use Rattle.std.proofs.lemmas.List.{append-nil}
use Rattle.rc_model.specs.Database.{Database, IsDatabase}
use Rattle.rc_model.specs.Line.{State, Line, IsNext}
use Rattle.rc_model.specs.Session.{IsLineOf}
use Rattle.rc_livetext.specs.Text.{LiveText, StateText, IsLiveText, live_text}
use Rattle.rc_livetext.specs.Spelling.{Spells, state_text, text_with, text_of, old_text_of}
use Rattle.rc_livetext.specs.Spelling.{spelling, old_spelling}
use Rattle.rc_historytext.specs.declared.keeping.Keeping.TheVariants.{Way}
use Rattle.rc_historytext.specs.declared.marks.Marks.{Marks}
use Rattle.rc_historytext.specs.Text.{GenerationText, HistoryText}
use Rattle.rc_historytext.specs.Moves.{with_session}
use Rattle.rc_historytext.specs.States.{IsSession, first_of, newest_state, oldest_state}
use Rattle.rc_historytext.specs.Marking.{AreMarks, is_alone, is_first, is_last, mark_alone}
use Rattle.rc_historytext.specs.Keeping.{cut_earlier, cut_later, left_by}

pub some_before : (line next : Line) → IsNext line next → next.before ≢ []
some_before line next is none =
    absurd (omega (
      arith,
      ap length is.left,
      ap length none,
      length-append line.before (line.current ∷ []),
    ))

pub some_after : (line next : Line) → IsNext line next → line.after ≢ []
some_after line next is none = absurd (omega (arith, ap length is.reached, ap length none))

-- a line is not its own next one
pub not_next : (line next : Line) → IsNext line next → line ≢ next
not_next line next is same =
    absurd (omega (
      arith,
      ap length is.left,
      ap (λ (l : Line). length l.before) same,
      length-append line.before (line.current ∷ []),
    ))

-- the texts of a line and of the next one have the same oldest state
pub oldest_pushed : (f : State → StateText) (xs : List State) (y z : State)
    → first_of (map f (xs ++ y ∷ [])) (f z) ≡ first_of (map f xs) (f y)
oldest_pushed f [] y z = refl
oldest_pushed f (x ∷ xs) y z = refl

pub same_oldest : (d : Database) (b c : Option ℕ) (line next : Line) → IsNext line next
    → oldest_state (text_with b d next) ≡ oldest_state (text_with c d line)
same_oldest d b c line next is =
    ap (λ (ss : List State). first_of (map (state_text d.names) ss)
    (state_text d.names next.current)) is.left
    ∙ oldest_pushed (state_text d.names) line.before line.current next.current

-- and the same newest one
any_end : (y : StateText) (ys : List StateText) (a b : StateText)
    → get_or (y ∷ ys) (length ys) a ≡ get_or (y ∷ ys) (length ys) b
any_end y [] a b = refl
any_end y (z ∷ ys) a b = any_end z ys a b

newest_pushed : (x : StateText) (xs : List StateText) (d : StateText)
    → get_or (x ∷ xs) (length (x ∷ xs) - 1) d ≡ get_or xs (length xs - 1) x
newest_pushed x [] d = refl
newest_pushed x (y ∷ ys) d =
    let one : length (x ∷ y ∷ ys) - 1 ≡ suc (length ys) = omega arith in
    let other : length (y ∷ ys) - 1 ≡ length ys = omega arith in
    ap (λ (n : ℕ). get_or (x ∷ y ∷ ys) n d) one
    ∙ any_end y ys d x
    ∙ ap (λ (n : ℕ). get_or (y ∷ ys) n x) (sym other)

pub same_newest : (d : Database) (b c : Option ℕ) (line next : Line) → IsNext line next
    → newest_state (text_with b d next) ≡ newest_state (text_with c d line)
same_newest d b c line next is =
    let f : State → StateText = state_text d.names in
    sym (ap (λ (ss : List State). get_or (map f ss) (length (map f ss) - 1) (f line.current))
    is.reached
    ∙ newest_pushed (f next.current) (map f next.after) (f line.current))

-- neither of them is alone
pub no_count : {A : Type 0} (xs : List A) → xs ≢ [] → (length xs == 0) ≡ false
no_count [] some = absurd (some refl)
no_count (x ∷ xs) some = ne_eqb (suc (length xs)) 0 (λ same. absurd (omega (arith, same)))

no_mapped : (f : State → StateText) (xs : List State) → xs ≢ [] → map f xs ≢ []
no_mapped f [] some none = some refl
no_mapped f (x ∷ xs) some none = absurd (omega (arith, ap length none))

pub next_not_alone : (d : Database) (b : Option ℕ) (line next : Line) → IsNext line next
    → is_alone (text_with b d next) ≡ false
next_not_alone d b line next is =
    and_left (is_first (text_with b d next)) (is_last (text_with b d next))
    (no_count (map (state_text d.names) next.before)
    (no_mapped (state_text d.names) next.before (some_before line next is)))

pub not_alone : (d : Database) (b : Option ℕ) (line next : Line) → IsNext line next
    → is_alone (text_with b d line) ≡ false
not_alone d b line next is =
    and_right (is_first (text_with b d line)) (is_last (text_with b d line))
    (no_count (map (state_text d.names) line.after)
    (no_mapped (state_text d.names) line.after (some_after line next is)))

-- the laws of the texts of lines
pub record TextLaws : Type 0 where
  pub once : (a b : LiveText) (x y : List ℕ) → IsLiveText a → IsLiveText b
      → live_text a ++ x ≡ live_text b ++ y → a ≡ b
  pub new : (d : Database) (line : Line) → IsDatabase d → IsLineOf d line
      → IsLiveText (text_of d line)
  pub old : (d : Database) (line : Line) → IsDatabase d → IsLineOf d line
      → IsLiveText (old_text_of d line)

-- what a text of a line says
module _ (laws : TextLaws) (d : Database) (line : Line) (is : IsDatabase d) (of : IsLineOf d line)
    (bytes : List ℕ) (s : LiveText) (session : IsSession bytes s) where
  pub says_new : bytes ≡ spelling d line → s ≡ text_of d line
  unfolding spelling
  says_new spells =
      laws.once s (text_of d line) [] [] session.is (laws.new d line is of)
      (append-nil (live_text s) ∙ sym session.spelled ∙ spells
      ∙ sym (append-nil (live_text (text_of d line))))

  says_old : bytes ≡ old_spelling d line → s ≡ old_text_of d line
  unfolding old_spelling
  says_old spells =
      laws.once s (old_text_of d line) [] [] session.is (laws.old d line is of)
      (append-nil (live_text s) ∙ sym session.spelled ∙ spells
      ∙ sym (append-nil (live_text (old_text_of d line))))

  pub says_line : Spells d bytes line → (b : Option ℕ) × (s ≡ text_with b d line)
  says_line (inl spells) = (Some line.bound, says_new spells)
  says_line (inr spells) = (None, says_old spells.0)

-- an undo or a redo inside that drops nothing leaves both marks
pub way_leaves : (t : HistoryText) (g : GenerationText) (session : List ℕ) (old new : LiveText)
    (m : Marks) → AreMarks Way g old new m → oldest_state new ≡ oldest_state old
    → newest_state new ≡ newest_state old → is_alone new ≡ false
    → left_by m t session ≡ with_session t session g.first_passed g.last_passed
way_leaves t g session old new m are oldest newest alone =
    let first_there : m.keeps_first ≡ true = are.keeps_first.1 oldest in
    let last_there : m.keeps_last ≡ true = are.keeps_last.1 newest in
    let first : m.first_passed ≡ g.first_passed =
    are.first
    ∙ ap (λ (b : Bool). if b then mark_alone Way m g old new else (m.keeps_first && g.first_passed))
    alone
    ∙ ap (λ (b : Bool). b && g.first_passed) first_there in
    let last : m.last_passed ≡ g.last_passed =
    are.last
    ∙ ap (λ (b : Bool). if b then mark_alone Way m g old new else (m.keeps_last && g.last_passed))
    alone
    ∙ ap (λ (b : Bool). b && g.last_passed) last_there in
    λ i. cut_earlier (first_there i)
    (cut_later (last_there i) (with_session t session (first i) (last i)))
