-- The marks that the ends of the present generation have after a command, and which of its ends are
-- still there.
use Rattle.std.specs.Prelude.{◌≡◌, ◌↔◌, ◌==◌, ◌&&◌, ℕ, Bool, true, false, not, nat_lt, IsTrue}
use Rattle.std.specs.Prelude.{List, length, if◌then◌else◌}
use Rattle.rc_livetext.specs.Text.{LiveText}
use Rattle.rc_historytext.specs.declared.keeping.Keeping.{Keeping}
use Rattle.rc_historytext.specs.declared.keeping.Keeping.TheVariants.{Command, Way, Step, Seal}
use Rattle.rc_historytext.specs.declared.marks.Marks.{Marks}
use Rattle.rc_historytext.specs.Text.{GenerationText}
use Rattle.rc_historytext.specs.States.{IsSession, newest_state, oldest_state}

-- no state comes before the current one
abbrev pub is_first : LiveText → Bool
is_first s = length s.before == 0

-- none comes after it
abbrev pub is_last : LiveText → Bool
is_last s = length s.after == 0

-- the oldest state is still there; a seal keeps the current one alone
abbrev pub KeepsFirst : Keeping → LiveText → LiveText → Type 0
KeepsFirst Command old new = oldest_state new ≡ oldest_state old
KeepsFirst Way old new = oldest_state new ≡ oldest_state old
KeepsFirst Step old new = oldest_state new ≡ oldest_state old
KeepsFirst Seal old new = ⊥

-- the newest state is still there, and the command is an undo or a redo: the others cut off what
-- comes after the current state
abbrev pub KeepsLast : Keeping → LiveText → LiveText → Type 0
KeepsLast Command old new = ⊥
KeepsLast Way old new = newest_state new ≡ newest_state old
KeepsLast Step old new = ⊥
KeepsLast Seal old new = ⊥

-- the command led back in the present generation
abbrev pub is_back : (keeps_first : Bool) → LiveText → LiveText → Bool
is_back keeps_first old new = keeps_first && nat_lt (length new.before) (length old.before)

-- a command that begins on the first state makes it a stop, since an undo of it ends there
abbrev pub first_mark : Keeping → Bool → LiveText → Bool
first_mark Command mark old = mark && not (is_first old)
first_mark Way mark old = mark
first_mark Step mark old = mark
first_mark Seal mark old = mark

-- a step that did not lead back passes the state that it came to; what another command comes to is
-- a stop
abbrev pub last_mark : Keeping → (back : Bool) → Bool → Bool
last_mark Command back mark = false
last_mark Way back mark = mark
last_mark Step back mark = not back
last_mark Seal back mark = false

-- a state that is the only one has the mark of the first, if the command came back to it
abbrev pub comes_back : Keeping → (back : Bool) → Bool
comes_back Command back = back
comes_back Way back = true
comes_back Step back = back
comes_back Seal back = back

-- the marks of the first state and of the last, if they are two
abbrev pub first_of_two : Keeping → Marks → GenerationText → LiveText → Bool
first_of_two keeping m g old = m.keeps_first && first_mark keeping g.first_passed old

abbrev pub last_of_two : Keeping → Marks → GenerationText → LiveText → LiveText → Bool
last_of_two keeping m g old new =
    last_mark keeping (is_back m.keeps_first old new) (m.keeps_last && g.last_passed)

-- that of a state that is the only one
abbrev pub mark_alone : Keeping → Marks → GenerationText → LiveText → LiveText → Bool
mark_alone keeping m g old new =
    if comes_back keeping (is_back m.keeps_first old new) then first_of_two keeping m g old
    else last_of_two keeping m g old new

-- one state is left
abbrev pub is_alone : LiveText → Bool
is_alone s = is_first s && is_last s

-- the marks of a generation after a command that led from the one session to the other, and which
-- ends are still there
pub record AreMarks (keeping : Keeping) (g : GenerationText) (old new : LiveText) (m : Marks)
    : Type 0 where
  pub keeps_first : IsTrue m.keeps_first ↔ KeepsFirst keeping old new
  pub keeps_last : IsTrue m.keeps_last ↔ KeepsLast keeping old new
  pub first : m.first_passed ≡ (if is_alone new then mark_alone keeping m g old new
      else first_of_two keeping m g old)
  pub last : m.last_passed ≡ (if is_alone new then mark_alone keeping m g old new
      else last_of_two keeping m g old new)

-- the same of the texts of both
abbrev pub HasMarks : Keeping → GenerationText → List ℕ → Marks → Type 0
HasMarks keeping g session m =
    (old : LiveText) × (new : LiveText) × IsSession g.session old × IsSession session new
    × AreMarks keeping g old new m
