-- What a command makes of the text of a history.
use Rattle.std.specs.Prelude.{◌≡◌, ◌⊎◌, ℕ, Bool, List, if◌then◌else◌}
use Rattle.rc_historytext.specs.declared.keeping.Keeping.{Keeping}
use Rattle.rc_historytext.specs.declared.keeping.Keeping.TheVariants.{Command, Way, Step, Seal}
use Rattle.rc_historytext.specs.declared.marks.Marks.{Marks}
use Rattle.rc_historytext.specs.Text.{GenerationText, HistoryText, IsHistoryText, history_text}
use Rattle.rc_historytext.specs.Moves.{with_session, without_earlier, without_later}
use Rattle.rc_historytext.specs.States.{Cuts}
use Rattle.rc_historytext.specs.Present.{IsAt, IsPresent}
use Rattle.rc_historytext.specs.Marking.{HasMarks}

-- the history afterwards: the session stands in the place of that of the present generation, with
-- these marks, and what lies beyond a state that was dropped is dropped with it
abbrev pub cut_later : Bool → HistoryText → HistoryText
cut_later kept t = if kept then t else without_later t

abbrev pub cut_earlier : Bool → HistoryText → HistoryText
cut_earlier kept t = if kept then t else without_earlier t

abbrev pub left_by : Marks → HistoryText → List ℕ → HistoryText
left_by m t session =
    cut_earlier m.keeps_first
    (cut_later m.keeps_last (with_session t session m.first_passed m.last_passed))

-- a command puts a session into a history, whose present generation it is then the session of
pub record PutsInto (keeping : Keeping) (t : HistoryText) (g : GenerationText) (session : List ℕ)
    (new : HistoryText) : Type 0 where
  pub m : Marks
  pub marks : HasMarks keeping g session m
  pub is : IsHistoryText new
  pub left : new ≡ left_by m t session

-- the text of a history afterwards, if another session is put there
abbrev pub IsPut : Keeping → (bytes session kept : List ℕ) → Type 0
IsPut keeping bytes session kept =
    (t : HistoryText) × (g : GenerationText) × (new : HistoryText) × IsAt bytes t g
    × PutsInto keeping t g session new × (kept ≡ history_text new)

-- the present session has this text already
abbrev pub StandsThere : (bytes session : List ℕ) → Type 0
StandsThere bytes session = (database : List ℕ) × IsPresent bytes database session

-- the text of a history afterwards, if the session is put there or stands there already
abbrev pub IsPutOnce : Keeping → (bytes session kept : List ℕ) → Type 0
IsPutOnce keeping bytes session kept =
    (StandsThere bytes session × (kept ≡ bytes))
    ⊎ ((StandsThere bytes session → ⊥) × IsPut keeping bytes session kept)

-- the same of a step: it cuts off what comes after the current state, unless it has moved nothing
abbrev pub IsKeptStep : (bytes session kept : List ℕ) → Type 0
IsKeptStep bytes session kept =
    (StandsThere bytes session × (kept ≡ bytes))
    ⊎ ((StandsThere bytes session → ⊥)
    × (cut : List ℕ) × Cuts session cut × IsPutOnce Step bytes cut kept)

-- the text of a history afterwards; a session that is sealed is put there in any case
abbrev pub IsKept : Keeping → (bytes session kept : List ℕ) → Type 0
IsKept Command bytes session kept = IsPutOnce Command bytes session kept
IsKept Way bytes session kept = IsPutOnce Way bytes session kept
IsKept Step bytes session kept = IsKeptStep bytes session kept
IsKept Seal bytes session kept = IsPut Seal bytes session kept
