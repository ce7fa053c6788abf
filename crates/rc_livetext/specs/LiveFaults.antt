-- When bytes are refused that are to be a live text.
use Rattle.std.specs.Prelude.{◌≡◌, ◌≢◌, ◌+◌, ◌⊎◌, ℕ, List, [], length, All}
use Rattle.rc_model.specs.Database.{Database}
use Rattle.rc_livetext.specs.declared.form_fault.FormFault.TheVariants as form
use Rattle.rc_livetext.specs.Text.{LiveText, live_text}
use Rattle.rc_livetext.specs.Refusals.{BeginsWith, IsRefused}
use Rattle.rc_livetext.specs.declared.fault.LiveFault.{LiveFault}
use Rattle.rc_livetext.specs.declared.fault.LiveFault.TheVariants.{Bad, Version, Unknown, NotClosed}
use Rattle.rc_livetext.specs.declared.fault.LiveFault.TheVariants.{SameState, OtherDb, Memory}
use Rattle.rc_livetext.specs.declared.fault.LiveFault.TheVariants.{OverBound}
use Rattle.rc_livetext.specs.Meaning.{IsClosedState, IsFirstNot, IsKnownState, IsOver, TextsDiffer}
use Rattle.rc_livetext.specs.Meaning.{all_states}
use Rattle.rc_livetext.specs.Meaning.{PassesServices, PassesNames, PassesClosed, PassesDiffer}

-- a line has not the form that is due, and begins at this offset
abbrev pub IsBadAt : List ℕ → ℕ → Type 0
IsBadAt bytes offset =
    (left : ℕ) × (offset + left ≡ length bytes) × IsRefused bytes (form.Bad left)

-- after a text stand more bytes, from this offset on
abbrev pub HasMoreAt : List ℕ → ℕ → Type 0
HasMoreAt bytes offset =
    (t : LiveText) × (rest : List ℕ)
    × BeginsWith bytes t rest × (rest ≢ []) × (offset ≡ length (live_text t))

-- when what a text says is refused, in this order: other services, names that stand for none, a
-- state that is not closed, equal neighbours, too many states
abbrev pub IsMeaningFault : Database → LiveText → LiveFault → Type 0
IsMeaningFault d t (Bad offset) = ⊥
IsMeaningFault d t Version = ⊥
IsMeaningFault d t OtherDb = PassesServices d t → ⊥
IsMeaningFault d t Unknown =
    PassesServices d t × (All (IsKnownState d.names) (all_states t) → ⊥)
IsMeaningFault d t (NotClosed place) =
    PassesNames d t × IsFirstNot (IsClosedState d) (all_states t) place
IsMeaningFault d t SameState = PassesClosed d t × (TextsDiffer (all_states t) → ⊥)
IsMeaningFault d t OverBound = PassesDiffer d t × IsOver t
IsMeaningFault d t Memory = Unit {0}

-- when bytes are refused: for their form, bytes after a text among that, and where they are a text
-- for what it says
abbrev pub IsLiveFault : Database → List ℕ → LiveFault → Type 0
IsLiveFault d bytes (Bad offset) = IsBadAt bytes offset ⊎ HasMoreAt bytes offset
IsLiveFault d bytes Version = IsRefused bytes form.Version
IsLiveFault d bytes Memory = Unit {0}
IsLiveFault d bytes fault =
    (t : LiveText) × BeginsWith bytes t [] × IsMeaningFault d t fault
