-- The numbers of the states of a history: those of all generations are counted, from 0.
use Rattle.std.specs.Prelude.{◌≡◌, ◌⊎◌, ◌+◌, ◌||◌, ℕ, zero, suc, Bool, false, List, [], ◌∷◌, ◌++◌}
use Rattle.std.specs.Prelude.{length, replicate, slice_get, Some}
use Rattle.std.specs.List.{AllZip}
use Rattle.rc_model.specs.Database.{Database}
use Rattle.rc_model.specs.Line.{Line}
use Rattle.rc_model.specs.Session.{IsLineOf}
use Rattle.rc_dbtext.specs.Base.{Spells}
use Rattle.rc_livetext.specs.Spelling.{Spells as SpellsLine}
use Rattle.rc_livetext.specs.Text.{LiveText}
use Rattle.rc_historytext.specs.States.{IsSession}
use Rattle.rc_historytext.specs.Text.{GenerationText, HistoryText, IsHistoryText, history_text}
use Rattle.rc_launch.specs.declared.numbers.GenerationFault.{GenerationFault}
use Rattle.rc_launch.specs.declared.numbers.GenerationFault.TheVariants.{Memory, Untold}

-- the texts of the sessions of generations say this
abbrev pub SaySessions : List GenerationText → List LiveText → Type 0
SaySessions generations sessions = AllZip (λ g s. IsSession g.session s) generations sessions

-- how many states of a session come behind its oldest one
abbrev pub states_behind : LiveText → ℕ
states_behind s = length s.before + length s.after

-- whether an undo and a redo go on from each state of a generation, with so many behind the oldest:
-- from the first and from the last, as its marks say; a state that is the only one is both
abbrev pub marks_of : (first last : Bool) → (behind : ℕ) → List Bool
marks_of first last zero = (first || last) ∷ []
marks_of first last (suc between) = first ∷ (replicate between false ++ last ∷ [])

-- the same of the states of all generations, oldest first
abbrev pub marks_in : List GenerationText → List LiveText → List Bool
marks_in [] sessions = []
marks_in (g ∷ generations) [] = []
marks_in (g ∷ generations) (s ∷ sessions) =
    marks_of g.first_passed g.last_passed (states_behind s) ++ marks_in generations sessions

-- the number of the current state of the generation at a place
abbrev pub number_at : (place : ℕ) → List LiveText → ℕ
number_at place [] = 0
number_at zero (s ∷ sessions) = length s.before
number_at (suc place) (s ∷ sessions) = suc (states_behind s) + number_at place sessions

-- a history stands on the state of this number, and these are the marks of all its states
abbrev pub AreNumbered : (bytes : List ℕ) → (at : ℕ) → (marks : List Bool) → Type 0
AreNumbered bytes at marks = (t : HistoryText) × IsHistoryText t × (bytes ≡ history_text t)
    × ((sessions : List LiveText) × SaySessions t.generations sessions
    × (at ≡ number_at t.present sessions) × (marks ≡ marks_in t.generations sessions))

-- a generation by its texts: a database, and the line of a session of it
pub record Told (g : GenerationText) : Type 0 where
  pub base : Database
  pub line : Line
  pub says : Spells (Some g.database) [] base []
  pub line_of : IsLineOf base line
  pub spelled : SpellsLine base g.session line

-- the texts of a generation are not those of a database and of a session of it
abbrev pub IsUntold : GenerationText → Type 0
IsUntold g = ((s : LiveText) → IsSession g.session s → ⊥) ⊎ (Told g → ⊥)

-- the generation of a history at this place is such
abbrev pub HasUntold : (bytes : List ℕ) → (place : ℕ) → Type 0
HasUntold bytes place = (t : HistoryText) × IsHistoryText t × (bytes ≡ history_text t)
    × ((g : GenerationText) × (slice_get t.generations place ≡ Some g) × IsUntold g)

-- that is why something is not made of a history, or memory ran out
abbrev pub IsUntoldFault : (bytes : List ℕ) → GenerationFault → Type 0
IsUntoldFault bytes (Untold place) = HasUntold bytes place
IsUntoldFault bytes Memory = Unit {0}
