-- The present generation of a history, and where it stands; the database of any generation.
use Rattle.std.specs.Prelude.{◌≡◌, ◌-◌, ◌==◌, ◌&&◌, ◌||◌, ℕ, Bool, true, false, nat_lt}
use Rattle.std.specs.Prelude.{List, length, Option, Some, option_map, slice_get}
use Rattle.rc_livetext.specs.Text.{LiveText}
use Rattle.rc_historytext.specs.Text.{GenerationText, HistoryText, IsHistoryText, history_text}
use Rattle.rc_historytext.specs.States.{IsSession}

-- the bytes are the text of a history, and this is its present generation
pub record IsAt (bytes : List ℕ) (t : HistoryText) (g : GenerationText) : Type 0 where
  pub is : IsHistoryText t
  pub spelled : bytes ≡ history_text t
  pub there : slice_get t.generations t.present ≡ Some g

-- the texts of the present generation of a history
abbrev pub IsPresent : List ℕ → (database session : List ℕ) → Type 0
IsPresent bytes database session =
    (t : HistoryText) × (g : GenerationText) × IsAt bytes t g
    × (g.database ≡ database) × (g.session ≡ session)

-- the bytes are the text of a history of so many generations, and this is the database of the one
-- at a place, if there is one
abbrev pub HoldsAt : List ℕ → (place count : ℕ) → Option (List ℕ) → Type 0
HoldsAt bytes place count database =
    (t : HistoryText) × IsHistoryText t × (bytes ≡ history_text t)
    × (count ≡ length t.generations)
    × (database ≡ option_map (λ g. g.database) (slice_get t.generations place))

-- where a history stands: the texts of the present generation; how many generations and states
-- come before and after; whether an undo and a redo go on from its first state and from its last
pub record StandingText : Type 0 where
  pub database : List ℕ
  pub session : List ℕ
  pub earlier : ℕ
  pub later : ℕ
  pub before : ℕ
  pub after : ℕ
  pub first_passed : Bool
  pub last_passed : Bool

-- where it stands, if the present session says this
abbrev pub standing : HistoryText → GenerationText → LiveText → StandingText
standing t g s = record {
  database = g.database;
  session = g.session;
  earlier = t.present;
  later = length t.generations - t.present - 1;
  before = length s.before;
  after = length s.after;
  first_passed = g.first_passed;
  last_passed = g.last_passed;
}

-- the history of these bytes stands there
abbrev pub StandsAt : List ℕ → StandingText → Type 0
StandsAt bytes there =
    (t : HistoryText) × (g : GenerationText) × (s : LiveText) × IsAt bytes t g
    × IsSession g.session s × (there ≡ standing t g s)

-- an undo and a redo go on from the current state
abbrev pub passes : StandingText → Bool
passes s = (s.before == 0 && s.first_passed) || (s.after == 0 && s.last_passed)

-- there is a state behind the current one in the present generation
abbrev pub has_inside : Bool → StandingText → Bool
has_inside true s = nat_lt 0 s.after
has_inside false s = nat_lt 0 s.before

-- there is a generation behind the present one
abbrev pub crosses : Bool → StandingText → Bool
crosses true s = nat_lt 0 s.later
crosses false s = nat_lt 0 s.earlier

-- an undo or a redo goes on from the state behind the current one in the present generation
abbrev pub passes_next : Bool → StandingText → Bool
passes_next true s = s.after == 1 && s.last_passed
passes_next false s = s.before == 1 && s.first_passed
