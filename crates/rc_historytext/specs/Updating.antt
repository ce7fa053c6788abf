-- What an update makes of the text of a history, step by step.
use Rattle.std.specs.Prelude.{◌≡◌, ◌+◌, ◌&&◌, ℕ, Bool, true, false, not, nat_lt, List, [], ◌∷◌}
use Rattle.std.specs.Prelude.{length, map, if◌then◌else◌}
use Rattle.std.specs.List.{filter}
use Rattle.rc_update.specs.Conversions.{Conversion}
use Rattle.rc_livetext.specs.Text.{LiveText}
use Rattle.rc_historytext.specs.Text.{GenerationText, HistoryText, RenameText, IsHistoryText}
use Rattle.rc_historytext.specs.Text.{history_text}
use Rattle.rc_historytext.specs.Moves.{begun, crossed_back, crossed_on, with_session}
use Rattle.rc_historytext.specs.States.{IsSession, Cuts}
use Rattle.rc_historytext.specs.Present.{IsAt}
use Rattle.rc_historytext.specs.Marking.{is_first, is_last}

-- a generation to which no renames led, whose states are stops
abbrev pub first_generation : (database session : List ℕ) → GenerationText
first_generation database session = record {
  first_passed = false;
  last_passed = false;
  database = database;
  session = session;
  renames = [];
}

-- a history of this generation alone
abbrev pub history_of : GenerationText → HistoryText
history_of g = record { present = 0; generations = g ∷ [] }

-- the text of a history that begins
abbrev pub IsBegun : (database session kept : List ℕ) → Type 0
IsBegun database session kept =
    IsHistoryText (history_of (first_generation database session))
    × (kept ≡ history_text (history_of (first_generation database session)))

-- the mark of the last state, once what comes after the current one is cut off
abbrev pub mark_of_cut : GenerationText → LiveText → Bool
mark_of_cut g s = if is_last s then g.last_passed else (is_first s && g.first_passed)

-- the text of a history whose present session has the text that is cut
abbrev pub LeavesWith : (bytes cut kept : List ℕ) → Type 0
LeavesWith bytes cut kept =
    (t : HistoryText) × (g : GenerationText) × (s : LiveText) × IsAt bytes t g
    × IsSession g.session s
    × IsHistoryText (with_session t cut g.first_passed (mark_of_cut g s))
    × (kept ≡ history_text (with_session t cut g.first_passed (mark_of_cut g s)))

-- the text of a history whose present session ends with its current state
abbrev pub IsLeft : (bytes kept : List ℕ) → Type 0
IsLeft bytes kept =
    (t : HistoryText) × (g : GenerationText) × (cut : List ℕ) × IsAt bytes t g
    × Cuts g.session cut × LeavesWith bytes cut kept

-- the renames of conversions: a service that is only restarted goes on under its own name
abbrev pub rename_of : Conversion → RenameText
rename_of c = record { old = c.old; new = c.new }

abbrev pub renames_of : List Conversion → List RenameText
renames_of list = map rename_of (filter (λ c. not c.restart) list)

-- the generation that an update begins, in a state that is passed until the update is done
abbrev pub entered : (database session : List ℕ) → List Conversion → GenerationText
entered database session list = record {
  first_passed = true;
  last_passed = true;
  database = database;
  session = session;
  renames = renames_of list;
}

-- the text of a history in which a generation begins behind the present one
abbrev pub BeginsBehind : (bytes : List ℕ) → GenerationText → (kept : List ℕ) → Type 0
BeginsBehind bytes g kept =
    (t : HistoryText) × IsHistoryText t × (bytes ≡ history_text t)
    × IsHistoryText (begun t g) × (kept ≡ history_text (begun t g))

-- the text of a history that an update leads on to a database
abbrev pub IsEntered : (bytes database session : List ℕ) → List Conversion → (kept : List ℕ)
    → Type 0
IsEntered bytes database session list kept =
    (left : List ℕ) × IsLeft bytes left × BeginsBehind left (entered database session list) kept

-- a border is crossed, where there is one
abbrev pub crossed : (on : Bool) → HistoryText → HistoryText
crossed true t = if nat_lt (t.present + 1) (length t.generations) then crossed_on t else t
crossed false t = if nat_lt 0 t.present then crossed_back t else t

-- the text of a history that has crossed
abbrev pub IsCrossed : (on : Bool) → (bytes kept : List ℕ) → Type 0
IsCrossed on bytes kept =
    (t : HistoryText) × IsHistoryText t × (bytes ≡ history_text t)
    × IsHistoryText (crossed on t) × (kept ≡ history_text (crossed on t))

-- the current state is a stop
abbrev pub settled : HistoryText → GenerationText → LiveText → HistoryText
settled t g s =
    with_session t g.session (g.first_passed && not (is_first s)) (g.last_passed && not (is_last s))

-- the text of a history whose current state is a stop
abbrev pub IsSettled : (bytes kept : List ℕ) → Type 0
IsSettled bytes kept =
    (t : HistoryText) × (g : GenerationText) × (s : LiveText) × IsAt bytes t g
    × IsSession g.session s × IsHistoryText (settled t g s)
    × (kept ≡ history_text (settled t g s))
