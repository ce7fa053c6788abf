-- The journal of a history: the states of all its generations, and the borders between them.
use Rattle.std.specs.Prelude.{◌≡◌, ◌⊎◌, ◌+◌, ◌||◌, ◌&&◌, ◌==◌, ℕ, zero, suc, Bool, true}
use Rattle.std.specs.Prelude.{false, nat_lt, List, [], ◌∷◌, ◌++◌, length, codes, Option}
use Rattle.std.specs.List.{flat_map}
use Rattle.std.specs.Fmt.{decimal}
use Rattle.std.specs.Io.KnownBytes.{Appends}
use Rattle.rc_model.specs.Line.{states}
use Rattle.rc_render.specs.JournalText.{AreEntryLines, place_text}
use Rattle.rc_render.specs.Lines.{line}
use Rattle.rc_render.specs.Names.{ok_line}
use Rattle.rc_args.specs.declared.session_request.SessionRequest.{SessionRequest}
use Rattle.rc_historytext.specs.Text.{GenerationText, HistoryText, IsHistoryText, RenameText}
use Rattle.rc_historytext.specs.Text.{history_text}
use Rattle.rc_launch.specs.Numbers.{AreNumbered, HasUntold, Told}
use Rattle.rc_launch.specs.Readable.{IsPresentRead, IsPresentRefused}

-- behind an entry that leads to a passed state: an undo and a redo take the next one, too
abbrev pub passing_text : Bool → List ℕ
passing_text true = codes " .."
passing_text false = []

-- the old and the new name of a service that goes on under another one
abbrev pub rename_text : RenameText → List ℕ
rename_text r = codes " " ++ r.old ++ codes ">" ++ r.new

-- the line of a border: the number of the state before it, and the services that have new names
abbrev pub border_line : (number : ℕ) → List RenameText → (passed : Bool) → List ℕ
border_line number renames passed = line (decimal number ++ codes " update"
    ++ flat_map rename_text renames ++ passing_text passed)

-- an undo and a redo go on from the first of so many states of a generation
abbrev pub passes_first : GenerationText → (count : ℕ) → Bool
passes_first g count = g.first_passed || (count == 1 && g.last_passed)

-- the border in front of a generation, whose first state has this number; there is none in front of
-- the oldest one
abbrev pub border_text : (first : ℕ) → GenerationText → (count : ℕ) → List ℕ
border_text zero g count = []
border_text (suc number) g count = border_line number g.renames (passes_first g count)

-- the lines of the entries of a generation: if its last state is passed, the last one says so
abbrev pub ArePassing : (passed : Bool) → (lines text : List ℕ) → Type 0
ArePassing false lines text = text ≡ lines
ArePassing true lines text = (front : List ℕ) × (lines ≡ front ++ 10 ∷ [])
    × (text ≡ front ++ codes " ..\n")

-- the lines of a generation, whose first state has this number: the border in front of it, and its
-- entries
abbrev pub AreLinesOf : (first : ℕ) → (g : GenerationText) → Told g → List ℕ → Type 0
AreLinesOf first g told text = (lines : List ℕ) × (entries : List ℕ)
    × AreEntryLines told.base.names first (states told.line) lines
    × ArePassing (g.last_passed && nat_lt 1 (length (states told.line))) lines entries
    × (text ≡ border_text first g (length (states told.line)) ++ entries)

-- the lines of generations, one after the other; the states of the next one are counted on
abbrev pub AreLines : (first : ℕ) → List GenerationText → List ℕ → Type 0
AreLines first [] text = text ≡ []
AreLines first (g ∷ generations) text = (told : Told g) × (own : List ℕ) × (others : List ℕ)
    × AreLinesOf first g told own
    × AreLines (first + length (states told.line)) generations others × (text ≡ own ++ others)

-- the journal of a history: the number of the current state, how many there are, and all lines
abbrev pub IsHistoryJournal : (bytes text : List ℕ) → Type 0
IsHistoryJournal bytes text = (at : ℕ) × (marks : List Bool) × AreNumbered bytes at marks
    × ((t : HistoryText) × IsHistoryText t × (bytes ≡ history_text t)
    × ((lines : List ℕ) × AreLines 0 t.generations lines
    × (text ≡ place_text at (length marks) ++ lines)))

-- what is printed where a journal is asked for, and its status: the journal; or nothing, if the
-- texts of the present generation are refused, in a line on standard error, or those of another one
-- are; or a failure
abbrev pub AnswersJournal : SessionRequest → (bytes : List ℕ) → (status : ℕ)
    → (out gained faults told : Option (List ℕ)) → Type 0
AnswersJournal request bytes status out gained faults told =
    ((status ≡ 0) × IsPresentRead request bytes
    × ((text : List ℕ) × IsHistoryJournal bytes text × Appends out gained (text ++ ok_line)))
    ⊎ ((status ≡ 1) × (gained ≡ out) × (IsPresentRefused request bytes status faults told
    ⊎ ((place : ℕ) × HasUntold bytes place)))
    ⊎ (status ≡ 111)
