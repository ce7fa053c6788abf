-- The comments of a run log that name the program of a transition.
use Rattle.std.specs.Prelude.{◌≡◌, ◌⊎◌, ◌&&◌, ◌∷◌, [], ℕ, All, Contains, List, Option, None, Some}
use Rattle.std.specs.Prelude.{codes, if◌then◌else◌, option_and_then, option_map}
use Rattle.std.specs.Str.{IsUtf8, bytes_eq}
use Rattle.rc_script.specs.Numbers.{number_in}
use Rattle.rc_script.specs.RunLines.{IsLine}
use Rattle.rc_script.specs.Words.{words_in}
use Rattle.rc_script.specs.declared.processes.Process.{Process}

-- the program of these words: its process id, when it was started, and its limit
abbrev pub process_by : List (List ℕ) → Option Process
process_by [] = None
process_by (id ∷ []) = None
process_by (id ∷ start ∷ []) = None
process_by (id ∷ start ∷ limit ∷ []) =
    option_and_then (λ i. option_and_then (λ s. option_map
    (λ l. record { id = i; start = s; limit = l }) (number_in 64 limit))
    (number_in 64 start)) (number_in 64 id)
process_by (id ∷ start ∷ limit ∷ more ∷ words) = None

-- the program of the service of this name that words name: `# process`, the name, and its numbers
abbrev pub process_in : (name : List ℕ) → List (List ℕ) → Option Process
process_in name [] = None
process_in name (mark ∷ []) = None
process_in name (mark ∷ verb ∷ []) = None
process_in name (mark ∷ verb ∷ named ∷ numbers) =
    if bytes_eq mark (codes "#") && (bytes_eq verb (codes "process") && bytes_eq named name)
    then process_by numbers else None

-- a line names this program of a service, or none
abbrev pub IsProcessOf : (name line : List ℕ) → Option Process → Type 0
IsProcessOf name line found =
    (All IsUtf8 (words_in line) × (found ≡ process_in name (words_in line)))
    ⊎ ((All IsUtf8 (words_in line) → ⊥) × (found ≡ None))

-- one of these lines names this program of a service
abbrev pub NamesProcess : (name : List ℕ) → (lines : List (List ℕ)) → Process → Type 0
NamesProcess name lines process =
    (line : List ℕ) × Contains lines line × IsProcessOf name line (Some process)

-- a text is a line that names this program of a service
abbrev pub IsProcessLine : (name : List ℕ) → Process → (text : List ℕ) → Type 0
IsProcessLine name process text =
    (line : List ℕ) × IsLine text line × IsProcessOf name line (Some process)
