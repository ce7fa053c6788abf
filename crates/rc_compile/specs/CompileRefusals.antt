-- Why `compile` writes nothing, and what it tells.
use Rattle.std.specs.Prelude.{◌≡◌, ◌≢◌, ◌⊎◌, ℕ, List, [], ◌∷◌, ◌++◌, Option, Some, codes, map}
use Rattle.std.specs.List.{flat_map}
use Rattle.rc_source.specs.Tree.{Source}
use Rattle.rc_source.specs.Meaning.{Meaning}
use Rattle.rc_source.specs.Tests.{SomeFailed, StopsInTests, all_tests, name_carried, flaw_of}
use Rattle.rc_source.specs.declared.fault.Flaw.{Flaw}
use Rattle.rc_source.specs.declared.fault.Flaw.TheVariants as flaw
use Rattle.rc_compile.specs.declared.CompileFault.{CompileFault}
use Rattle.rc_compile.specs.declared.CompileFault.TheVariants as wrong
use Rattle.rc_compile.specs.CompileFaults.{IsCompileFault}
use Rattle.rc_compile.specs.declared.command.compile_faults.TreesFault.{TreesFault}
use Rattle.rc_compile.specs.declared.command.compile_faults.TreesFault.TheVariants.{Source as OfSource}
use Rattle.rc_compile.specs.declared.command.compile_faults.TreesFault.TheVariants.{Definitions}
use Rattle.rc_compile.specs.declared.command.compile_faults.TreesFault.TheVariants.{Memory}
use Rattle.rc_streams.specs.declared.input.Failure.TheVariants as failure
use Rattle.rc_compile.specs.CompiledText.{AreSaid}
use Rattle.rc_streams.specs.Input.{AppendsFront, failure_text, fault_line}

-- the first test of the trees that does not pass, where they tell what they hold
abbrev pub StopsReading : List (Option Source) → Flaw → List ℕ → Type 0
StopsReading held flaw entry = (sources : List Source) → held ≡ map Some sources →
    StopsInTests (all_tests [] sources) flaw entry

-- when there is no text: by the first test of the trees that does not pass, then by
-- the first flaw of what they say
abbrev pub IsTreesFault : List (Option Source) → TreesFault → Type 0
IsTreesFault held (OfSource fault) =
    flaw_of fault ≢ flaw.Memory → StopsReading held (flaw_of fault) (name_carried fault)
IsTreesFault held (Definitions fault) =
    (ms : List Meaning) × AreSaid held ms × IsCompileFault ms fault
IsTreesFault held Memory = Unit {0}

-- when definitions give no text
abbrev pub IsDefinitionsFault : List Meaning → TreesFault → Type 0
IsDefinitionsFault ms (OfSource fault) = ⊥
IsDefinitionsFault ms (Definitions fault) = IsCompileFault ms fault
IsDefinitionsFault ms Memory = Unit {0}

-- a fault that is a refusal: neither of a device nor of memory
abbrev pub IsRefusal : TreesFault → Type 0
IsRefusal (OfSource fault) = (flaw_of fault ≢ flaw.Io) × (flaw_of fault ≢ flaw.Memory)
IsRefusal (Definitions fault) = fault ≢ wrong.Memory
IsRefusal Memory = ⊥

-- a word, and names after it with one space before each
abbrev pub word_with_names : List ℕ → List (List ℕ) → List ℕ
word_with_names word names = word ++ flat_map (λ name. 32 ∷ name) names

-- the word of a flaw
abbrev pub flaw_word : Flaw → List ℕ
flaw_word flaw.Io = codes "Io"
flaw_word flaw.NotText = codes "NotText"
flaw_word flaw.TooLong = codes "TooLong"
flaw_word flaw.BadName = codes "BadName"
flaw_word flaw.Twice = codes "Twice"
flaw_word flaw.NoType = codes "NoType"
flaw_word flaw.BadType = codes "BadType"
flaw_word flaw.NoUp = codes "NoUp"
flaw_word flaw.NoRun = codes "NoRun"
flaw_word flaw.BadTimeout = codes "BadTimeout"
flaw_word flaw.Memory = codes "Memory"

-- the name of an entry, or none where it is empty
abbrev pub entry_names : List ℕ → List (List ℕ)
entry_names [] = []
entry_names (byte ∷ rest) = (byte ∷ rest) ∷ []

-- a flaw with the name of its entry
abbrev pub flaw_text : Flaw → List ℕ → List ℕ
flaw_text flaw entry = word_with_names (flaw_word flaw) (entry_names entry)

-- what is wrong with definitions, with its names
abbrev pub compile_text : CompileFault → List ℕ
compile_text wrong.TooMany = word_with_names (codes "TooMany") []
compile_text (wrong.UnknownIn entry name) = word_with_names (codes "UnknownIn") (entry ∷ name ∷ [])
compile_text (wrong.BundleCycle names) = word_with_names (codes "BundleCycle") names.items
compile_text (wrong.PipelineType entry) = word_with_names (codes "PipelineType") (entry ∷ [])
compile_text (wrong.PipelineMismatch entry) =
    word_with_names (codes "PipelineMismatch") (entry ∷ [])
compile_text (wrong.PipelineName entry) = word_with_names (codes "PipelineName") (entry ∷ [])
compile_text (wrong.Cycle names) = word_with_names (codes "Cycle") names.items
compile_text wrong.Memory = word_with_names (codes "Memory") []

-- how a fault is told
abbrev pub trees_text : TreesFault → List ℕ
trees_text (OfSource fault) = flaw_text (flaw_of fault) (name_carried fault)
trees_text (Definitions fault) = compile_text fault
trees_text Memory = codes "Memory"

-- a fault of a device, of this entry
abbrev pub IsDeviceFault : TreesFault → Type 0
IsDeviceFault (OfSource fault) = flaw_of fault ≡ flaw.Io
IsDeviceFault (Definitions fault) = ⊥
IsDeviceFault Memory = ⊥

-- a refusal holds, and a writer gains a prefix of the line that tells it
abbrev pub TellsRefusal : List (Option Source) → Option (List ℕ) → Option (List ℕ) → Type 0
TellsRefusal held old new = (fault : TreesFault) × IsTreesFault held fault × IsRefusal fault
    × AppendsFront old new (fault_line (trees_text fault))

-- some device failed at this entry, and a writer gains a prefix of the line that tells it
abbrev pub TellsDevice : List (Option Source) → List ℕ → List ℕ → Option (List ℕ) →
    Option (List ℕ) → Type 0
TellsDevice held before after old new = (entry : List ℕ) × StopsReading held flaw.Io entry
    × SomeFailed before after × AppendsFront old new (fault_line (flaw_text flaw.Io entry))

-- a writer gains a prefix of the line that a writer has failed, or that memory ran out
abbrev pub TellsWant : (failed : Type 0) → (old new : Option (List ℕ)) → Type 0
TellsWant failed old new = (failed × AppendsFront old new (fault_line (failure_text failure.Write)))
    ⊎ AppendsFront old new (fault_line (failure_text failure.Memory))
