-- Why a command has no answer: the words that are printed for each fault, and its exit status.
use Rattle.std.specs.Prelude.{◌≡◌, ◌≢◌, ◌⊎◌, ◌++◌, ℕ, List, Option, codes}
use Rattle.std.specs.Fmt.{decimal}
use Rattle.std.specs.Global.{Vec}
use Rattle.rc_dbtext.specs.TextFaultWord.{text_word}
use Rattle.rc_dbtext.specs.declared.fault.TextFault.{TextFault}
use Rattle.rc_dbtext.specs.declared.fault.TextFault.TheVariants as text
use Rattle.rc_dbtext.specs.declared.opening.OpenFault.{OpenFault}
use Rattle.rc_dbtext.specs.declared.opening.OpenFault.TheVariants.{OfText, Failed}
use Rattle.rc_livetext.specs.LiveFaultWord.{live_word}
use Rattle.rc_livetext.specs.declared.fault.LiveFault.{LiveFault}
use Rattle.rc_livetext.specs.declared.fault.LiveFault.TheVariants as live
use Rattle.rc_render.specs.UnknownWord.{unknown_word}
use Rattle.rc_script.specs.declared.script.ScriptFault.{ScriptFault}
use Rattle.rc_script.specs.declared.script.ScriptFault.TheVariants as script
use Rattle.rc_streams.specs.Input.{AppendsFront, failure_text, fault_line}
use Rattle.rc_streams.specs.declared.input.Failure.TheVariants.{Memory}
use Rattle.rc_cli.specs.declared.fault.Fault.{Fault}
use Rattle.rc_cli.specs.declared.fault.Fault.TheVariants.{Text, Live, Unknown, NotClosed}
use Rattle.rc_cli.specs.declared.fault.Fault.TheVariants.{PruneNeedsUp, NotAtomic, NotBundle}
use Rattle.rc_cli.specs.declared.fault.Fault.TheVariants.{NotLongrun, NotOneshot, BadLine, Device}

-- the words that are printed for a fault
abbrev pub fault_word : Fault → List ℕ
fault_word (Text wrong) = text_word wrong
fault_word (Live wrong) = live_word wrong
fault_word (Unknown name) = unknown_word name.items
fault_word NotClosed = codes "NotClosed"
fault_word PruneNeedsUp = codes "PruneNeedsUp"
fault_word NotAtomic = codes "NotAtomic"
fault_word NotBundle = codes "NotBundle"
fault_word NotLongrun = codes "NotLongrun"
fault_word NotOneshot = codes "NotOneshot"
fault_word (BadLine number) = codes "BadLine " ++ decimal number
fault_word (Device failure) = failure_text failure

-- the exit status of a fault: 1 for a refusal, and else 111
abbrev pub fault_status : Fault → ℕ
fault_status (Device failure) = 111
fault_status refusal = 1

-- a fault of the text of the database, as one of a command
abbrev pub IsFromText : TextFault → Fault → Type 0
IsFromText wrong fault = ((wrong ≡ text.Memory) × (fault ≡ Device Memory))
    ⊎ ((wrong ≢ text.Memory) × (fault ≡ Text wrong))

-- why there is no database with its input, as a fault of a command
abbrev pub IsFromOpen : OpenFault → Fault → Type 0
IsFromOpen (OfText wrong) fault = IsFromText wrong fault
IsFromOpen (Failed failure) fault = fault ≡ Device failure

-- a fault of the text of a session, as one of a command
abbrev pub IsFromLive : LiveFault → Fault → Type 0
IsFromLive wrong fault = ((wrong ≡ live.Memory) × (fault ≡ Device Memory))
    ⊎ ((wrong ≢ live.Memory) × (fault ≡ Live wrong))

-- a fault of a script, as one of a command
abbrev pub IsFromScript : ScriptFault → Fault → Type 0
IsFromScript (script.BadLine number) fault = fault ≡ BadLine number
IsFromScript script.Memory fault = fault ≡ Device Memory

-- the fault of a name that nothing has, or out of memory
abbrev pub IsFromName : List ℕ → Fault → Type 0
IsFromName name fault = ((held : Vec ℕ) × (fault ≡ Unknown held) × (held.items ≡ name))
    ⊎ (fault ≡ Device Memory)

-- a prefix of the line of a fault is printed, with its status; or of a refusal whose line there is
-- no memory for, that memory ran out
abbrev pub IsReported : Fault → (status : ℕ) → (old new : Option (List ℕ)) → Type 0
IsReported fault status old new =
    ((status ≡ fault_status fault) × AppendsFront old new (fault_line (fault_word fault)))
    ⊎ ((fault_status fault ≡ 1) × (status ≡ 111)
    × AppendsFront old new (fault_line (failure_text Memory)))
