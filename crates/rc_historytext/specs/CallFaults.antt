-- Why the calls that say where a history stands, or that make its text, fail.
use Rattle.std.specs.Prelude.{◌≡◌, ◌⊎◌, ℕ, List, All}
use Rattle.rc_update.specs.Conversions.{Conversion}
use Rattle.rc_livetext.specs.Text.{LiveText}
use Rattle.rc_historytext.specs.declared.fault.HistoryFault.{HistoryFault}
use Rattle.rc_historytext.specs.declared.fault.HistoryFault.TheVariants.{Bad, Version, Memory}
use Rattle.rc_historytext.specs.declared.keeping.Keeping.{Keeping}
use Rattle.rc_historytext.specs.declared.keeping.Keeping.TheVariants.{Seal}
use Rattle.rc_historytext.specs.Text.{HistoryText, IsHistoryText, IsRename, history_text}
use Rattle.rc_historytext.specs.Faults.{IsHistoryFault}
use Rattle.rc_historytext.specs.States.{IsSession}
use Rattle.rc_historytext.specs.Keeping.{StandsThere}
use Rattle.rc_historytext.specs.Updating.{IsLeft, renames_of}

-- memory ran out
abbrev pub IsOutOfMemory : HistoryFault → Type 0
IsOutOfMemory fault = fault ≡ Memory

-- the bytes are the text of no session, which is reported at offset 0; out of memory may come at
-- any place
abbrev pub IsSessionFault : List ℕ → HistoryFault → Type 0
IsSessionFault bytes (Bad offset) = (offset ≡ 0) × ((s : LiveText) → IsSession bytes s → ⊥)
IsSessionFault bytes Version = ⊥
IsSessionFault bytes Memory = Unit {0}

-- the bytes are the text of a history
abbrev pub IsText : List ℕ → Type 0
IsText bytes = (t : HistoryText) × IsHistoryText t × (bytes ≡ history_text t)

-- the bytes are refused as the text of a history, or they are one whose present session is refused
abbrev pub IsStandingFault : List ℕ → HistoryFault → Type 0
IsStandingFault bytes fault =
    IsHistoryFault bytes fault
    ⊎ ((session : List ℕ) × StandsThere bytes session × IsSessionFault session fault)

-- the same, or the bytes are a history, and the session that is put there is refused
abbrev pub IsPutFault : (bytes session : List ℕ) → HistoryFault → Type 0
IsPutFault bytes session fault =
    IsStandingFault bytes fault ⊎ (IsText bytes × IsSessionFault session fault)

-- a command puts a session into a history unless it stands there already, and a seal in any case
abbrev pub PutsThere : Keeping → (bytes session : List ℕ) → Type 0
PutsThere Seal bytes session = Unit {0}
PutsThere other bytes session = StandsThere bytes session → ⊥

-- the bytes are refused as the text of a history; or a session is put there, and that one or the
-- one that stands there is refused. So of a session that stands there already nothing is refused
abbrev pub IsKeepFault : Keeping → (bytes session : List ℕ) → HistoryFault → Type 0
IsKeepFault keeping bytes session fault = IsHistoryFault bytes fault
    ⊎ (PutsThere keeping bytes session × IsPutFault bytes session fault)

-- the same of a command that puts a session there only once
abbrev pub IsOnceFault : (bytes session : List ℕ) → HistoryFault → Type 0
IsOnceFault bytes session fault = IsHistoryFault bytes fault
    ⊎ ((StandsThere bytes session → ⊥) × IsPutFault bytes session fault)

-- a rename of conversions is not of names, which is reported at offset 0; out of memory may come at
-- any place
abbrev pub IsRenamesFault : List Conversion → HistoryFault → Type 0
IsRenamesFault list (Bad offset) = (offset ≡ 0) × (All IsRename (renames_of list) → ⊥)
IsRenamesFault list Version = ⊥
IsRenamesFault list Memory = Unit {0}

-- the history or its present session is refused, or neither is, and the renames are
abbrev pub IsEnterFault : List ℕ → List Conversion → HistoryFault → Type 0
IsEnterFault bytes list fault =
    IsStandingFault bytes fault
    ⊎ ((left : List ℕ) × IsLeft bytes left × IsRenamesFault list fault)
