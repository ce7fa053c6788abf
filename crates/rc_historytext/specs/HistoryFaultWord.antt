-- How a fault of the text of a history is told.
use Rattle.std.specs.Prelude.{◌++◌, ℕ, List, codes}
use Rattle.std.specs.Fmt.{decimal}
use Rattle.rc_historytext.specs.declared.fault.HistoryFault.{HistoryFault}
use Rattle.rc_historytext.specs.declared.fault.HistoryFault.TheVariants as fault

-- a fault of the text of a history in words
abbrev pub history_word : HistoryFault → List ℕ
history_word (fault.Bad offset) = codes "Bad " ++ decimal offset
history_word fault.Version = codes "Version"
history_word fault.Memory = codes "Memory"
