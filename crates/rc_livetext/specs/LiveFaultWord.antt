-- How a fault of the text of a session is told.
use Rattle.std.specs.Prelude.{◌++◌, ℕ, List, codes}
use Rattle.std.specs.Fmt.{decimal}
use Rattle.rc_livetext.specs.declared.fault.LiveFault.{LiveFault}
use Rattle.rc_livetext.specs.declared.fault.LiveFault.TheVariants as live

-- a fault of the text of a session in words
abbrev pub live_word : LiveFault → List ℕ
live_word (live.Bad offset) = codes "Bad " ++ decimal offset
live_word live.Version = codes "Version"
live_word live.Unknown = codes "Unknown"
live_word (live.NotClosed place) = codes "NotClosed " ++ decimal place
live_word live.SameState = codes "SameState"
live_word live.OtherDb = codes "OtherDb"
live_word live.Memory = codes "Memory"
live_word live.OverBound = codes "OverBound"
