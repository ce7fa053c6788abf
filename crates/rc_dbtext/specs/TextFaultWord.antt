-- How a fault of a database text is told.
use Rattle.std.specs.Prelude.{◌++◌, ℕ, List, codes}
use Rattle.std.specs.Fmt.{decimal}
use Rattle.rc_dbtext.specs.declared.fault.TextFault.{TextFault}
use Rattle.rc_dbtext.specs.declared.fault.TextFault.TheVariants as text

-- a fault of the text in words
abbrev pub text_word : TextFault → List ℕ
text_word (text.Bad offset) = codes "Bad " ++ decimal offset
text_word text.Version = codes "Version"
text_word text.NotSorted = codes "NotSorted"
text_word text.Cyclic = codes "Cyclic"
text_word text.TooMany = codes "TooMany"
text_word text.Dangling = codes "Dangling"
text_word text.Memory = codes "Memory"
