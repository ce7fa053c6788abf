-- What keeps the text of a session.
use Rattle.std.specs.Prelude.{◌≡◌, ℕ, List, Option, IfSome}
use Rattle.rc_model.specs.Database.{Database}
use Rattle.rc_model.specs.Line.{Line}
use Rattle.rc_livetext.specs.Spelling.{spelling}
use Rattle.rc_cli.specs.declared.sessions.keeping.KeptText.{KeptText}
use Rattle.rc_cli.specs.declared.sessions.keeping.TextKeeper.{TextKeeper}

-- the bytes of a text that is to be kept
abbrev pub kept_bytes : KeptText → List ℕ
kept_bytes text = text.bytes.now

-- the store of a keeper of texts
abbrev pub store_of : {S : Type 0} → TextKeeper S → S
store_of keeper = keeper.store

-- a store holds the text of a line, so far as it is known what it holds
abbrev pub HoldsText : Option (List ℕ) → Database → Line → Type 0
HoldsText held d line = IfSome held (λ bytes. bytes ≡ spelling d line)
