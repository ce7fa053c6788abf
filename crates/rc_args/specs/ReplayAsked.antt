-- What the words ask of `replay`.
use Rattle.std.specs.Prelude.{◌≢◌, List, None, codes}
use Rattle.clap.specs.Words.{Text}
use Rattle.rc_args.specs.Words.{rows_for}

-- the words are those of `replay`
abbrev pub AsksReplay : List Text → Type 0
AsksReplay words = rows_for (codes "replay") words ≢ None
