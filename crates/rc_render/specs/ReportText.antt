-- The answer to a command that is done.
use Rattle.std.specs.Prelude.{ℕ, List, ◌++◌, codes}
use Rattle.rc_model.specs.Session.{Reported}
use Rattle.rc_render.specs.Lines.{names_line, names_at}
use Rattle.rc_render.specs.Names.{ok_line}

-- the answer to a command that is done: a line for each list of services that
-- is not empty, and the last line
abbrev pub report_text : List (List ℕ) → Reported → List ℕ
report_text names told = names_line (codes "lowered") (names_at names told.lowered)
    ++ names_line (codes "raised") (names_at names told.raised)
    ++ names_line (codes "failed") (names_at names told.failed)
    ++ names_line (codes "blocked") (names_at names told.blocked)
    ++ names_line (codes "untried") (names_at names told.untried)
    ++ names_line (codes "kept") (names_at names told.kept)
    ++ ok_line
