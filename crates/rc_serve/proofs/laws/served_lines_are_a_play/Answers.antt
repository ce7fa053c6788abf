use Rattle.rc_serve.specs.Playing.{IsDone}
use Rattle.rc_serve.proofs.Playing.{played}
use Rattle.rc_serve.proofs.laws.served_lines_are_a_play.Goals as goal

pub returns : goal.returns
returns _ d here new lines text is_db of served =
    played IsDone (λ _ _ _ _ _ done. done) d here new lines text is_db of served
