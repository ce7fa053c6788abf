use Rattle.std.proofs.Common.{◌≡◌}
use Rattle.std.proofs.lemmas.Result.{IfOk-at_ok}
use Rattle.rc_render.specs.DotText.{dot_text}
use Rattle.rc_cli.proofs.queries.db_answer.filled_picture.Goals as goal

pub returns-clause-text : goal.returns-clause-text
returns-clause-text c = (
  c.live.result.now,
  (c.in-Ok.read.0.line, c.in-Ok.ensures.text, c.live.ensures),
  IfOk-at_ok (λ text. text.items ≡ dot_text c.args.db.now c.live.result.now) c.in_ok-text.was
      c.dot_text-text.ensures,
)
