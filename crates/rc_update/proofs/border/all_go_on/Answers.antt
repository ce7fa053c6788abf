use Rattle.std.proofs.Common.{sym, true≢false}
use Rattle.rc_update.proofs.border.all_go_on.Goals as goal

pub returns-then-is_stray : goal.returns-then-is_stray
returns-then-is_stray c = (
  λ bad. absurd (true≢false (sym bad)),
  λ all.
      let stray = c.is_stray.ensures.yes c.if-is_stray.true in
      let go = all c.loop-id.id stray.0 in
      absurd (stray.1 go.0 go.1),
)
