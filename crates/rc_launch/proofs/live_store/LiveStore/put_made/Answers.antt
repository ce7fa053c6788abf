use Rattle.std.proofs.Common.{◌≡◌, IsOkAnd, OnOk, Some, subst, sym}
use Rattle.rc_launch.specs.HeldHistory.{history_in}
use Rattle.rc_launch.proofs.Noting.{noted_ok}
use Rattle.rc_launch.proofs.live_store.LiveStore.put_made.Goals as goal

pub returns : goal.returns
returns c =
    noted_ok c.noted.result c.put_if_made-put.result _ c.noted.ensures.ok
    (subst (λ frame. OnOk c.put_if_made-put.result
    (IsOkAnd c.args.made (λ whole. history_in frame ≡ Some whole.items)))
    (sym c.noted.ensures.frame) c.put_if_made-put.ensures)
