use Rattle.std.proofs.Common.{List, ap, inr, map, subst, ℕ}
use Rattle.std.specs.Prelude.{string_bytes}
use Rattle.rc_args.specs.SessionAsked.{session_ask_of}
use Rattle.rc_launch.specs.Loading.{session_in}
use Rattle.rc_launch.specs.Mending.{AreLowered}
use Rattle.rc_launch.proofs.MendLemmas.{are_lowered}
use Rattle.rc_launch.proofs.mending.lower_found.Goals as goal

pub returns-clause-done : goal.returns-clause-done
returns-clause-done g c done =
    let base = c.args.base.now in
    let ask = session_ask_of (session_in c.args.execution.now.opened.now.loaded) in
    inr (subst (λ (strays : List (List ℕ)). AreLowered base ask strays)
    (ap (map string_bytes) c.deref.ensures.value)
    (are_lowered base ask (map string_bytes c.deref.result.now) c.serve_strays.result _ _ _ _ _ done
    c.serve_strays.ensures.told))
