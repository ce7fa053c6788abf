use Rattle.std.proofs.Common.{sym, subst, true≢false}
use Rattle.rc_model.specs.Names.{Has}
use Rattle.rc_model.proofs.ByteOrder.{one_place}
use Rattle.rc_model.proofs.Places.{contains_at}
use Rattle.rc_compile.proofs.pipes.has_named.Goals as goal

pub returns-in-Some : goal.returns-in-Some
returns-in-Some c = (
  λ yes. (c.in-Some.id, c.in-Some.ensures.found, c.contains.ensures.0 yes),
  λ (s, at, has). c.contains.ensures.1
      (subst (Has c.args.set.now)
      (one_place c.args.names.now c.args.text.now s c.in-Some.id c.len-count.ensures.names.order at
      c.in-Some.ensures.found) has),
)

pub returns-in-None : goal.returns-in-None
returns-in-None c = (
  λ no. absurd (true≢false (sym no)),
  λ (s, at, has). absurd
      (c.in-None.ensures.missing (contains_at c.args.names.now s c.args.text.now at)),
)
