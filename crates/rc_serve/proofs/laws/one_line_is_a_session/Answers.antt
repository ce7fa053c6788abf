use Rattle.std.proofs.Common.{[], refl, sym}
use Rattle.std.proofs.lemmas.List.{append-nil}
use Rattle.rc_serve.proofs.Steps.{ends_by}
use Rattle.rc_serve.proofs.laws.one_line_is_a_session.Goals as goal

pub returns : goal.returns
returns g c workers ending d here new bytes saying text says ends = (
  text,
  new,
  [],
  (
    saying,
    says,
    ends_by workers (g.G.Gate.answers c.args.gate.now) (g.G.Gate.gives c.args.gate.now)
        ending d here saying text new ends,
  ),
  (refl, refl),
  sym (append-nil text),
)
