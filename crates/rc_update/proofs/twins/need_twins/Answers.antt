use Rattle.std.proofs.Common.{◌∙◌, sym}
use Rattle.std.proofs.lemmas.Bool.{false≢true}
use Rattle.rc_update.specs.Conversions.{conversions_of}
use Rattle.rc_update.proofs.NeedsLemmas.{needs_by}
use Rattle.rc_update.proofs.twins.need_twins.Goals as goal

pub returns-in-Some : goal.returns-in-Some
returns-in-Some c =
    let bound = rw c.in-Some.is at c.in_ok-on.ensures.bound in
    let members = rw c.in-Some.is at c.in_ok-on.ensures.members in
    let all = rw c.in-Some.is at c.in_ok-on.ensures.all in
    let both =
    needs_by c.args.old.now c.args.new.now (conversions_of c.args.list.now) c.args.id
    c.args.other c.in-Some.on c.in_ok-needs.needs c.names-names.ensures.database
    (bound ∙ sym c.in_ok-needs.ensures.bound) members c.in_ok-needs.ensures.members all in
    (λ yes. both.0 (c.same.ensures.0 yes), λ twins. c.same.ensures.1 (both.1 twins))

pub returns : goal.returns
returns c =
    let none = rw c.in-None.is at c.in_ok-on.ensures.none in (
      λ bad. absurd (false≢true bad),
      λ twins. let to = twins.forth none.0 none.1 in absurd (none.2 to.0 to.1),
    )
