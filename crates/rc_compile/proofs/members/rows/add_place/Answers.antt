use Rattle.std.proofs.Common.{◌∙◌, Some, Contains, sym, ap, subst}
use Rattle.rc_compile.proofs.Listing.{place_put, place_passed}
use Rattle.rc_compile.proofs.members.rows.add_place.Goals as goal

pub returns-in_ok-push : goal.returns-in_ok-push
returns-in_ok-push c =
    place_put c.args.to.now c.args.ids.now.items _ c.in-Some.id c.args.name.now
    c.len-count.ensures.names.order
    (c.in-Some.ensures.found ∙ ap (λ x. Some x) c.text.ensures.bytes) c.in_ok-push.ensures.items

pub returns-in_default : goal.returns-in_default
returns-in_default c =
    place_passed c.args.to.now c.args.ids.now.items c.args.name.now
    (λ has. c.in_default.ensures.missing
    (subst (Contains c.args.to.now) (sym c.text.ensures.bytes) has))
