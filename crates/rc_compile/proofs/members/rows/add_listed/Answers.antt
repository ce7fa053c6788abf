use Rattle.std.proofs.Common.{◌∙◌, sym, ap}
use Rattle.rc_source.specs.Said.{meaning_of}
use Rattle.rc_compile.specs.Mirror.{listed_of}
use Rattle.rc_compile.proofs.Listing.{puts_as}
use Rattle.rc_compile.proofs.members.rows.add_listed.Goals as goal

pub returns-in-Dependencies : goal.returns-in-Dependencies
returns-in-Dependencies c =
    puts_as c.add_all.result c.args.to.now c.args.ids.now.items _ _ _
    (c.deref.ensures.value ∙ ap (λ w. listed_of w (meaning_of c.args.definition.now))
    (sym c.in-Dependencies.is)) c.add_all.ensures

pub returns-in-Consumers : goal.returns-in-Consumers
returns-in-Consumers c =
    puts_as c.add_all-in-Consumers.result c.args.to.now c.args.ids.now.items _ _ _
    (c.deref-in-Consumers.ensures.value ∙ ap (λ w. listed_of w (meaning_of c.args.definition.now))
    (sym c.in-Consumers.is)) c.add_all-in-Consumers.ensures

pub returns-in-Contents : goal.returns-in-Contents
returns-in-Contents c =
    puts_as c.add_all-in-Contents.result c.args.to.now c.args.ids.now.items _ _ _
    (c.deref-in-Contents.ensures.value ∙ ap (λ w. listed_of w (meaning_of c.args.definition.now))
    (sym c.in-Contents.is)) c.add_all-in-Contents.ensures

pub returns-in-Producer : goal.returns-in-Producer
returns-in-Producer c =
    puts_as c.add_one.result c.args.to.now c.args.ids.now.items _ _ _
    (ap (λ w. listed_of w (meaning_of c.args.definition.now)) (sym c.in-Producer.is))
    c.add_one.ensures
