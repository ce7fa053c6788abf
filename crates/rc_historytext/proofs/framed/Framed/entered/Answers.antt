use Rattle.std.proofs.Common.{◌∙◌, List, ℕ, ap, subst, sym}
use Rattle.rc_update.specs.Conversions.{conversions_of}
use Rattle.rc_historytext.specs.Framing.{FramedText}
use Rattle.rc_historytext.specs.Keeping.{StandsThere}
use Rattle.rc_historytext.specs.Updating.{IsEntered}
use Rattle.rc_historytext.proofs.framed.Framed.entered.Goals as goal

pub standing_in-requires : goal.standing_in-requires
standing_in-requires c =
    subst (StandsThere c.in_ok-whole.whole.items) (sym c.in-Ok.ensures.ok)
    c.in_ok-whole.ensures.present

pub returns-in-Ok-standing_in-clause-ok : goal.returns-in-Ok-standing_in-clause-ok
returns-in-Ok-standing_in-clause-ok c =
    let database = c.args.database.now in
    let session = c.args.session.now in
    let list = conversions_of c.args.list.now in
    subst (λ (whole : List ℕ). IsEntered c.args.self.now.whole database session list whole)
    (sym c.in-Ok-standing_in.ensures.begun.2)
    (subst (λ (history : List ℕ). IsEntered history database session list c.in_ok-whole.whole.items)
    (c.deref.ensures.value ∙ ap (λ (f : FramedText). f.whole) c.self.view_is)
    c.in_ok-whole.ensures.ok)
