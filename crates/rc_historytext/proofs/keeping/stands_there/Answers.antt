use Rattle.std.proofs.Common.{◌∙◌, ℕ, List, subst, sym}
use Rattle.std.proofs.lemmas.Slice.Eq.{bytes_eq-Decides}
use Rattle.rc_historytext.specs.Present.{IsPresent}
use Rattle.rc_historytext.proofs.Presents.{session_once}
use Rattle.rc_historytext.proofs.Failing.{present_text}
use Rattle.rc_historytext.proofs.keeping.stands_there.Goals as goal

pub returns-clause-ok : goal.returns-clause-ok
returns-clause-ok c =
    let database = c.in_ok-present.present.database.now in
    let session = c.in_ok-present.present.session.now in
    let asked = c.args.session.now in
    let stands = c.in_ok-present.ensures.ok in (
      λ yes. (
        database,
        subst (λ (s : List ℕ). IsPresent c.args.history.now database s)
            ((bytes_eq-Decides session asked).0 (sym c.eq.ensures ∙ yes)) stands,
      ),
      λ there. c.eq.ensures ∙ (bytes_eq-Decides session asked).1
          (session_once c.args.history.now database session there.0 asked stands there.1),
    )

pub returns-clause-text : goal.returns-clause-text
returns-clause-text c =
    present_text c.args.history.now c.in_ok-present.present.database.now
    c.in_ok-present.present.session.now c.in_ok-present.ensures.ok
