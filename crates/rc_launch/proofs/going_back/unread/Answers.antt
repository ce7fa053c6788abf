use Rattle.std.proofs.Common.{◌∙◌, List, subst, sym, ℕ}
use Rattle.std.proofs.lemmas.Option.{same_Some}
use Rattle.std.specs.Borrow.{Bor}
use Rattle.rc_historytext.specs.Present.{IsPresent}
use Rattle.rc_launch.specs.Loading.{session_in}
use Rattle.rc_launch.proofs.ReadLemmas.{present_read}
use Rattle.rc_launch.proofs.going_back.unread.Goals as goal

pub returns-in-Ok-clause-read : goal.returns-in-Ok-clause-read
returns-in-Ok-clause-read g c bytes held none =
    let present = c.in-Ok.present in
    present_read c.session-in-Ok.result.now (session_in c.args.execution.now.opened.now.loaded)
    bytes.now present.database.now present.session c.session-in-Ok.ensures
    (subst (λ (b : Bor (List ℕ)). IsPresent b.now present.database.now present.session.now)
    (same_Some c.in-Some.history bytes (sym c.in-Some.is ∙ held)) c.in-Ok.ensures.ok)
    (c.unread_texts-in-Ok.ensures.read none)
