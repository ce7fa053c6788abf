use Rattle.std.proofs.Common.{◌∙◌, List, ℕ, inl, inr, refl, subst}
use Rattle.std.specs.Io.KnownBytes.{Appends}
use Rattle.rc_streams.specs.Noting.{inner_of}
use Rattle.rc_launch.specs.HistoryJournal.{IsHistoryJournal}
use Rattle.rc_launch.specs.Loading.{session_in}
use Rattle.rc_launch.specs.Readable.{IsPresentRead, IsUnreadFault}
use Rattle.rc_launch.proofs.JournalLines.{found}
use Rattle.rc_launch.proofs.journal.tell_journal.Goals as goal

pub returns-in-Some-clause-answers : goal.returns-in-Some-clause-answers
returns-in-Some-clause-answers g c = λ bytes held.
    let request = session_in c.args.execution.now.opened.now.loaded in
    let (b, is, same) = found c.history.result bytes (c.history.ensures ∙ held) in
    let why : IsUnreadFault request bytes c.in-Some.fault =
    subst (λ (t : List ℕ). IsUnreadFault request t c.in-Some.fault) same
    (c.in-Some.ensures.refused b is) in
    elim c.tell_refused.ensures.refused [
      | inl one ↦ inr (inl (
        one,
        rw c.tell_refused.ensures.outputs refl,
        inl (c.in-Some.fault, why, c.tell_refused.ensures.told),
      ))
      | inr failed ↦ inr (inr failed)
    ]

pub returns-in-Ok-clause-answers : goal.returns-in-Ok-clause-answers
returns-in-Ok-clause-answers g c = λ bytes held.
    let request = session_in c.args.execution.now.opened.now.loaded in
    let (b, is, same) = found c.history.result bytes (c.history.ensures ∙ held) in
    let read : IsPresentRead request bytes =
    subst (IsPresentRead request) same (c.in-None.ensures.read b is refl) in
    let (text, journal, answer) = c.in-Ok.ensures.answer in
    let out = g.W.Write.contents (inner_of c.args.devices.now.outputs.writer) in
    let gained = g.W.Write.contents (inner_of c.say_done-status.new.devices.outputs.writer) in
    elim c.say_done-status.ensures.statuses [
      | inl done ↦ inl (
        done,
        read,
        (
          text,
          subst (λ (h : List ℕ). IsHistoryJournal h text) (c.history_in.ensures bytes held) journal,
          subst (λ (t : List ℕ). Appends out gained t) (c.deref.ensures.value ∙ answer)
              (c.say_done-status.ensures.written done),
        ),
      )
      | inr failed ↦ inr (inr failed)
    ]
