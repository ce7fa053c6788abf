-- A command is carried out on its files. On each way to lead it (an undo or a redo, back to a
-- state, an update, a restart, a repair, a journal, alone) the clauses of its own command follow
-- from the call on that way. Each other clause asks for another command, which `led_by` excludes.
-- The prover finds most of these by itself, but not those with the longest relations.
use Rattle.std.proofs.Common.{◌≡◌, ◌≢◌, ◌∙◌, ℕ, Bool, None, ap, is_some, map, subst, sym}
use Rattle.std.specs.Prelude.{string_bytes}
use Rattle.rc_args.specs.Invocation.{command_session}
use Rattle.rc_args.specs.NamedAsked.{named_ask_of}
use Rattle.rc_args.specs.SessionAsked.{session_ask_of}
use Rattle.rc_args.specs.declared.named_words.NamedRequest.{NamedRequest}
use Rattle.rc_args.specs.declared.update_words.UpdateRequest.{UpdateRequest}
use Rattle.rc_update.specs.Conversions.{conversions_of}
use Rattle.rc_cli.specs.Storing.{store_of}
use Rattle.rc_historytext.specs.Halting.{Halts}
use Rattle.rc_historytext.specs.Travelling.{Travels}
use Rattle.rc_launch.specs.Anew.{UpdatesAnew}
use Rattle.rc_launch.specs.Back.{ComesBackTo, StopsBack}
use Rattle.rc_launch.specs.Halted.{HasHalted, IsRefusedOn}
use Rattle.rc_launch.specs.HeldHistory.{LeadsOn}
use Rattle.rc_launch.specs.Loading.{bytes_of, session_in}
use Rattle.rc_launch.specs.Mending.{MendsFrom}
use Rattle.rc_launch.specs.Readable.{IsOpenedRead}
use Rattle.rc_launch.specs.TwoSteps.{IsKeptUpdate, RestartsFrom, UpdatesFrom}
use Rattle.rc_launch.proofs.carrying_out.carry_out.Goals as goal

pub returns-in-Way-clause-travels : goal.returns-in-Way-clause-travels
returns-in-Way-clause-travels g c on limit asks named done was held =
    subst (λ (way : Bool). LeadsOn was (store_of c.travel.new.devices.outputs.keeper) (Travels way))
    (c.in-Way.ensures.way on limit asks (c.has_history-is_history.ensures ∙ ap is_some held))
    (c.travel.ensures.done (sym c.status_of.ensures ∙ done) named was held)

pub returns-in-Way-clause-halts : goal.returns-in-Way-clause-halts
returns-in-Way-clause-halts g c on limit asks named halted was held =
    subst (λ (way : Bool). LeadsOn was (store_of c.travel.new.devices.outputs.keeper) (Halts way))
    (c.in-Way.ensures.way on limit asks (c.has_history-is_history.ensures ∙ ap is_some held))
    (c.travel.ensures.halted (subst HasHalted c.status_of.ensures halted) named was held)

pub returns-in-Way-clause-refused : goal.returns-in-Way-clause-refused
returns-in-Way-clause-refused g c on limit asks named one was held =
    subst (λ (way : Bool). LeadsOn was (store_of c.travel.new.devices.outputs.keeper)
    (IsRefusedOn way))
    (c.in-Way.ensures.way on limit asks (c.has_history-is_history.ensures ∙ ap is_some held))
    (c.travel.ensures.refused (sym c.status_of.ensures ∙ one) named was held)

pub returns-in-Back-clause-back : goal.returns-in-Back-clause-back
returns-in-Back-clause-back g c state limit asks named done was held =
    subst (λ (s : ℕ). LeadsOn was (store_of c.go_back.new.devices.outputs.keeper) (ComesBackTo s))
    (c.in-Back.ensures.back state limit asks)
    (c.go_back.ensures.done (sym c.status_of-in-Back.ensures ∙ done) named was held)

pub returns-in-Back-clause-stopped : goal.returns-in-Back-clause-stopped
returns-in-Back-clause-stopped g c state limit asks named two was held =
    subst (λ (s : ℕ). LeadsOn was (store_of c.go_back.new.devices.outputs.keeper) (StopsBack s))
    (c.in-Back.ensures.back state limit asks)
    (c.go_back.ensures.stopped (sym c.status_of-in-Back.ensures ∙ two) named was held)

pub returns-in-Back-clause-bare : goal.returns-in-Back-clause-bare
returns-in-Back-clause-bare g c state limit asks done held =
    subst (λ (s : ℕ). (s ≡ 0) × IsOpenedRead c.args.opened.now)
    (c.in-Back.ensures.back state limit asks)
    (c.go_back.ensures.bare (sym c.status_of-in-Back.ensures ∙ done) held)

pub returns-in-Update-clause-updates : goal.returns-in-Update-clause-updates
returns-in-Update-clause-updates g c request asks named ending same was held =
    let led = c.in-Update.ensures.update request asks in
    let kept : IsKeptUpdate request = (
      subst (λ command. (session_ask_of (command_session command)).live ≢ None) asks.0 named,
      asks.1,
    ) in
    subst (λ (r : UpdateRequest). LeadsOn was (store_of c.update.new.devices.outputs.keeper)
    (UpdatesFrom ending (bytes_of c.args.opened.now.loaded.new)
    (conversions_of r.conversions.items))) led
    (c.update.ensures.ended ending (sym c.status_of-in-Update.ensures ∙ same) named
    (subst (λ (r : UpdateRequest). IsKeptUpdate r) (sym led) kept) was held)

pub returns-in-Update-clause-begins : goal.returns-in-Update-clause-begins
returns-in-Update-clause-begins g c request asks named ending same begins =
    let led = c.in-Update.ensures.update request asks in
    let kept : IsKeptUpdate request = (
      subst (λ command. (session_ask_of (command_session command)).live ≢ None) asks.0 named,
      asks.1,
    ) in
    subst (λ (r : UpdateRequest). UpdatesAnew c.args.opened.now r ending
    (store_of c.args.devices.now.outputs.keeper).frame
    (store_of c.update.new.devices.outputs.keeper)) led
    (c.update.ensures.begins ending (sym c.status_of-in-Update.ensures ∙ same)
    (subst (λ (r : UpdateRequest). IsKeptUpdate r) (sym led) kept) begins)

pub returns-in-Restart-clause-restarts : goal.returns-in-Restart-clause-restarts
returns-in-Restart-clause-restarts g c request asks named ending same was held =
    subst (λ (r : NamedRequest). LeadsOn was (store_of c.restart.new.devices.outputs.keeper)
    (RestartsFrom ending (map string_bytes r.names.items)))
    (c.in-Restart.ensures.restart request asks)
    (c.restart.ensures.ended ending (sym c.status_of-in-Restart.ensures ∙ same) named was held)

pub returns-in-Mend-clause-mends : goal.returns-in-Mend-clause-mends
returns-in-Mend-clause-mends g c request asks named done was held =
    subst (λ (r : NamedRequest). LeadsOn was (store_of c.mend.new.devices.outputs.keeper)
    (MendsFrom (named_ask_of r) (session_ask_of (session_in c.args.opened.now.loaded))))
    (c.in-Mend.ensures.mend request asks)
    (c.mend.ensures.done (sym c.status_of-in-Mend.ensures ∙ done) named was held)

pub returns-in-Way-clause-updates : goal.returns-in-Way-clause-updates
returns-in-Way-clause-updates g c request asks = absurd (c.in-Way.ensures.update request asks)

pub returns-in-Back-clause-updates : goal.returns-in-Back-clause-updates
returns-in-Back-clause-updates g c request asks = absurd (c.in-Back.ensures.update request asks)

pub returns-in-Restart-clause-updates : goal.returns-in-Restart-clause-updates
returns-in-Restart-clause-updates g c request asks =
    absurd (c.in-Restart.ensures.update request asks)

pub returns-in-Mend-clause-updates : goal.returns-in-Mend-clause-updates
returns-in-Mend-clause-updates g c request asks = absurd (c.in-Mend.ensures.update request asks)

pub returns-in-Journal-clause-updates : goal.returns-in-Journal-clause-updates
returns-in-Journal-clause-updates g c request asks =
    absurd (c.in-Journal.ensures.update request asks)

pub returns-in-Alone-clause-updates : goal.returns-in-Alone-clause-updates
returns-in-Alone-clause-updates g c request asks = absurd (c.in-Alone.ensures.update request asks)

pub returns-in-Way-clause-mends : goal.returns-in-Way-clause-mends
returns-in-Way-clause-mends g c request asks = absurd (c.in-Way.ensures.mend request asks)

pub returns-in-Back-clause-mends : goal.returns-in-Back-clause-mends
returns-in-Back-clause-mends g c request asks = absurd (c.in-Back.ensures.mend request asks)

pub returns-in-Restart-clause-mends : goal.returns-in-Restart-clause-mends
returns-in-Restart-clause-mends g c request asks = absurd (c.in-Restart.ensures.mend request asks)

pub returns-in-Journal-clause-mends : goal.returns-in-Journal-clause-mends
returns-in-Journal-clause-mends g c request asks = absurd (c.in-Journal.ensures.mend request asks)

pub returns-in-Alone-clause-mends : goal.returns-in-Alone-clause-mends
returns-in-Alone-clause-mends g c request asks = absurd (c.in-Alone.ensures.mend request asks)

pub returns-in-Way-clause-begins : goal.returns-in-Way-clause-begins
returns-in-Way-clause-begins g c request asks =
    absurd (c.in-Way.ensures.update request asks)

pub returns-in-Back-clause-begins : goal.returns-in-Back-clause-begins
returns-in-Back-clause-begins g c request asks =
    absurd (c.in-Back.ensures.update request asks)

pub returns-in-Restart-clause-begins : goal.returns-in-Restart-clause-begins
returns-in-Restart-clause-begins g c request asks =
    absurd (c.in-Restart.ensures.update request asks)

pub returns-in-Mend-clause-begins : goal.returns-in-Mend-clause-begins
returns-in-Mend-clause-begins g c request asks =
    absurd (c.in-Mend.ensures.update request asks)

pub returns-in-Journal-clause-begins : goal.returns-in-Journal-clause-begins
returns-in-Journal-clause-begins g c request asks =
    absurd (c.in-Journal.ensures.update request asks)

pub returns-in-Alone-clause-begins : goal.returns-in-Alone-clause-begins
returns-in-Alone-clause-begins g c request asks =
    absurd (c.in-Alone.ensures.update request asks)
