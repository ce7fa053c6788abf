-- A session is launched: of lines of an input, of one line, or of a restart. There are three ways
-- to fail before it serves (the input, the database, the session in the file), and four to serve.
-- Each answer names the outcome that the definition asks for and joins what the calls on that way
-- promise. The lemmas of LaunchLemmas do that by the way, those of LeadingLemmas for what the store
-- holds.
use Rattle.std.proofs.Common.{◌≡◌, ◌∙◌, ℕ, List, Option, Some, Bor, Err, ap, inl, inr, refl}
use Rattle.std.proofs.Common.{subst, sym}
use Rattle.std.proofs.lemmas.Result.{IfOk-at_ok}
use Rattle.rc_streams.specs.Noting.{inner_of}
use Rattle.rc_runner.specs.Gates.{gate_answers, gate_gives}
use Rattle.rc_dbtext.specs.Base.{Spells, bytes_of}
use Rattle.rc_args.specs.SessionAsked.{session_ask_of}
use Rattle.rc_cli.specs.Session.{asked_with, dealt}
use Rattle.rc_cli.specs.SessionFaults.{IsEndTold, IsUnspelled, session_end}
use Rattle.rc_cli.specs.Storing.{store_of}
use Rattle.rc_cli.specs.declared.sessions.session_fault.SessionFault.TheVariants.{Failed}
use Rattle.rc_cli.proofs.SessionLemmas.{fault_wider}
use Rattle.rc_cli.proofs.LaunchLemmas.{err_as, opens_alone, opens_based, opens_rest, served_ends}
use Rattle.rc_cli.proofs.LaunchLemmas.{taken_based, told_read, unready_ends, unspelled_ends}
use Rattle.rc_cli.proofs.LeadingLemmas.{end_told, launch_alone, launch_leads}
use Rattle.rc_cli.proofs.OnceLemmas.{fault_with}
use Rattle.rc_cli.proofs.PuttingLemmas.{once_leads}
use Rattle.rc_cli.proofs.ServingLemmas.{named_some}
use Rattle.rc_cli.proofs.sessions.launching.launch.Goals as goal
use Rattle.rc_cli.proofs.sessions.launching.launch.Goals.{in-Line, in-Restart}
use Rattle.rc_cli.proofs.sessions.launching.launch.Goals.{in-Lines+in-Some, in-Lines+in-None}

pub returns-in-Err-clause-ended : goal.returns-in-Err-clause-ended
returns-in-Err-clause-ended g c = (
  Err (Failed c.in-Err.fault),
  (
    fault_wider c.in-Err.fault _ _ _ _ _ _ (λ r. inl r) (λ w. absurd w) (λ k. absurd k)
        c.in-Err.ensures.fault,
    inl (c.in-Err.ensures.unserved, refl, refl),
  ),
  c.tell_served.ensures,
)

pub returns-in-Err-clause-cause : goal.returns-in-Err-clause-cause
returns-in-Err-clause-cause g c failed =
    told_read (Err c.in-Err.fault) c.tell_served.result
    (g.F.Write.contents c.args.devices.now.faults) (g.F.Write.contents c.tell_served.new.faults)
    (err_as c.whole_input.result c.in-Err.fault _ c.in-Err.is (c.whole_input.ensures.told failed))
    c.tell_served.ensures

pub returns-in-Err-spelled-clause-ended : goal.returns-in-Err-spelled-clause-ended
returns-in-Err-spelled-clause-ended g c =
    let asked = asked_with (session_ask_of c.args.request.now) (bytes_of c.args.base) c.args.live in
    let deal = dealt g.R.Read.remaining g.W.Write.contents g.S.Store.holds
    c.args.devices.now.reader c.whole_input.new.reader c.args.devices.now.outputs
    c.args.devices.now.outputs in (
      Err c.in-Err-spelled.fault,
      unspelled_ends c.args.service asked deal _ _ _ refl refl c.in-Ok.input.items
          c.in-Ok.ensures.read c.in-Err-spelled.fault
          (subst (λ (bytes : List ℕ).
          IsUnspelled (bytes_of c.args.base) bytes c.in-Err-spelled.fault)
          c.deref.ensures.value c.in-Err-spelled.ensures.fault),
      c.tell_ended.ensures,
    )

pub returns-in-Err-begin_gated-clause-ended : goal.returns-in-Err-begin_gated-clause-ended
returns-in-Err-begin_gated-clause-ended g c =
    let asked = asked_with (session_ask_of c.args.request.now) (bytes_of c.args.base) c.args.live in
    let deal = dealt g.R.Read.remaining g.W.Write.contents g.S.Store.holds
    c.args.devices.now.reader c.whole_input.new.reader c.args.devices.now.outputs
    c.args.devices.now.outputs in
    let d = c.in-Ok-spelled.read.0 in
    let rest = c.in-Ok-spelled.read.1.now in (
      Err c.in-Err-begin_gated.fault,
      unready_ends c.args.service asked deal _ _ _ refl refl c.in-Ok.input.items
          c.in-Ok.ensures.read c.in-Err-begin_gated.fault d rest
          (subst (λ (bytes : List ℕ). Spells (bytes_of c.args.base) bytes d rest)
          c.deref.ensures.value c.in-Ok-spelled.ensures.spelled)
          c.in-Err-begin_gated.ensures.fault,
      c.tell_ended-in-Err-begin_gated.ensures,
    )

pub returns-clause-ended : goal.returns-clause-ended
returns-clause-ended g c =
    let service = c.args.service in
    let base = bytes_of c.args.base in
    let asked = asked_with (session_ask_of c.args.request.now) base c.args.live in
    let reader = c.args.devices.now.reader in
    let outputs = c.args.devices.now.outputs in
    let read = c.whole_input.new.reader in
    let before = g.R.Read.remaining (inner_of reader) in
    let after = g.R.Read.remaining (inner_of read) in
    let all = c.in-Ok.input.items in
    let d = c.in-Ok-spelled.read.0 in
    let lines = c.in-Ok-spelled.read.1 in
    let reads = c.in-Ok.ensures.read in
    let spelled : Spells base all d lines.now =
    subst (λ (bytes : List ℕ). Spells base bytes d lines.now) c.deref.ensures.value
    c.in-Ok-spelled.ensures.spelled in
    let alone = opens_alone base before after d all lines.now reads spelled in
    let gate = c.in-Ok-begin_gated.begun.0 in
    let session = c.in-Ok-begin_gated.begun.1 in
    let controlled = c.in-Ok-begin_gated.ensures.controlled in
    let made = c.in-Ok-begin_gated.ensures.gate in
    let begun = c.in-Ok-begin_gated.ensures.begun in
    let same : g.F.Write.contents c.match-service.devices.faults
    ≡ g.F.Write.contents c.args.devices.now.faults = elim c.match-service.branch [
      | in-Line w ↦ rw w.devices-is refl
      | in-Restart w ↦ rw w.devices-is refl
      | in-Lines+in-Some w ↦ rw w.devices-is refl
      | in-Lines+in-None w ↦ rw w.devices-is refl
    ] in (
      session_end c.match-service.served,
      elim c.match-service.branch [
        | in-Line w ↦
            let deal = dealt g.R.Read.remaining g.W.Write.contents g.S.Store.holds reader read
            outputs w.serve_once-served.new.outputs in
            rw w.devices-is (rw w.served-is (served_ends service asked deal alone.0 alone.0 d gate
            session w.serve_once-served.new.session alone.1 controlled made begun
            w.serve_once-served.result _ _ _
            (λ fails lets. rw w.in-Line.is (refl, w.serve_once-served.ensures.served))
            (fault_with w.serve_once-served.result ⊥ _ _ _ _ (λ x. absurd x)
            (λ k. (k.0, inr k.1)) w.serve_once-served.ensures.fault)))
        | in-Restart w ↦
            let deal = dealt g.R.Read.remaining g.W.Write.contents g.S.Store.holds reader read
            outputs w.restart_in-served.new.outputs in
            rw w.devices-is (rw w.served-is (served_ends service asked deal alone.0 alone.0 d gate
            session session alone.1 controlled made begun w.restart_in-served.result _ _ _
            (λ fails lets. rw w.in-Restart.is (refl, w.restart_in-served.ensures.served))
            (fault_with w.restart_in-served.result ⊥ _ _ _ _ (λ x. absurd x)
            (λ k. (k.0, inr k.1)) w.restart_in-served.ensures.fault)))
        | in-Lines+in-Some w ↦
            let left = w.serve_lines.new.reader in
            let deal = dealt g.R.Read.remaining g.W.Write.contents g.S.Store.holds reader left
            outputs w.serve_lines.new.outputs in
            rw w.devices-is (rw w.served-is (served_ends service asked deal after
            (g.R.Read.remaining (inner_of left)) d gate session w.serve_lines.new.session
            (opens_based base before after (g.R.Read.remaining (inner_of left)) d all lines.now
            (named_some (λ b. b.now) c.args.base _ w.in-Some.is) reads spelled)
            controlled made begun w.serve_lines.result _ _ _
            (λ fails lets. rw w.in-Lines.is (w.serve_lines.ensures.served fails lets))
            (fault_with w.serve_lines.result _ _ _ _ _ (λ r. inl r) (λ k. (k.0, inr k.1))
            w.serve_lines.ensures.fault)))
        | in-Lines+in-None w ↦
            let none = ap bytes_of w.in-None.is in
            let deal = dealt g.R.Read.remaining g.W.Write.contents g.S.Store.holds reader read
            outputs w.serve_lines-in-None.new.outputs in
            let rest = (inner_of c.new-rest.result).now in
            let left = Some (inner_of w.serve_lines-in-None.new.reader).now in
            rw w.devices-is (rw w.served-is (served_ends service asked deal (Some rest) left d gate
            session w.serve_lines-in-None.new.session
            (opens_rest base before after left d all rest none reads
            (subst (λ (l : Bor (List ℕ)). Spells base all d l.now) (sym c.new-rest.ensures.inner)
            spelled))
            controlled made begun w.serve_lines-in-None.result _ _ _
            (λ fails lets. rw w.in-Lines.is (w.serve_lines-in-None.ensures.served fails lets))
            (fault_with w.serve_lines-in-None.result _ _ _ _ _
            (λ r. inr (rw w.in-Lines.is none)) (λ k. (k.0, inr k.1))
            w.serve_lines-in-None.ensures.fault)))
      ],
      subst (λ (told : Option (List ℕ)). IsEndTold (session_end c.match-service.served)
          c.tell_served-2.result told (g.F.Write.contents c.tell_served-2.new.faults)) same
          c.tell_served-2.ensures,
    )

pub returns-clause-cause : goal.returns-clause-cause
returns-clause-cause g c failed = elim c.match-service.branch [
  | in-Line w ↦ absurd (c.in-Ok.ensures.sound (rw w.devices-is at failed))
  | in-Restart w ↦ absurd (c.in-Ok.ensures.sound (rw w.devices-is at failed))
  | in-Lines+in-Some w ↦
      told_read c.match-service.served c.tell_served-2.result
      (g.F.Write.contents c.args.devices.now.faults)
      (g.F.Write.contents c.tell_served-2.new.faults)
      (w.served-is ∙ w.serve_lines.ensures.told (rw w.devices-is at failed))
      (rw w.devices-is at c.tell_served-2.ensures)
  | in-Lines+in-None w ↦ absurd (c.in-Ok.ensures.sound (rw w.devices-is at failed))
]

pub returns-clause-taken : goal.returns-clause-taken
returns-clause-taken g c = elim c.match-service.branch [
  | in-Line w ↦ rw w.devices-is c.whole_input.ensures.taken
  | in-Restart w ↦ rw w.devices-is c.whole_input.ensures.taken
  | in-Lines+in-Some w ↦
      rw w.devices-is (taken_based (bytes_of c.args.base) _ _ _ c.in-Ok.input.items _
      (named_some (λ b. b.now) c.args.base _ w.in-Some.is) c.in-Ok.ensures.read
      w.serve_lines.ensures.taken)
  | in-Lines+in-None w ↦ rw w.devices-is c.whole_input.ensures.taken
]

pub returns-in-Err-clause-led : goal.returns-in-Err-clause-led
returns-in-Err-clause-led g c ending same =
    launch_alone g.S.Store.put c.args.service
    (asked_with (session_ask_of c.args.request.now) (bytes_of c.args.base) c.args.live) ending _ _ _
    (Failed c.in-Err.fault) _ _ _
    c.tell_served.ensures same

pub returns-in-Err-spelled-clause-led : goal.returns-in-Err-spelled-clause-led
returns-in-Err-spelled-clause-led g c ending same =
    launch_alone g.S.Store.put c.args.service
    (asked_with (session_ask_of c.args.request.now) (bytes_of c.args.base) c.args.live) ending _ _ _
    c.in-Err-spelled.fault _ _ _
    c.tell_ended.ensures same

pub returns-in-Err-begin_gated-clause-led : goal.returns-in-Err-begin_gated-clause-led
returns-in-Err-begin_gated-clause-led g c ending same =
    launch_alone g.S.Store.put c.args.service
    (asked_with (session_ask_of c.args.request.now) (bytes_of c.args.base) c.args.live) ending _ _ _
    c.in-Err-begin_gated.fault _ _ _
    c.tell_ended-in-Err-begin_gated.ensures same

pub returns-clause-led : goal.returns-clause-led
returns-clause-led g c ending same =
    let base = bytes_of c.args.base in
    let asked = asked_with (session_ask_of c.args.request.now) base c.args.live in
    let path = asked.ask.live in
    let before = g.R.Read.remaining (inner_of c.args.devices.now.reader) in
    let after = g.R.Read.remaining (inner_of c.whole_input.new.reader) in
    let all = c.in-Ok.input.items in
    let d = c.in-Ok-spelled.read.0 in
    let lines = c.in-Ok-spelled.read.1 in
    let reads = c.in-Ok.ensures.read in
    let spelled : Spells base all d lines.now =
    subst (λ (bytes : List ℕ). Spells base bytes d lines.now) c.deref.ensures.value
    c.in-Ok-spelled.ensures.spelled in
    let alone = opens_alone base before after d all lines.now reads spelled in
    let gate = c.in-Ok-begin_gated.begun.0 in
    let session = c.in-Ok-begin_gated.begun.1 in
    let was = store_of c.args.devices.now.outputs.keeper in
    let ended = end_told c.match-service.served _ _ _ ending c.tell_served-2.ensures same in
    elim c.match-service.branch [
      | in-Line w ↦
          let is = store_of w.serve_once-served.new.outputs.keeper in
          rw w.devices-is (launch_leads g.S.Store.put c.args.service asked ending before after
          alone.0 alone.0 d session was is alone.1 c.in-Ok-begin_gated.ensures.begun
          (rw w.in-Line.is (
            w.serve_once-served.new.session.line,
            once_leads g.S.Store.put path c.args.request.now.workers (gate_answers gate)
                (gate_gives gate) _ _ _ _ _ session w.serve_once-served.new.session was is
                ending w.serve_once-served.result (sym w.served-is ∙ ended)
                w.serve_once-served.ensures.served
                w.serve_once-served.ensures.led,
          )))
      | in-Restart w ↦
          let is = store_of w.restart_in-served.new.outputs.keeper in
          rw w.devices-is (launch_leads g.S.Store.put c.args.service asked ending before after
          alone.0 alone.0 d session was is alone.1 c.in-Ok-begin_gated.ensures.begun
          (rw w.in-Restart.is (IfOk-at_ok _ (sym w.served-is ∙ ended)
          w.restart_in-served.ensures.led)))
      | in-Lines+in-Some w ↦
          let left = g.R.Read.remaining (inner_of w.serve_lines.new.reader) in
          let is = store_of w.serve_lines.new.outputs.keeper in
          rw w.devices-is (launch_leads g.S.Store.put c.args.service asked ending before left after
          left d session was is (opens_based base before after left d all lines.now
          (named_some (λ b. b.now) c.args.base _ w.in-Some.is) reads spelled)
          c.in-Ok-begin_gated.ensures.begun (rw w.in-Lines.is tt))
      | in-Lines+in-None w ↦
          let is = store_of w.serve_lines-in-None.new.outputs.keeper in
          rw w.devices-is (launch_leads g.S.Store.put c.args.service asked ending before after
          alone.0 alone.0 d session was is alone.1 c.in-Ok-begin_gated.ensures.begun
          (rw w.in-Lines.is tt))
    ]
