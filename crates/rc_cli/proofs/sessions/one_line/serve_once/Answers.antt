use Rattle.std.proofs.Common.{[], List, ap, map, refl, string_bytes, subst, ℕ}
use Rattle.rc_model.specs.Session.{Redo, Undo}
use Rattle.rc_streams.specs.Noting.{inner_of}
use Rattle.rc_args.specs.OnceAsked.{WantsDown, WantsDryRedo, WantsDryRestart, WantsDryUndo}
use Rattle.rc_args.specs.SessionAsked.{session_ask_of}
use Rattle.rc_serve.specs.Ending.{EndsWay, IsDoneAs}
use Rattle.rc_cli.specs.Showing.{EndsDown, EndsDryRestart}
use Rattle.rc_cli.specs.Storing.{store_of}
use Rattle.rc_cli.proofs.LeadingLemmas.{left_alone}
use Rattle.rc_cli.proofs.OnceLemmas.{fault_with, shown_so}
use Rattle.rc_cli.proofs.sessions.one_line.serve_once.Goals as goal

pub returns-in-DryUndo-clause-served : goal.returns-in-DryUndo-clause-served
returns-in-DryUndo-clause-served g c =
    let workers = c.args.request.now.workers in
    rw c.in-DryUndo.is (shown_so WantsDryUndo (λ ending text. EndsWay ending
    c.args.session.now.database c.args.session.now.line (Undo 0 []) text)
    (session_ask_of c.args.request.now).live
    (g.S.Store.holds (store_of c.args.outputs.now.keeper))
    (IsDoneAs workers (g.G.Gate.answers c.args.gate.now) (g.G.Gate.gives c.args.gate.now))
    (g.W.Write.contents (inner_of c.args.outputs.now.writer))
    (g.W.Write.contents (inner_of c.show_undo.new.writer)) c.args.session.now
    (λ ending text way. (way, refl)) tt refl c.show_undo.result c.show_undo.ensures.shown
    c.show_undo.ensures.failed)

pub returns-in-DryUndo-clause-led : goal.returns-in-DryUndo-clause-led
returns-in-DryUndo-clause-led g c =
    rw c.in-DryUndo.is (left_alone (store_of c.args.outputs.now.keeper) c.show_undo.result)

pub returns-in-DryUndo-clause-fault : goal.returns-in-DryUndo-clause-fault
returns-in-DryUndo-clause-fault g c =
    fault_with c.show_undo.result ⊥ _ ⊥ ⊥ _ (λ x. x) (λ none. absurd none) c.show_undo.ensures.fault

pub returns-in-DryRedo-clause-served : goal.returns-in-DryRedo-clause-served
returns-in-DryRedo-clause-served g c =
    let workers = c.args.request.now.workers in
    rw c.in-DryRedo.is (shown_so WantsDryRedo (λ ending text. EndsWay ending
    c.args.session.now.database c.args.session.now.line (Redo 0 []) text)
    (session_ask_of c.args.request.now).live
    (g.S.Store.holds (store_of c.args.outputs.now.keeper))
    (IsDoneAs workers (g.G.Gate.answers c.args.gate.now) (g.G.Gate.gives c.args.gate.now))
    (g.W.Write.contents (inner_of c.args.outputs.now.writer))
    (g.W.Write.contents (inner_of c.show_redo.new.writer)) c.args.session.now
    (λ ending text way. (way, refl)) tt refl c.show_redo.result c.show_redo.ensures.shown
    c.show_redo.ensures.failed)

pub returns-in-DryRedo-clause-led : goal.returns-in-DryRedo-clause-led
returns-in-DryRedo-clause-led g c =
    rw c.in-DryRedo.is (left_alone (store_of c.args.outputs.now.keeper) c.show_redo.result)

pub returns-in-DryRedo-clause-fault : goal.returns-in-DryRedo-clause-fault
returns-in-DryRedo-clause-fault g c =
    fault_with c.show_redo.result ⊥ _ ⊥ ⊥ _ (λ x. x) (λ none. absurd none) c.show_redo.ensures.fault

pub returns-in-DryRestart-clause-served : goal.returns-in-DryRestart-clause-served
returns-in-DryRestart-clause-served g c =
    let workers = c.args.request.now.workers in
    let d = c.args.session.now.database in
    let here = c.args.session.now.line in
    let names = map string_bytes c.deref.result.now in
    rw c.in-DryRestart.is (shown_so (WantsDryRestart (map string_bytes c.in-DryRestart.names.items))
    (λ ending text. EndsDryRestart ending d here names text)
    (session_ask_of c.args.request.now).live
    (g.S.Store.holds (store_of c.args.outputs.now.keeper))
    (IsDoneAs workers (g.G.Gate.answers c.args.gate.now) (g.G.Gate.gives c.args.gate.now))
    (g.W.Write.contents (inner_of c.args.outputs.now.writer))
    (g.W.Write.contents (inner_of c.show_restart.new.writer)) c.args.session.now
    (λ ending text way. (
      subst (λ (asked : List (List ℕ)). EndsDryRestart ending d here asked text)
          (ap (map string_bytes) c.deref.ensures.value) way,
      refl,
    ))
    tt refl c.show_restart.result c.show_restart.ensures.shown c.show_restart.ensures.failed)

pub returns-in-DryRestart-clause-led : goal.returns-in-DryRestart-clause-led
returns-in-DryRestart-clause-led g c =
    rw c.in-DryRestart.is (left_alone (store_of c.args.outputs.now.keeper) c.show_restart.result)

pub returns-in-DryRestart-clause-fault : goal.returns-in-DryRestart-clause-fault
returns-in-DryRestart-clause-fault g c =
    fault_with c.show_restart.result ⊥ _ ⊥ ⊥ _ (λ x. x) (λ none. absurd none)
    c.show_restart.ensures.fault

pub returns-in-Down-clause-served : goal.returns-in-Down-clause-served
returns-in-Down-clause-served g c =
    let workers = c.args.request.now.workers in
    rw c.in-Down.is (shown_so WantsDown (λ ending text. EndsDown ending
    c.args.session.now.database c.args.session.now.line text)
    (session_ask_of c.args.request.now).live
    (g.S.Store.holds (store_of c.args.outputs.now.keeper))
    (IsDoneAs workers (g.G.Gate.answers c.args.gate.now) (g.G.Gate.gives c.args.gate.now))
    (g.W.Write.contents (inner_of c.args.outputs.now.writer))
    (g.W.Write.contents (inner_of c.show_down.new.writer)) c.args.session.now
    (λ ending text way. (way, refl)) tt refl c.show_down.result c.show_down.ensures.shown
    c.show_down.ensures.failed)

pub returns-in-Down-clause-led : goal.returns-in-Down-clause-led
returns-in-Down-clause-led g c =
    rw c.in-Down.is (left_alone (store_of c.args.outputs.now.keeper) c.show_down.result)

pub returns-in-Down-clause-fault : goal.returns-in-Down-clause-fault
returns-in-Down-clause-fault g c =
    fault_with c.show_down.result ⊥ _ ⊥ ⊥ _ (λ x. x) (λ none. absurd none)
    c.show_down.ensures.fault

pub returns-in-Line-clause-served : goal.returns-in-Line-clause-served
returns-in-Line-clause-served g c = rw c.in-Line.is c.line_once.ensures.served

pub returns-in-Line-clause-led : goal.returns-in-Line-clause-led
returns-in-Line-clause-led g c = rw c.in-Line.is c.line_once.ensures.led
