-- The lines of an input are served in a session. Without a file nothing is kept, and the clauses
-- are those of `serve`. With one, the session is kept first, and each line before its answer; what
-- the keeper of lines holds is turned into what the store of the file holds (`lines_come`).
use Rattle.std.proofs.Common.{ap, inl, option_map}
use Rattle.std.proofs.lemmas.Result.{IfErr-weaker, on_ok_weaker}
use Rattle.rc_streams.specs.Exchange.{exchanged}
use Rattle.rc_serve.specs.Ending.{IsDoneAs}
use Rattle.rc_args.specs.SessionAsked.{session_ask_of}
use Rattle.rc_cli.specs.Storing.{HoldsText, store_of}
use Rattle.rc_cli.proofs.ServingLemmas.{holds_named, holds_none, lines_come, named_some}
use Rattle.rc_cli.proofs.sessions.serving.serve_lines.Goals as goal

pub returns-in-None-clause-served : goal.returns-in-None-clause-served
returns-in-None-clause-served g c fails lets =
    let path = (session_ask_of c.args.request.now).live in
    let held = g.S.Store.holds (store_of c.args.outputs.now.keeper) in
    let workers = c.args.request.now.workers in
    let answers = g.G.Gate.answers c.args.gate.now in
    let gives = g.G.Gate.gives c.args.gate.now in
    let io = exchanged g.R.Read.remaining g.W.Write.contents c.args.reader.now c.serve.new.reader
    c.args.outputs.now.writer c.serve.new.writer in
    lines_come workers answers gives (IsDoneAs workers answers gives) io c.args.session.now
    c.serve.new.session (λ fault. ⊥) (λ d line. Unit {0}) (λ d line. Unit {0}) path held held tt
    (λ d line kept. holds_none path held (ap (option_map (λ f. f.now)) c.in-None.is) d line)
    c.serve.ensures.play c.serve.result c.as_done.result fails
    c.as_done.ensures c.serve.ensures.done c.serve.ensures.text
    (IfErr-weaker c.serve.result _ _ (λ fault served. (served, inl (inl tt)))
    c.serve.ensures.begun)
    (λ f exact timeless. IfErr-weaker c.serve.result _ _ (λ fault served. (served, inl (inl tt)))
    (c.serve.ensures.front f exact timeless))
    (on_ok_weaker c.serve.result (λ all. inl tt) c.serve.ensures.done) lets

pub returns-in-Ok-clause-served : goal.returns-in-Ok-clause-served
returns-in-Ok-clause-served g c fails lets =
    let path = (session_ask_of c.args.request.now).live in
    let held = g.S.Store.holds (store_of c.args.outputs.now.keeper) in
    let workers = c.args.request.now.workers in
    let answers = g.G.Gate.answers c.args.gate.now in
    let gives = g.G.Gate.gives c.args.gate.now in
    let io =
    exchanged g.R.Read.remaining g.W.Write.contents c.args.reader.now c.serve_kept.new.reader
    c.args.outputs.now.writer c.serve_kept.new.writer in
    let first = g.S.Store.holds (store_of c.keep.new.self) in
    let is = g.S.Store.holds (store_of c.serve_kept.new.keeper) in
    lines_come workers answers gives (IsDoneAs workers answers gives) io c.args.session.now
    c.serve_kept.new.session (λ fault. Unit {0}) (HoldsText first) (HoldsText is) path held is
    c.in-Ok.ensures.kept
    (holds_named path held is (named_some (λ f. f.now) c.args.request.now.live _ c.in-Some.is))
    c.serve_kept.ensures.play c.serve_kept.result c.as_done-in-Ok.result fails
    c.as_done-in-Ok.ensures c.serve_kept.ensures.done c.serve_kept.ensures.text
    c.serve_kept.ensures.begun c.serve_kept.ensures.front c.serve_kept.ensures.kept lets
