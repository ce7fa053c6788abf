use Rattle.rc_cli.specs.Session.{dealt}
use Rattle.rc_cli.specs.Status.{run_log_of}
use Rattle.rc_cli.specs.Storing.{store_of}
use Rattle.rc_streams.specs.Noting.{HasFailed}
use Rattle.rc_launch.specs.Serving.{logged_of}
use Rattle.rc_launch.proofs.ServingLemmas.{check_carried, status_carried, update_carried}
use Rattle.rc_launch.proofs.serving.serve.Goals as goal

pub returns-in-Update : goal.returns-in-Update
returns-in-Update g c =
    let was = c.args.devices.now in
    let is = c.update_as_asked-code.new.devices in
    let loaded = c.args.opened.now.loaded in (
      c.read_of-live.result,
      c.read_of-live.ensures,
      rw c.in-Update.is (update_carried (logged_of c.args.opened.now.note) c.read_of-live.result
          c.update_as_asked-code.result
          (dealt g.R.Read.remaining g.W.Write.contents g.S.Store.holds was.reader
          is.reader was.outputs is.outputs) (HasFailed is.reader) (HasFailed is.outputs.writer)
          (g.S.Store.failed (store_of is.outputs.keeper)) (g.F.Write.contents was.faults)
          (g.F.Write.contents is.faults) c.in-Update.request loaded.base loaded.new
          c.bytes_of.result.now c.bytes_of-in-Update.result.now c.bytes_of.ensures
          c.bytes_of-in-Update.ensures c.update_as_asked-code.ensures.ended),
    )

pub returns-in-Status : goal.returns-in-Status
returns-in-Status g c =
    let was = c.args.devices.now in
    let is = c.status_as_asked-code.new.devices in
    let loaded = c.args.opened.now.loaded in (
      c.read_of-live.result,
      c.read_of-live.ensures,
      rw c.in-Status.is (status_carried (logged_of c.args.opened.now.note) c.read_of-live.result
          c.status_as_asked-code.result
          (dealt g.R.Read.remaining g.W.Write.contents g.S.Store.holds was.reader
          is.reader was.outputs is.outputs) (HasFailed is.reader) (HasFailed is.outputs.writer)
          (g.S.Store.failed (store_of is.outputs.keeper)) (g.F.Write.contents was.faults)
          (g.F.Write.contents is.faults) c.in-Status.request loaded.base loaded.new
          c.bytes_of-in-Status.result.now (run_log_of c.logged_in-log.result)
          c.bytes_of-in-Status.ensures
          c.logged_in-log.ensures c.status_as_asked-code.ensures.told),
    )

pub returns-in-Check : goal.returns-in-Check
returns-in-Check g c =
    let was = c.args.devices.now in
    let is = c.check_as_asked-code.new.devices in
    let loaded = c.args.opened.now.loaded in (
      c.read_of-live.result,
      c.read_of-live.ensures,
      rw c.in-Check.is (check_carried (logged_of c.args.opened.now.note) c.read_of-live.result
          c.check_as_asked-code.result
          (dealt g.R.Read.remaining g.W.Write.contents g.S.Store.holds was.reader
          is.reader was.outputs is.outputs) (HasFailed is.reader) (HasFailed is.outputs.writer)
          (g.S.Store.failed (store_of is.outputs.keeper)) (g.F.Write.contents was.faults)
          (g.F.Write.contents is.faults) c.in-Check.request loaded.base loaded.new
          c.bytes_of-in-Check.result.now c.bytes_of-in-Check.ensures
          c.check_as_asked-code.ensures.told),
    )
