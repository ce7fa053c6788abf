use Rattle.rc_source.proofs.OneRefusal.{by_device}
use Rattle.rc_source.proofs.laws.sound_sources_are_refused_by_devices_alone.Goals as goal

pub returns : goal.returns
returns c tests flaw name all stops = by_device tests flaw name all stops
