use Rattle.std.proofs.Common.{◌≡◌, ◌++◌, take, map}
use Rattle.rc_dbtext.specs.Form.{spells}
use Rattle.rc_livetext.specs.Text.{OfBundle, spell}
use Rattle.rc_historytext.proofs.session_text.push_bundles.Given as goal

-- the lines so far
abbrev pub invariant-loop-bundle : goal.invariant-loop-bundle
invariant-loop-bundle l =
    l.out.items ≡ l.fn.out.items ++ spells spell (map OfBundle (take l.bundle-index l.bundles))
