use Rattle.std.proofs.Common.{◌≡◌, length, map, take}
use Rattle.rc_model.specs.Database.{HaveBound}
use Rattle.rc_dbtext.specs.Spelling.{bundle_text}
use Rattle.rc_dbtext.proofs.bundles.table_of.Given as goal

-- the table has the bundles so far
abbrev pub invariant-loop-form : goal.invariant-loop-form
invariant-loop-form l = record {
  bundles : map (bundle_text l.names) l.table ≡ take l.form-index l.forms;
  bounds : HaveBound (length l.names) l.table;
}
