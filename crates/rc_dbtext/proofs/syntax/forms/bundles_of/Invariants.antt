use Rattle.std.proofs.Common.{◌≡◌, ◌++◌, length, All}
use Rattle.std.specs.List.{flat_map}
use Rattle.rc_dbtext.specs.Text.{IsBundleText, bundle_lines, spells}
use Rattle.rc_dbtext.proofs.syntax.forms.bundles_of.Given as goal

-- so many so far, and their lines in front of the rest
abbrev pub invariant-loop : goal.invariant-loop
invariant-loop l = record {
  count : length l.bundles.items ≡ l.counter;
  each : All IsBundleText l.bundles.items;
  front : l.bytes ≡ spells (flat_map bundle_lines l.bundles.items) ++ l.rest;
}
