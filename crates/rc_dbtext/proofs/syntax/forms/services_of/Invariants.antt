use Rattle.std.proofs.Common.{◌≡◌, ◌++◌, length, All}
use Rattle.std.specs.List.{flat_map}
use Rattle.rc_dbtext.specs.Text.{IsServiceText, service_lines, spells}
use Rattle.rc_dbtext.proofs.syntax.forms.services_of.Given as goal

-- so many so far, and their lines in front of the rest
abbrev pub invariant-loop : goal.invariant-loop
invariant-loop l = record {
  count : length l.services.items ≡ l.counter;
  each : All IsServiceText l.services.items;
  front : l.bytes ≡ spells (flat_map service_lines l.services.items) ++ l.rest;
}
