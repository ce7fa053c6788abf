use Rattle.std.proofs.Common.{◌≡◌, ◌≤◌, take}
use Rattle.std.specs.Str.Parse.{digits_value}
use Rattle.rc_dbtext.proofs.lexer.words.value_in.Given as goal

-- the number of the digits so far
abbrev pub invariant-loop-digit : goal.invariant-loop-digit
invariant-loop-digit l = record {
  few : l.value ≤ l.most;
  so_far : l.value ≡ digits_value 10 (take l.digit-index l.digits);
}
