use Rattle.std.proofs.Common.{◌≡◌, ◌<◌, ◌^◌, drop}
use Rattle.std.specs.Str.Parse.{digits_value_after, AllDigits}
use Rattle.json_tree.proofs.scaled.value_after.Given as goal

abbrev pub invariant-loop-digit : goal.invariant-loop-digit
invariant-loop-digit l = record {
  value : digits_value_after 10 l.value (drop l.digit-index l.digits) ≡ digits_value_after 10 l.front l.digits;
  left : AllDigits 10 (drop l.digit-index l.digits);
  small : l.value < 10 ^ 37;
}
