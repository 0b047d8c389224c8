use Rattle.std.proofs.Common.{◌≡◌, ◌≤◌, true, drop}
use Rattle.std.specs.List.{list_all}
use Rattle.std.specs.Char.{is_ascii_digit}
use Rattle.std.specs.Str.Parse.{digits_value, digits_value_after}
use Rattle.paging_params.specs.Params.{below_limit}
use Rattle.paging_params.proofs.value.number_of.Given as goal

abbrev pub invariant-loop-digit : goal.invariant-loop-digit
invariant-loop-digit l = record {
  value : below_limit (digits_value_after 10 l.number (drop l.digit-index l.digits)) ≡ below_limit (digits_value 10 l.digits);
  left : list_all is_ascii_digit (drop l.digit-index l.digits) ≡ true;
  small : l.number ≤ 9_223_372_036_854_775_808;
}
