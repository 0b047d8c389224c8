use Rattle.std.proofs.Common.{◌≡◌, ◌≤◌, true, drop}
use Rattle.std.specs.List.{list_all}
use Rattle.std.specs.Char.{is_ascii_digit}
use Rattle.std.specs.Str.Parse.{digits_value, digits_value_after}
use Rattle.http_spec.specs.Framing.{within_limit}
use Rattle.http_front.proofs.fields.size_of.Given as goal

abbrev pub invariant-loop-digit : goal.invariant-loop-digit
invariant-loop-digit l = record {
  value : within_limit (digits_value_after 10 l.size (drop l.digit-index l.digits)) ≡ within_limit (digits_value 10 l.digits);
  left : list_all is_ascii_digit (drop l.digit-index l.digits) ≡ true;
  small : l.size ≤ 16_777_217;
}
