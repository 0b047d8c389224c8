use Rattle.std.proofs.Common.{◌≡◌, ◌∙◌, ◌+◌, ◌*◌, ◌-◌, min, get_or, drop, arith, refl, ap}
use Rattle.std.specs.Str.Parse.{digits_value_after}
use Rattle.http_spec.specs.Framing.{within_limit}
use Rattle.http_spec.proofs.of_plain_laws.LimitedDigits.{one_digit, still_digits}
use Rattle.http_front.proofs.FieldValues.{past_limit}
use Rattle.http_front.proofs.fields.size_of.Goals as goal

pub loop-digit-preserved : goal.loop-digit-preserved
loop-digit-preserved c =
    let digits = c.args.digits.now in
    let i = c.loop-digit.digit-index in
    let size : c.min-size.result ≡ min (c.loop-digit.size * 10 + (get_or digits i 0 - 48)) 16_777_217 =
    c.min-size.ensures ∙ ap (λ d. min (c.loop-digit.size * 10 + d) 16_777_217) c.from.ensures in
    record {
      value =
          ap (λ n. within_limit (digits_value_after 10 n (drop (i + 1) digits))) size
          ∙ one_digit within_limit 16_777_217 past_limit digits i (get_or digits i 0) c.loop-digit.size (omega arith) refl c.loop-digit.invariant.left ∙ c.loop-digit.invariant.value;
      left = (still_digits digits i (omega arith) c.loop-digit.invariant.left).1;
      small = omega arith;
    }
