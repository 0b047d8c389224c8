use Rattle.std.proofs.Common.{◌≡◌, ◌∙◌, ◌+◌, ◌*◌, ◌-◌, min, get_or, drop, arith, refl, ap}
use Rattle.std.specs.Str.Parse.{digits_value_after}
use Rattle.paging_params.specs.Params.{below_limit}
use Rattle.json_read.proofs.of_plain_laws.LimitedDigits.{one_digit, still_digits}
use Rattle.paging_params.proofs.Numbers.{past_limit}
use Rattle.paging_params.proofs.value.number_of.Goals as goal

pub loop-digit-preserved : goal.loop-digit-preserved
loop-digit-preserved c =
    let digits = c.args.digits.now in
    let i = c.loop-digit.digit-index in
    let number : c.min-number.result ≡ min (c.loop-digit.number * 10 + (get_or digits i 0 - 48)) 9_223_372_036_854_775_808 =
    c.min-number.ensures ∙ ap (λ d. min (c.loop-digit.number * 10 + d) 9_223_372_036_854_775_808) c.from.ensures in
    record {
      value =
          ap (λ n. below_limit (digits_value_after 10 n (drop (i + 1) digits))) number
          ∙ one_digit below_limit 9_223_372_036_854_775_808 past_limit digits i (get_or digits i 0) c.loop-digit.number (omega arith) refl c.loop-digit.invariant.left ∙ c.loop-digit.invariant.value;
      left = (still_digits digits i (omega arith) c.loop-digit.invariant.left).1;
      small = omega arith;
    }
