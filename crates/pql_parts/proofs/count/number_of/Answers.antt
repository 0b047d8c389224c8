use Rattle.std.proofs.Common.{◌≡◌, ◌∙◌, ap, sym, true, Some, None, if◌then◌else◌}
use Rattle.std.specs.Result.{result_ok}
use Rattle.std.specs.Str.Parse.{digits_value}
use Rattle.query_spec.specs.Parts.{are_digits}
use Rattle.query_spec.proofs.Counts.{count_gives}
use Rattle.pql_parts.proofs.count.number_of.Goals as goal

pub returns-then-are_digits : goal.returns-then-are_digits
returns-then-are_digits c =
    let spelling = c.args.spelling.now in
    let digits : are_digits spelling ≡ true = sym c.are_digits.ensures ∙ c.if-are_digits.true in
    c.ok.ensures.value
    ∙ ap result_ok (count_gives spelling c.parse.result c.parse.ensures.value.0 digits)
    ∙ ap (λ b. if b then Some (digits_value 10 spelling) else None) (sym digits)
