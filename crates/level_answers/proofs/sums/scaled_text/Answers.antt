use Rattle.std.proofs.Common.{◌≡◌, ◌∙◌, ap, ◌++◌, ◌∷◌, [], List, ℕ, ◌/◌, ◌%◌, ◌^◌, pos, int_lt, unsigned_abs, decimal, if◌then◌else◌, rules}
use Rattle.query_plan.specs.means_spec.Groups.{decimals}
use Rattle.level_answers.proofs.sums.scaled_text.Goals as goal

pub returns-clause-text : goal.returns-clause-text
returns-clause-text c =
    let m = c.args.m.now in
    let sign : List ℕ = if int_lt m (pos 0) then 45 ∷ [] else [] in
    let size : c.unsigned_abs-size.result ≡ unsigned_abs m = search rules in
    c.in_ok-put_decimals.ensures
    ∙ ap (λ t. t ++ decimals (c.unsigned_abs-size.result % 10 ^ 18)) c.in_ok-push_str.ensures.bytes
    ∙ ap (λ t. (t ++ c.format.result.now) ++ decimals (c.unsigned_abs-size.result % 10 ^ 18)) (c.in_ok-put_sign.ensures ∙ ap (λ t. t ++ sign) c.new-out.ensures.bytes)
    ∙ ap (λ t. (sign ++ t) ++ decimals (c.unsigned_abs-size.result % 10 ^ 18)) c.format.ensures.text
    ∙ ap (λ n. (sign ++ decimal (n / 10 ^ 18)) ++ decimals (n % 10 ^ 18)) size
