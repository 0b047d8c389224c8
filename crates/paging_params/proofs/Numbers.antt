-- A number past the limit is as good as none.
use Rattle.std.proofs.Common.{◌≡◌, ◌∙◌, ℕ, ◌≤◌, arith, sym, ap, Bool, false, Some, None}
use Rattle.std.specs.Prelude.{nat_lt, if◌then◌else◌}
use Rattle.paging_params.specs.Params.{below_limit}

too_many : (n : ℕ) → 9_223_372_036_854_775_808 ≤ n → below_limit n ≡ None
too_many n h = let no_more : nat_lt n 9_223_372_036_854_775_808 ≡ false = grind arith in ap (λ (b : Bool). if b then Some n else None) no_more

-- how far above the limit doesn't count
pub past_limit : (n : ℕ) → 9_223_372_036_854_775_808 ≤ n → below_limit n ≡ below_limit 9_223_372_036_854_775_808
past_limit n h = too_many n h ∙ sym (too_many 9_223_372_036_854_775_808 (omega arith))
