-- Spellings that are scaled, and spellings that aren't.
use Rattle.std.proofs.Common.{◌≡◌, refl, pos, neg_ℤ, Some, None, codes}
use Rattle.text_spec.specs.Number.{scaled, compare}
use Rattle.std.specs.declared.cmp.Ordering.TheVariants.{Less, Equal}

tenth : scaled (codes "0.10") ≡ Some (pos 100_000_000_000_000_000)
unfolding scaled
tenth = refl

zero_far_up : scaled (codes "0e999") ≡ Some (pos 0)
unfolding scaled
zero_far_up = refl

too_large : scaled (codes "1e400") ≡ None
unfolding scaled
too_large = refl

minus_zero : scaled (codes "-0") ≡ Some (pos 0)
unfolding scaled
minus_zero = refl

hundred : scaled (codes "1E+2") ≡ Some (pos 100_000_000_000_000_000_000)
unfolding scaled
hundred = refl

-- one part in 10^18 is the least
least : scaled (codes "-1e-18") ≡ Some (neg_ℤ (pos 1))
unfolding scaled
least = refl

too_fine : scaled (codes "1e-19") ≡ None
unfolding scaled
too_fine = refl

first_too_large : scaled (codes "10000000000000000000") ≡ None
unfolding scaled
first_too_large = refl

last_small : scaled (codes "9999999999999999999.999999999999999999") ≡ Some (pos 9_999_999_999_999_999_999_999_999_999_999_999_999)
unfolding scaled
last_small = refl

alike : compare (codes "0.10") (codes "1e-1") ≡ Some Equal
unfolding scaled
alike = refl

below : compare (codes "-1") (codes "0.5") ≡ Some Less
unfolding scaled
below = refl

no_order : compare (codes "1e400") (codes "2e400") ≡ None
unfolding scaled
no_order = refl

own_spelling : compare (codes "1e400") (codes "1e400") ≡ Some Equal
unfolding scaled
own_spelling = refl
