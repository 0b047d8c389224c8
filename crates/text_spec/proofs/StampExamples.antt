-- Stamps and texts that are none.
use Rattle.std.proofs.Common.{◌≡◌, refl, pos, Some, None, codes}
use Rattle.jiff.proofs.OnLiterals.{jiff_on_literals}
use Rattle.text_spec.specs.StampReader.{stamp_of, date_at, time_at, two_digits, one_of, fraction_at, distance_at, offset_at}

whole_seconds : stamp_of (codes "2024-05-08T10:00:00Z") ≡ Some (pos 1_715_162_400_000_000_000)
unfolding stamp_of date_at time_at two_digits one_of fraction_at distance_at offset_at jiff_on_literals
whole_seconds = refl

leap_second : stamp_of (codes "2016-12-31T23:59:60Z") ≡ None
unfolding stamp_of date_at time_at two_digits one_of fraction_at distance_at offset_at jiff_on_literals
leap_second = refl
