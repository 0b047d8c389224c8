-- Full texts of some moments. A clock that shows the moment is given, since the search for it is too long to compute.
use Rattle.std.proofs.Common.{◌≡◌, ℤ, pos, neg_ℤ, rules, refl, sym, codes}
use Rattle.jiff.proofs.OnLiterals.{jiff_on_literals}
use Rattle.spool_spec.specs.text_spec.Stamp.{Clock, IsClock, clock_moment, clock_text}
use Rattle.spool_spec.specs.fleet_rows.Printed.{full_text}
use Rattle.history_laws.proofs.PrintedTexts.{printed_is_full_text}

shown : (c : Clock) (m : ℤ) → IsClock c → m ≡ clock_moment c → full_text m ≡ clock_text 9 c
shown c m h e = sym (printed_is_full_text (clock_text 9 c) m (record { clock = c; is_clock = h; moment_is = e; text_is = refl }))

epoch : full_text (pos 0) ≡ codes "1970-01-01T00:00:00.000000000Z"
unfolding jiff_on_literals
epoch = shown (record { year = 1970; month = 1; day = 1; hour = 0; minute = 0; second = 0; nanos = 0 }) (pos 0) (search rules) refl

nanosecond_before_it : full_text (neg_ℤ (pos 1)) ≡ codes "1969-12-31T23:59:59.999999999Z"
unfolding jiff_on_literals
nanosecond_before_it = shown (record { year = 1969; month = 12; day = 31; hour = 23; minute = 59; second = 59; nanos = 999_999_999 }) (neg_ℤ (pos 1)) (search rules) refl

leap_day : full_text (pos 1_709_210_096_123_456_789) ≡ codes "2024-02-29T12:34:56.123456789Z"
unfolding jiff_on_literals
leap_day = shown (record { year = 2024; month = 2; day = 29; hour = 12; minute = 34; second = 56; nanos = 123_456_789 }) (pos 1_709_210_096_123_456_789) (search rules) refl

-- the first moment of the year 0
first : full_text (neg_ℤ (pos 62_167_219_200_000_000_000)) ≡ codes "0000-01-01T00:00:00.000000000Z"
unfolding jiff_on_literals
first = shown (record { year = 0; month = 1; day = 1; hour = 0; minute = 0; second = 0; nanos = 0 }) (neg_ℤ (pos 62_167_219_200_000_000_000)) (search rules) refl

-- and the last of the year 9999
last : full_text (pos 253_402_300_799_999_999_999) ≡ codes "9999-12-31T23:59:59.999999999Z"
unfolding jiff_on_literals
last = shown (record { year = 9999; month = 12; day = 31; hour = 23; minute = 59; second = 59; nanos = 999_999_999 }) (pos 253_402_300_799_999_999_999) (search rules) refl
