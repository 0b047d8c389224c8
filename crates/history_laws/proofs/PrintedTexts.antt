-- The full text of a moment is what is printed for it with nine digits.
use Rattle.std.proofs.Common.{◌≡◌, ◌∙◌, ℕ, ℤ, List, arith, refl, sym, subst}
use Rattle.jiff_core.proofs.SignedLemmas.{signed_arith}
use Rattle.spool_spec.specs.text_spec.Stamp.{IsPrintedStamp}
use Rattle.wire_laws.proofs.of_text_laws.StampLaws.{moments_print_one_text, printed_texts_tell_the_cut_moment, nine_digits}
use Rattle.spool_spec.specs.stamp_time.Range.{IsPrintable}
use Rattle.spool_spec.specs.fleet_rows.Printed.{clock_at, full_text}
use Rattle.history_laws.specs.PrintedLaws.{IsInFourDigitYear, FullTextsArePrinted, FullTextsTellTheMoment}
use Rattle.history_laws.proofs.PrintedClocks.{clock_at_shows, clock_moment_range}

-- the full text is printed
pub full_text_is_printed : (m : ℤ) → IsInFourDigitYear m → IsPrintedStamp 9 (full_text m) m
unfolding full_text
full_text_is_printed m h =
    let shows = clock_at_shows m h in
    record { clock = clock_at m; is_clock = shows.is_clock; moment_is = shows.moment_is; text_is = refl }

-- so it is for a moment that a stamp names, and for one up to 3,650 days past one
pub printable_is_printed : (m : ℤ) → IsPrintable m → IsPrintedStamp 9 (full_text m) m
printable_is_printed m h = full_text_is_printed m (omega (arith, signed_arith))

pub printed_in_four_digit_year : (text : List ℕ) (m : ℤ) → IsPrintedStamp 9 text m → IsInFourDigitYear m
printed_in_four_digit_year text m h = subst (λ (z : ℤ). IsInFourDigitYear z) (sym h.moment_is) (clock_moment_range h.clock h.is_clock)

-- and no other text is
pub printed_is_full_text : (text : List ℕ) (m : ℤ) → IsPrintedStamp 9 text m → text ≡ full_text m
printed_is_full_text text m h =
    moments_print_one_text 9 text (full_text m) m h (full_text_is_printed m (printed_in_four_digit_year text m h))

pub full_texts_are_printed : FullTextsArePrinted
full_texts_are_printed text m = (
  λ h. (printed_in_four_digit_year text m h, printed_is_full_text text m h),
  λ h. subst (λ t. IsPrintedStamp 9 t m) (sym h.1) (full_text_is_printed m h.0),
)

pub full_texts_tell_the_moment : FullTextsTellTheMoment
full_texts_tell_the_moment m n h k e =
    let other = subst (λ t. IsPrintedStamp 9 t n) (sym e) (full_text_is_printed n k) in
    sym (nine_digits m)
    ∙ printed_texts_tell_the_cut_moment 9 (full_text m) m n (omega arith) (full_text_is_printed m h) other
    ∙ nine_digits n
