-- The text of a moment in a printed row.
use Rattle.std.proofs.Common.{ℤ, refl, sym, ap, subst}
use Rattle.table_machine.specs.text_spec.Json.{string}
use Rattle.table_machine.specs.text_spec.Stamp.{IsPrintedStamp, clock_text}
use Rattle.table_machine.proofs.of_text_laws.StampLaws.{moments_print_one_text}
use Rattle.table_machine.specs.fleet_rows.Printed.{clock_at}
use Rattle.table_machine.specs.history_laws.PrintedLaws.{IsInFourDigitYear}
use Rattle.table_machine.proofs.of_history_laws.PrintedClocks.{clock_at_shows, clock_moment_range}
use Rattle.table_laws.specs.PrintLaws.{MomentsArePrinted}

clock_is_printed : (m : ℤ) → IsInFourDigitYear m → IsPrintedStamp 3 (clock_text 3 (clock_at m)) m
clock_is_printed m h =
    let shows = clock_at_shows m h in
    record { clock = clock_at m; is_clock = shows.is_clock; moment_is = shows.moment_is; text_is = refl }

pub moments_are_printed : MomentsArePrinted
moments_are_printed m text h =
    let year : IsInFourDigitYear m = subst (λ (z : ℤ). IsInFourDigitYear z) (sym h.moment_is) (clock_moment_range h.clock h.is_clock) in
    ap string (moments_print_one_text 3 (clock_text 3 (clock_at m)) text m (clock_is_printed m year) h)
