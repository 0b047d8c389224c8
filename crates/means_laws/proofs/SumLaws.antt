-- The text of a sum is a number of its value.
use Rattle.std.proofs.Common.{arith}
use Rattle.paging_text.proofs.of_means_spec.SumTexts.{sum_is_spelt, sum_is_number}
use Rattle.means_laws.specs.Laws.{SumsPrintTheirValue, SumsPrintNumbers}

pub sums_print_their_value : SumsPrintTheirValue
sums_print_their_value m h =
    let s = sum_is_spelt m (omega arith) in
    record { number = s.number; is_number = s.is_number; spelt = s.spelt; equal = s.equal; small = h }

pub sums_print_numbers : SumsPrintNumbers
sums_print_numbers m h = sum_is_number m (omega arith)
