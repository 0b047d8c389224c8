-- Reports are ordered totally.
use Rattle.std.proofs.Common.{◌≡◌, ℤ, refl, sym}
use Rattle.std.specs.Cmp.{IsTotalOrder}
use Rattle.std.specs.declared.cmp.Ordering.{Ordering}
use Rattle.std.specs.declared.cmp.Ordering.TheVariants.{Less, Equal, Greater}
use Rattle.std.specs.Ordering.{int_cmp, ordering_then}
use Rattle.std.proofs.lemmas.Cmp.{int_cmp_total, on_total, then_total, int_ranked}
use Rattle.table_spec.specs.text_spec.Compact.{text_cmp}
use Rattle.table_spec.specs.fleet_rows.Change.{change_stamp}
use Rattle.table_spec.specs.fleet_rows.declared.applied.Applied.{Applied}
use Rattle.history_laws.proofs.SortedTexts.{text_cmp_total, text_tied}
use Rattle.table_spec.specs.Sorted.{text_of_report, report_cmp}

pub report_cmp_total : IsTotalOrder report_cmp
report_cmp_total =
    then_total (on_total (λ (x : Applied). change_stamp x.change) int_cmp_total) (on_total (λ (x : Applied). text_of_report x.change) text_cmp_total)

first_tied : (o p : Ordering) → ordering_then o p ≡ Equal → o ≡ Equal
first_tied Less p h = cc
first_tied Equal p h = refl
first_tied Greater p h = cc

second_tied : (o p : Ordering) → ordering_then o p ≡ Equal → p ≡ Equal
second_tied Less p h = cc
second_tied Equal p h = h
second_tied Greater p h = cc

pub equal_moments : (a b : ℤ) → int_cmp a b ≡ Equal → a ≡ b
equal_moments a b h = int_ranked a b Equal (sym h)

-- reports of one key have one timestamp
pub tied_stamps : (x y : Applied) → report_cmp x y ≡ Equal → change_stamp x.change ≡ change_stamp y.change
tied_stamps x y h =
    equal_moments (change_stamp x.change) (change_stamp y.change) (first_tied (int_cmp (change_stamp x.change) (change_stamp y.change)) (text_cmp (text_of_report x.change) (text_of_report y.change)) h)

-- and one text
pub tied_texts : (x y : Applied) → report_cmp x y ≡ Equal → text_of_report x.change ≡ text_of_report y.change
tied_texts x y h =
    text_tied (text_of_report x.change) (text_of_report y.change) (second_tied (int_cmp (change_stamp x.change) (change_stamp y.change)) (text_cmp (text_of_report x.change) (text_of_report y.change)) h)
