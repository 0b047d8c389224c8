-- A stamp of three digits stands in a string as it is.
use Rattle.std.proofs.Common.{◌≡◌, ◌∙◌, ℕ, ℤ, ◌+ℤ◌, ◌≤ℤ◌, int_lt, ◌+◌, ◌%◌, List, [], ◌∷◌, ◌++◌, refl, sym, ap, subst, flat_map, arith, inl, inr, false, not, ◌&&◌, codes, if◌then◌else◌}
use Rattle.std.proofs.lemmas.Int.{ints}
use Rattle.means_spec.specs.stamp_time.Range.{first_stamp, last_stamp, days, IsPrintable}
use Rattle.means_spec.specs.text_spec.Compact.{escaped, compact, quoted}
use Rattle.means_spec.specs.text_spec.Stamp.{Clock, clock_text, IsPrintedStamp}
use Rattle.means_spec.specs.text_spec.Json.{string}
use Rattle.means_spec.proofs.of_text_laws.StampLaws.{moments_print_one_text}
use Rattle.means_spec.specs.fleet_rows.Cell.{CellValue, stamp}
use Rattle.means_spec.specs.fleet_rows.Printed.{clock_at}
use Rattle.row_cells.specs.history_laws.PrintedLaws.{IsInFourDigitYear}
use Rattle.row_cells.proofs.of_history_laws.PrintedClocks.{clock_at_shows, clock_moment_range}
use Rattle.means_spec.specs.table_spec.RowsText.{cell_json}
use Rattle.paging_text.specs.Shown.{IsPrintableCell, short_text, moment_text, cell_text}
use Rattle.means_spec.specs.stamp_time.Limits.{most_days}

-- the byte stands for itself
abbrev Stays : ℕ → Type 0
Stays x = escaped x ≡ x ∷ []

abbrev AllStay : List ℕ → Type 0
AllStay [] = Unit {0}
AllStay (x ∷ xs) = Stays x × AllStay xs

all_stay : (xs : List ℕ) → AllStay xs → flat_map escaped xs ≡ xs
all_stay [] h = refl
all_stay (x ∷ xs) h = λ i. h.0 i ++ all_stay xs h.1 i

digit : (n : ℕ) → Stays (48 + n % 10)
unfolding escaped
digit n = grind arith

mark : Stays 45 × Stays 58 × Stays 46 × Stays 84 × Stays 90
unfolding escaped
mark = (refl, refl, refl, refl, refl)

clock_stays : (c : Clock) → AllStay (clock_text 3 c)
clock_stays c = (
  digit _,
  (
    digit _,
    (
      digit _,
      (
        digit _,
        (
          mark.0,
          (
            digit _,
            (
              digit _,
              (
                mark.0,
                (
                  digit _,
                  (
                    digit _,
                    (
                      mark.3,
                      (digit _, (digit _, (mark.1, (digit _, (digit _, (mark.1, (digit _, (digit _, (mark.2, (digit _, (digit _, (digit _, (mark.4, tt))))))))))))),
                    ),
                  ),
                ),
              ),
            ),
          ),
        ),
      ),
    ),
  ),
)

-- what is printed for a moment, between quotation marks
pub stamp_stays : (m : ℤ) → flat_map escaped (short_text m) ≡ short_text m
unfolding short_text
stamp_stays m = all_stay (clock_text 3 (clock_at m)) (clock_stays (clock_at m))

pub printed_is_short_text : (text : List ℕ) (m : ℤ) → IsPrintedStamp 3 text m → text ≡ short_text m
unfolding short_text
printed_is_short_text text m h =
    let year : IsInFourDigitYear m = subst (λ (z : ℤ). IsInFourDigitYear z) (sym h.moment_is) (clock_moment_range h.clock h.is_clock) in
    let shows = clock_at_shows m year in
    moments_print_one_text 3 text (clock_text 3 (clock_at m)) m h
    (record { clock = clock_at m; is_clock = shows.is_clock; moment_is = shows.moment_is; text_is = refl })

stamp_shows : (m : ℤ) → string (short_text m) ≡ cell_json (stamp m)
unfolding short_text
stamp_shows m = refl

at_least : (a b : ℤ) → b ≤ℤ a → int_lt a b ≡ false
at_least a b h = grind (arith, ints)

moment_text_is : (m : ℤ) → IsPrintable m → moment_text m ≡ quoted (short_text m)
moment_text_is m h = λ i. if not (at_least m first_stamp h.0 i) && not (at_least (last_stamp +ℤ days most_days) m h.1 i) then quoted (short_text m) else codes "null"

pub cell_text_is : (x : CellValue) → IsPrintableCell x → cell_text x ≡ compact (cell_json x)
cell_text_is (inl m) h = moment_text_is m h ∙ ap compact (stamp_shows m)
cell_text_is (inr j) h = refl
