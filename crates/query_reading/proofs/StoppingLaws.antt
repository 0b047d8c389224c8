-- A page without an order needs no rows behind its last one.
use Rattle.std.proofs.Common.{◌≡◌, ◌∙◌, ℕ, zero, suc, ◌+◌, ◌<◌, ◌≤◌, List, [], ◌∷◌, ◌++◌, length, take, drop, map, Bool, true, false, not, if◌then◌else◌, Option, Some, None, refl, sym, ap, arith, length-append}
use Rattle.std.specs.Prelude.{filter, nat_lt, slice_get}
use Rattle.std.proofs.Math.Seq.{take-append_seam}
use Rattle.std.proofs.lemmas.List.{take_all}
use Rattle.fleet_tables.specs.fleet_rows.declared.row.Entity.{Entity}
use Rattle.query_plan.specs.Plan.{Shape, answers}
use Rattle.query_plan.specs.means_spec.Cells.{names_in}
use Rattle.query_plan.specs.means_spec.Groups.{group_rows, groups}
use Rattle.query_plan.specs.means_spec.Means.{answered}
use Rattle.query_plan.specs.means_spec.Paging.{from_offset, orders_cmp, paged, to_limit}
use Rattle.query_plan.specs.means_spec.Shown.{output_names, shown_cells}
use Rattle.query_plan.specs.means_spec.Sums.{large_sums, level_sum}
use Rattle.query_plan.specs.query_spec.Check.{makes_groups, shown_list}
use Rattle.query_plan.specs.query_spec.declared.parts.Name.{Name}
use Rattle.query_plan.specs.query_spec.declared.parts.Paging.{Paging}
use Rattle.query_plan.specs.query_spec.declared.parts.Selected.{Selected}
use Rattle.query_plan.specs.table_spec.Rows.{Cells}
use Rattle.query_reading.specs.Fetched.{one_in, slice_one}
use Rattle.query_reading.specs.Ordered.{Rises}
use Rattle.query_reading.specs.Stopping.{IsAtMost, IsEnough, IsPageEnough, first_of, suffices}
use Rattle.query_reading.proofs.OrderLaws.{filtered_rises, front_rises, sorted_stays}

-- ---- pages

taken_twice : (n : ℕ) (rows : List Cells) → take n (take n rows) ≡ take n rows
taken_twice zero rows = refl
taken_twice (suc n) [] = refl
taken_twice (suc n) (r ∷ rs) = ap (λ l. r ∷ l) (taken_twice n rs)

taken_behind : (o l : ℕ) (rows : List Cells) → take l (drop o (take (o + l) rows)) ≡ take l (drop o rows)
taken_behind zero l rows = let none : 0 + l ≡ l = omega arith in ap (λ n. take l (take n rows)) none ∙ taken_twice l rows
taken_behind (suc o) l [] = let more : suc o + l ≡ suc (o + l) = omega arith in ap (λ n. take l (drop (suc o) (take n []))) more
taken_behind (suc o) l (r ∷ rs) = let more : suc o + l ≡ suc (o + l) = omega arith in ap (λ n. take l (drop (suc o) (take n (r ∷ rs)))) more ∙ taken_behind o l rs

pub no_offset : (l n : ℕ) → n ≡ l → (rows : List Cells) → take l (take n rows) ≡ take l rows
no_offset l n e rows = ap (λ m. take l (take m rows)) e ∙ taken_twice l rows

pub behind_offset : (o l n : ℕ) → n ≡ o + l → (rows : List Cells) → take l (drop o (take n rows)) ≡ take l (drop o rows)
behind_offset o l n e rows = ap (λ m. take l (drop o (take m rows))) e ∙ taken_behind o l rows

-- ---- rows that the page leaves in their order

module _ (names : List (List ℕ)) (p : Paging) where
  abbrev cut : List Cells → List Cells
  cut rows = to_limit p.limit (from_offset p.offset rows)

  page_is : (rows : List Cells) → Rises (orders_cmp names p.order) rows → paged names p rows ≡ cut rows
  page_is rows h = ap cut (sorted_stays (orders_cmp names p.order) rows h)

  first_rise : (enough : Option ℕ) (rows : List Cells) → Rises (orders_cmp names p.order) rows → Rises (orders_cmp names p.order) (first_of enough rows)
  first_rise None rows h = h
  first_rise (Some n) rows h = front_rises (orders_cmp names p.order) n rows h

  pub page_enough : (enough : Option ℕ) → ((rows : List Cells) → cut (first_of enough rows) ≡ cut rows) → (test : Cells → Bool) (rows : List Cells) → Rises (orders_cmp names p.order) rows
      → IsPageEnough names p enough (filter test rows)
  page_enough enough page test rows h =
      let rise = filtered_rises (orders_cmp names p.order) test rows h in
      page_is (first_of enough (filter test rows)) (first_rise enough (filter test rows) rise) ∙ page (filter test rows) ∙ sym (page_is (filter test rows) rise)

-- ---- answers

module _ (e : Option Entity) (ss : Option (List Selected)) (g : List Name) (p : Paging) (single : makes_groups (shown_list ss) g ≡ false) where
  answer_is : (rows : List Cells) → answered e ss g p rows ≡ map (shown_cells e ss) (paged (names_in e) p rows)
  answer_is rows = ap (λ b. if b then paged (output_names e ss) p (group_rows e (shown_list ss) g rows) else map (shown_cells e ss) (paged (names_in e) p rows)) single

  no_sum : (rows : List Cells) → level_sum e (shown_list ss) g rows ≡ None
  no_sum rows = ap (λ b. if b then large_sums e (groups e g rows) (shown_list ss) else None) single

  pub enough_of_page : (enough : Option ℕ) (rows : List Cells) → IsPageEnough (names_in e) p enough rows → IsEnough e (answers ss g p) enough rows
  enough_of_page enough rows h = record {
    rows_are = answer_is (first_of enough rows) ∙ ap (map (shown_cells e ss)) h ∙ sym (answer_is rows);
    sum_is = no_sum (first_of enough rows) ∙ sym (no_sum rows);
  }

pub all_are_enough : (e : Option Entity) (s : Shape) (rows : List Cells) → IsEnough e s None rows
all_are_enough e s rows = record { rows_are = refl; sum_is = refl }

-- ---- while rows are chosen

pub none_first : (enough : Option ℕ) → first_of enough [] ≡ []
none_first None = refl
none_first (Some zero) = refl
none_first (Some (suc n)) = refl

pub few_first : (enough : Option ℕ) (rows : List Cells) → IsAtMost enough (length rows) → first_of enough rows ≡ rows
few_first None rows h = refl
few_first (Some n) rows h = take_all n rows h

pub few_at_start : (enough : Option ℕ) (rows : List Cells) → rows ≡ [] → IsAtMost enough (length rows)
few_at_start None rows e = tt
few_at_start (Some n) rows e = omega (arith, ap length e)

not_less : (k n : ℕ) → not (nat_lt k n) ≡ true → n ≤ k
not_less k n h = grind (arith, h)

less : (k n : ℕ) → not (nat_lt k n) ≡ false → k < n
less k n h = grind (arith, h)

-- what was chosen where it suffices
pub stopped : (enough : Option ℕ) (chosen rest all : List Cells) → IsAtMost enough (length chosen) → suffices enough (length chosen) ≡ true → chosen ++ rest ≡ all → chosen ≡ first_of enough all
stopped None chosen rest all few enough so_far = cc
stopped (Some n) chosen rest all few enough so_far =
    let many : n ≤ length chosen = not_less (length chosen) n enough in
    let same : length chosen ≡ n = omega (arith, many, few) in
    sym (take-append_seam chosen rest) ∙ ap (λ k. take k (chosen ++ rest)) same ∙ ap (take n) so_far

-- at most one row more
if_one : (b : Bool) (row : Cells) → length (if b then row ∷ [] else []) ≤ 1
if_one true row = omega arith
if_one false row = omega arith

one_at_most : (q : Cells → Bool) (o : Option Cells) → length (filter q (one_in o)) ≤ 1
one_at_most q None = omega arith
one_at_most q (Some row) = if_one (q row) row

pub few_still : (enough : Option ℕ) (q : Cells → Bool) (rows : List Cells) (place : ℕ) (chosen new : List Cells) → suffices enough (length chosen) ≡ false → new ≡ chosen ++ filter q (slice_one rows place)
    → IsAtMost enough (length new)
few_still None q rows place chosen new enough e = tt
few_still (Some n) q rows place chosen new enough e =
    omega (
      arith,
      less (length chosen) n enough,
      ap length e,
      length-append chosen (filter q (slice_one rows place)),
      one_at_most q (slice_get rows place),
    )
