-- Where no sum is told as too large, each fits.
use Rattle.std.proofs.Common.{◌≡◌, List, [], ◌∷◌, ◌++◌, Bool, true, false, ◌||◌, Option, Some, None, refl, if◌then◌else◌}
use Rattle.std.specs.List.{list_any}
use Rattle.fleet_tables.specs.fleet_rows.declared.row.Entity.{Entity}
use Rattle.query_plan.specs.means_spec.Groups.{Group}
use Rattle.query_plan.specs.means_spec.Shown.{distinct_behind}
use Rattle.query_plan.specs.means_spec.Sums.{sum_too_large, large_sum, large_sums}
use Rattle.query_plan.specs.query_spec.declared.parts.Function.TheVariants.{Count, Sum, Min, Max}
use Rattle.query_plan.specs.query_spec.declared.parts.Selected.{Selected}
use Rattle.query_plan.specs.query_spec.declared.parts.Selected.TheVariants as selected
use Rattle.query_plan.specs.query_spec.Check.{Place, at_fault, first, has_output}
use Rattle.query_plan.specs.query_spec.Parts.{output_name}
use Rattle.level_answers.specs.Fitting.{SumFits, SumsFit, AllSumsFit}

neither : (p q : Option Place) → first p q ≡ None → (p ≡ None) × (q ≡ None)
neither None q h = (refl, h)
neither (Some p) q h = cc

no_fault : (b : Bool) (p : Place) → at_fault b p ≡ None → b ≡ false
no_fault true p h = cc
no_fault false p h = refl

not-any : (b c : Bool) → b || c ≡ false → (b ≡ false) × (c ≡ false)
not-any true c h = cc
not-any false c h = (refl, h)

fault_none : (b : Bool) (p : Place) → b ≡ false → at_fault b p ≡ None
fault_none true p h = cc
fault_none false p h = refl

module _ (e : Option Entity) where
  sum-fits : (x : Group) (xs : List Group) (s : Selected) → large_sum e (x ∷ xs) s ≡ None → SumFits e x s × (large_sum e xs s ≡ None)
  sum-fits x xs (selected.Column n) h = (tt, refl)
  sum-fits x xs selected.Rows h = (tt, refl)
  sum-fits x xs (selected.Function Count n) h = (tt, refl)
  sum-fits x xs (selected.Function Min n) h = (tt, refl)
  sum-fits x xs (selected.Function Max n) h = (tt, refl)
  sum-fits x xs (selected.Function Sum n) h =
      let parts = not-any (sum_too_large e n x) (list_any (sum_too_large e n) xs) (no_fault (list_any (sum_too_large e n) (x ∷ xs)) n.place h) in
      (parts.0, fault_none (list_any (sum_too_large e n) xs) n.place parts.1)

  both : (p q : Option Place) → p ≡ None → q ≡ None → first p q ≡ None
  both p q h k = λ i. first (h i) (k i)

  sums-fit : (x : Group) (xs : List Group) (ss : List Selected) → large_sums e (x ∷ xs) ss ≡ None → SumsFit e x ss × (large_sums e xs ss ≡ None)
  sums-fit x xs [] h = (tt, refl)
  sums-fit x xs (s ∷ ss) h =
      let parts = neither (large_sum e (x ∷ xs) s) (large_sums e (x ∷ xs) ss) h in
      let one = sum-fits x xs s parts.0 in
      let rest = sums-fit x xs ss parts.1 in
      ((one.0, rest.0), both (large_sum e xs s) (large_sums e xs ss) one.1 rest.1)

  all-fit : (xs : List Group) (ss : List Selected) → large_sums e xs ss ≡ None → AllSumsFit e ss xs
  all-fit [] ss h = tt
  all-fit (x ∷ xs) ss h = let parts = sums-fit x xs ss h in (parts.0, all-fit xs ss parts.1)

  kept : (b : Bool) (xs : List Group) (s : Selected) (out more : List Selected) → large_sum e xs s ≡ None → large_sums e xs out ≡ None → large_sums e xs more ≡ None → large_sums e xs (if b then out else s ∷ more) ≡ None
  kept true xs s out more h k l = k
  kept false xs s out more h k l = both (large_sum e xs s) (large_sums e xs more) h l

  distinct-fit : (xs : List Group) (begun ss : List Selected) → large_sums e xs ss ≡ None → large_sums e xs (distinct_behind begun ss) ≡ None
  distinct-fit xs begun [] h = refl
  distinct-fit xs begun (s ∷ ss) h =
      let parts = neither (large_sum e xs s) (large_sums e xs ss) h in
      kept (has_output begun (output_name s)) xs s (distinct_behind begun ss) (distinct_behind (begun ++ s ∷ []) ss) parts.0 (distinct-fit xs begun ss parts.1) (distinct-fit xs (begun ++ s ∷ []) ss parts.1)

  pub outputs_fit : (xs : List Group) (ss : List Selected) → large_sums e xs ss ≡ None → AllSumsFit e (distinct_behind [] ss) xs
  outputs_fit xs ss h = all-fit xs (distinct_behind [] ss) (distinct-fit xs [] ss h)
