-- A plan that is done stage by stage finds what its query selects.
use Rattle.std.proofs.Common.{◌≡◌, ◌∙◌, ℕ, zero, suc, ◌+◌, List, [], ◌∷◌, ◌++◌, length, refl, sym, ap, subst, arith, Some, append_assoc}
use Rattle.std.specs.Prelude.{slice_get}
use Rattle.std.proofs.lemmas.List.{append-nil, length-append}
use Rattle.ast_tree.specs.query_spec.declared.parts.Pattern.{Pattern}
use Rattle.ast_tree.specs.query_spec.Check.{first}
use Rattle.means_spec.specs.table_spec.Rows.{Cells}
use Rattle.means_spec.specs.World.{World}
use Rattle.means_spec.specs.Means.{selected}
use Rattle.query_plan.specs.Laws.{PlansSelectRows, PlansTellSums}
use Rattle.query_plan.specs.Plan.{Stage, level_patterns, level_levels, level_stages, stage_rows, stage_sum, solved, solved_sum, pattern_texts}
use Rattle.query_plan.proofs.Counts.{level-length}
use Rattle.query_plan.proofs.Ordered.{AreOrdered, level-ordered, stage-more, sum-more}
use Rattle.query_plan.proofs.StepLaws.{Texts, Solved, level-selected, sums, level-sum}

get-at : {A : Type 0} (xs : List A) (x : A) (ys : List A) → slice_get (xs ++ x ∷ ys) (length xs) ≡ Some x
get-at [] x ys = refl
get-at (y ∷ xs) x ys = get-at xs x ys

-- the patterns of a list of texts
texts-are : (w : World) (found : List (List Cells)) (front : List (List ℕ)) (ts : List Pattern) → Texts w (front ++ pattern_texts ts) found (length front) ts
texts-are w found front [] = tt
texts-are w found front (t ∷ ts) =
    let a : front ++ (t.text ∷ pattern_texts ts) ≡ (front ++ t.text ∷ []) ++ pattern_texts ts = sym (append_assoc front (t.text ∷ []) (pattern_texts ts)) in (
      get-at front t.text (pattern_texts ts),
      subst (λ ps. Texts w ps found (suc (length front)) ts) (sym a)
          (subst (λ n. Texts w ((front ++ t.text ∷ []) ++ pattern_texts ts) found n ts) (omega (arith, length-append front (t.text ∷ []))) (texts-are w found (front ++ t.text ∷ []) ts)),
    )

record Finds (w : World) (ps : List (List ℕ)) (found : List (List Cells)) (xs : List Stage) : Type 0 where
  more : List (List Cells)
  whole : solved w ps found xs ≡ found ++ more
  count : length more ≡ length xs
  each : Solved w ps (solved w ps found xs) (length found) xs
  sum : solved_sum w ps found xs ≡ sums w ps (solved w ps found xs) xs

finds : (w : World) (ps : List (List ℕ)) (found : List (List Cells)) (xs : List Stage) → AreOrdered (length found) xs → Finds w ps found xs
finds w ps found [] o = record { more = []; whole = sym (append-nil found); count = refl; each = tt; sum = refl }
finds w ps found (s ∷ ss) o =
    let r = stage_rows w ps found s in
    let next : length (found ++ r ∷ []) ≡ suc (length found) = omega (arith, length-append found (r ∷ [])) in
    let t = finds w ps (found ++ r ∷ []) ss (subst (λ n. AreOrdered n ss) (sym next) o.1) in
    let all = solved w ps (found ++ r ∷ []) ss in
    let whole : all ≡ found ++ (r ∷ t.more) = t.whole ∙ append_assoc found (r ∷ []) t.more in
    let rows : stage_rows w ps all s ≡ r = ap (λ f. stage_rows w ps f s) whole ∙ stage-more w ps found (r ∷ t.more) s o.0 in
    let own : stage_sum w ps found s ≡ stage_sum w ps all s = sym (ap (λ f. stage_sum w ps f s) whole ∙ sum-more w ps found (r ∷ t.more) s o.0) in
    record {
      more = r ∷ t.more;
      whole = whole;
      count = omega (arith, t.count);
      each = (ap (λ f. slice_get f (length found)) whole ∙ get-at found r t.more ∙ ap (λ x. Some x) (sym rows), subst (λ n. Solved w ps all n ss) next t.each);
      sum = λ i. first (own i) (t.sum i);
    }

-- the last of a list
last-split : {A : Type 0} (xs : List A) (n : ℕ) (x : A) → length xs ≡ suc n → slice_get xs n ≡ Some x → (earlier : List A) × (xs ≡ earlier ++ x ∷ [])
last-split [] n x h g = absurd (omega arith)
last-split (y ∷ []) zero x h g = let same : y ≡ x = cc in ([], ap (λ z. z ∷ []) same)
last-split (y ∷ z ∷ xs) zero x h g = absurd (omega arith)
last-split (y ∷ []) (suc n) x h g = absurd (omega arith)
last-split (y ∷ z ∷ xs) (suc n) x h g =
    let rest = last-split (z ∷ xs) n x (omega arith) g in
    (y ∷ rest.0, ap (λ l. y ∷ l) rest.1)

pub plans_select_rows : PlansSelectRows
plans_select_rows w q =
    let ps = pattern_texts (level_patterns q) in
    let t = finds w ps [] (level_stages 0 0 q) (level-ordered q 0 0) in
    let all = solved w ps [] (level_stages 0 0 q) in
    let size : length all ≡ suc (0 + level_levels q) = ap length t.whole ∙ t.count ∙ level-length q 0 0 ∙ (let e : level_levels q + 1 ≡ suc (0 + level_levels q) = omega arith in e) in
    last-split all (0 + level_levels q) (selected w q) size (level-selected w ps all q 0 0 (texts-are w all [] (level_patterns q)) t.each)

pub plans_tell_sums : PlansTellSums
plans_tell_sums w q =
    let ps = pattern_texts (level_patterns q) in
    let t = finds w ps [] (level_stages 0 0 q) (level-ordered q 0 0) in
    let all = solved w ps [] (level_stages 0 0 q) in
    t.sum ∙ level-sum w ps all q 0 0 (texts-are w all [] (level_patterns q)) t.each
