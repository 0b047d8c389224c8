-- What a plan found is what its query means.
use Rattle.std.proofs.Common.{◌≡◌, ◌∙◌, ℕ, List, [], ◌∷◌, ◌++◌, sym, subst, arith, None, Result, Ok, Err}
use Rattle.std.specs.Prelude.{IfOk, IfErr}
use Rattle.pattern_port.specs.fleet_ports.Counts.{Counts}
use Rattle.query_plan.specs.query_spec.Query.{Level}
use Rattle.query_plan.specs.table_spec.Rows.{Cells}
use Rattle.query_plan.specs.means_spec.World.{World}
use Rattle.query_plan.specs.means_spec.Means.{selected}
use Rattle.query_plan.specs.means_spec.OutRows.{names_of}
use Rattle.query_plan.specs.means_spec.Sums.{too_large}
use Rattle.query_plan.specs.Plan.{Stage, level_patterns, level_stages, pattern_texts, solved, solved_sum}
use Rattle.query_plan.proofs.Solved.{plans_select_rows, plans_tell_sums}
use Rattle.query_engine.specs.Answers.{MatchPicked}
use Rattle.query_engine.specs.declared.engine.Picked.{Picked}
use Rattle.query_engine.specs.declared.engine.QueryFault.{QueryFault}
use Rattle.query_engine.specs.declared.engine.QueryFault.TheVariants.{Memory}

last_same : {A : Type 0} (xs ys : List A) (x y : A) → xs ++ x ∷ [] ≡ ys ++ y ∷ [] → x ≡ y
last_same [] [] x y h = cc
last_same [] (b ∷ []) x y h = cc
last_same [] (b ∷ c ∷ ys) x y h = cc
last_same (a ∷ []) [] x y h = cc
last_same (a ∷ c ∷ xs) [] x y h = cc
last_same (a ∷ xs) (b ∷ ys) x y h = last_same xs ys x y (let rest : xs ++ x ∷ [] ≡ ys ++ y ∷ [] = cc in rest)

module _ (w : World) (q : Level) (ps : List (List ℕ)) (stages : List Stage) (texts : ps ≡ pattern_texts (level_patterns q)) (made : stages ≡ level_stages 0 0 q) where
  pub sums_are : solved_sum w ps [] stages ≡ too_large w q
  sums_are = (λ i. solved_sum w (texts i) [] (made i)) ∙ plans_tell_sums w q

  pub rows_are : (found earlier : List (List Cells)) (rows : List Cells) → found ≡ solved w ps [] stages → found ≡ earlier ++ rows ∷ [] → rows ≡ selected w q
  rows_are found earlier rows h e =
      let plan = plans_select_rows w q in
      last_same earlier plan.0 rows (selected w q) (sym e ∙ h ∙ (λ i. solved w (texts i) [] (made i)) ∙ plan.1)

  -- the last of what was found, with the names
  pub picked_is : (found : List (List Cells)) (names : List (List ℕ)) (r : Result Picked QueryFault) → names ≡ names_of q → solved_sum w ps [] stages ≡ None → found ≡ solved w ps [] stages
      → IfOk r (λ p. (earlier : List (List Cells)) × (found ≡ earlier ++ p.rows.rows ∷ [])) → IfOk r (λ p. p.rows.names ≡ names) → IfErr r (λ fault. fault ≡ Memory) → MatchPicked w q r
  picked_is found names (Ok picked) n s h a b c =
      (sym sums_are ∙ s, λ i. record { names = (b ∙ n) i; rows = rows_are found a.0 picked.rows.rows h a.1 i })
  picked_is found names (Err fault) n s h a b c = subst (λ f. MatchPicked w q (Err f)) (sym c) tt

-- no pattern was refused
pub counts_still : (before now : ℕ) (Fault : Type 0) → now ≡ before → ¬ Fault → Counts before now Fault
counts_still before now Fault e never = record { later = omega (arith, e); cause = λ h. absurd (never h); calm = λ h. e }
