-- What common queries may read.
use Rattle.std.proofs.Common.{◌≡◌, ◌∙◌, ◌≤◌, ◌+◌, ◌*◌, ℕ, suc, List, [], ◌∷◌, length, refl, sym, ap, subst, Bool, true, false, ◌&&◌, Option, Some, codes, arith}
use Rattle.std.specs.Prelude.{filter}
use Rattle.ast_tree.proofs.of_plain_laws.Booleans.{both_true}
use Rattle.query_plan.specs.table_spec.fleet_rows.declared.row.Entity.{Entity}
use Rattle.query_plan.specs.table_spec.fleet_rows.declared.row.Entity.TheVariants.{Nodes, Facts, Resources}
use Rattle.query_plan.specs.query_spec.Check.{entity_named}
use Rattle.query_plan.specs.query_spec.declared.parts.Name.{Name}
use Rattle.query_plan.specs.query_spec.declared.parts.Paging.{Paging}
use Rattle.query_plan.specs.query_spec.declared.parts.Selected.{Selected}
use Rattle.query_plan.specs.table_spec.Rows.{Cells}
use Rattle.query_reach.specs.Reach.{shows}
use Rattle.query_reach.specs.Laws.{how_many, equals, both, bound_of, with_resource, FactsAreFew, NodesWithAResource, CommonQueriesReadFew}
use Rattle.query_reach.proofs.LeastLaws.{fewer}

and-true : (a : Bool) → (a && true) ≡ a
and-true true = refl
and-true false = refl

same_filter : (p q : Cells → Bool) → ((row : Cells) → p row ≡ q row) → (xs : List Cells) → length (filter p xs) ≡ length (filter q xs)
same_filter p q h xs = λ i. length (filter (λ row. h row i) xs)

all_pass : (xs : List Cells) → length (filter (λ row. true) xs) ≡ length xs
all_pass [] = refl
all_pass (x ∷ xs) = ap suc (all_pass xs)

alone : (n : ℕ) → 0 + n * (1 + 0) ≡ n
alone n = omega arith

behind : (inner n : ℕ) → (0 + inner * (1 + 0)) + n * (1 + 0) ≡ inner + n
behind inner n = omega arith

module _ (rows : Entity → List Cells) (s : Option (List Selected)) (g : List Name) (p : Paging) where
  abbrev has : Entity → List ℕ → List ℕ → Cells → Bool
  has e column text = shows (Some e) column (text ∷ [])

  node_reads : (x : List ℕ) → bound_of rows s g p (codes "facts") (equals (codes "certname") x) ≡ how_many rows (Some Facts) (has Facts (codes "certname") x)
  unfolding entity_named
  node_reads x =
      alone _ ∙ same_filter (λ row. has Facts (codes "certname") x row && true) (has Facts (codes "certname") x) (λ row. and-true (has Facts (codes "certname") x row)) (rows Facts)

  fact_reads : (x k : List ℕ) → bound_of rows s g p (codes "facts") (both (equals (codes "certname") x) (equals (codes "name") k))
      ≡ how_many rows (Some Facts) (λ row. has Facts (codes "certname") x row && has Facts (codes "name") k row)
  unfolding entity_named
  fact_reads x k = alone _

  pair_reads : (x y : List ℕ) (q : Paging) → bound_of rows s g p (codes "nodes") (with_resource rows s g p x y q)
      ≡ how_many rows (Some Resources) (λ row. has Resources (codes "type") x row && has Resources (codes "title") y row) + length (rows Nodes)
  unfolding entity_named
  pair_reads x y q =
      behind _ _ ∙ ap (λ n. how_many rows (Some Resources) (λ row. has Resources (codes "type") x row && has Resources (codes "title") y row) + n) (all_pass (rows Nodes))

  facts_are_few : FactsAreFew rows s g p
  facts_are_few = record {
    node = node_reads;
    fact = fact_reads;
    steps = λ x k one other. (
      subst (λ n. n ≤ 100) (sym (node_reads x)) one,
      subst (λ n. n ≤ 50) (sym (fact_reads x k))
          (let few = fewer (λ row. has Facts (codes "certname") x row && has Facts (codes "name") k row) (has Facts (codes "name") k)
          (λ row h. (both_true (has Facts (codes "certname") x row) (has Facts (codes "name") k row) h).1) (rows Facts) in
          omega (arith, few, other)),
    );
  }

  nodes_with_a_resource : NodesWithAResource rows s g p
  nodes_with_a_resource = record {
    sum = pair_reads;
    steps = λ x y q nodes pair. subst (λ n. n ≤ 100) (sym (pair_reads x y q)) (omega (arith, nodes, pair));
  }

pub common_queries_read_few : CommonQueriesReadFew
common_queries_read_few rows s g p = (facts_are_few rows s g p, nodes_with_a_resource rows s g p)
