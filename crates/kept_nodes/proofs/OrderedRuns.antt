-- What an index in the order of facts or of resources tells of those that stand before the sought.
use Rattle.std.proofs.Common.{◌≡◌, ◌∙◌, ℕ, ◌+◌, ◌<◌, ◌≤◌, List, length, get_or, slice_get, Bool, true, false, Option, Some, refl, sym, ap, subst}
use Rattle.std.specs.Option.{option_map}
use Rattle.std.specs.declared.cmp.Ordering.{Ordering}
use Rattle.std.proofs.lemmas.Option.{slice_get_read}
use Rattle.checkpoint_spec.proofs.of_history_laws.SortedTexts.{text_cmp_total}
use Rattle.checkpoint_spec.specs.fleet_rows.declared.catalog.Resource.{Resource}
use Rattle.checkpoint_spec.specs.fleet_rows.declared.change.FactsChange.{FactsChange}
use Rattle.checkpoint_spec.specs.history_spec.Facts.{by_name}
use Rattle.checkpoint_spec.specs.table_spec.Sorted.{sorted_by, resource_cmp}
use Rattle.checkpoint_spec.specs.text_spec.Compact.{text_cmp}
use Rattle.checkpoint_spec.specs.text_spec.Json.{Json, members_list}
use Rattle.row_cells.proofs.CmpLaws.{name_total, resource_total}
use Rattle.row_cells.proofs.SortedLaws.{sorted-by_name}
use Rattle.row_cells.specs.Placed.{name_cmp}
use Rattle.kept_nodes.specs.Kept.{IsFactOrder, IsResourceOrder}
use Rattle.kept_nodes.specs.Runs.{number, is_before, name_rank, resource_rank}
use Rattle.kept_nodes.proofs.RunLaws.{Ranked, low_enough, high_enough, most_before, number_sorted, ranked_sorted, ranks_rise}
use Rattle.kept_nodes.proofs.SoughtRows.{resource_rises}

module _ (c : FactsChange) (order : List ℕ) (name : List ℕ) (past : Bool) (h : IsFactOrder order c) where
  abbrev rank : List ℕ × Json → Ordering
  rank = name_rank name

  abbrev members : List (List ℕ × Json)
  members = members_list (by_name c.values)

  ranked : Ranked rank members
  ranked = subst (Ranked rank) (sorted-by_name c.values) (ranked_sorted rank name_cmp name_total (λ m n g. ranks_rise text_cmp text_cmp_total name m.0 n.0 g) c.values)

  same : number (λ fact. is_before past (rank fact)) members ≡ number (λ fact. is_before past (rank fact)) c.values
  same = ap (number (λ fact. is_before past (rank fact))) (sym (sorted-by_name c.values)) ∙ number_sorted (λ fact. is_before past (rank fact)) name_cmp c.values

  pub facts_most : number (λ fact. is_before past (name_rank name fact)) c.values ≤ length order
  facts_most = most_before rank past c.values order members h ranked same

  module _ (j place : ℕ) (r : Ordering) (there : slice_get order j ≡ Some place) (found : option_map (name_rank name) (slice_get c.values place) ≡ Some r) where
    pub fact_low : is_before past r ≡ true → j + 1 ≤ number (λ fact. is_before past (name_rank name fact)) c.values
    fact_low t = low_enough rank past c.values order members h ranked same j place r there found t

    pub fact_high : is_before past r ≡ false → number (λ fact. is_before past (name_rank name fact)) c.values ≤ j
    fact_high t = high_enough rank past c.values order members h ranked same j place r there found t

module _ (resources : List Resource) (order : List ℕ) (rtype : List ℕ) (title : Option (List ℕ)) (past : Bool) (h : IsResourceOrder order resources) where
  abbrev kind_rank : Resource → Ordering
  kind_rank = resource_rank rtype title

  abbrev sorted : List Resource
  sorted = sorted_by resource_cmp resources

  kinds_ranked : Ranked kind_rank sorted
  kinds_ranked = ranked_sorted kind_rank resource_cmp resource_total (resource_rises rtype title) resources

  kinds_same : number (λ resource. is_before past (kind_rank resource)) sorted ≡ number (λ resource. is_before past (kind_rank resource)) resources
  kinds_same = number_sorted (λ resource. is_before past (kind_rank resource)) resource_cmp resources

  pub resources_most : number (λ resource. is_before past (resource_rank rtype title resource)) resources ≤ length order
  resources_most = most_before kind_rank past resources order sorted h kinds_ranked kinds_same

  module _ (j place : ℕ) (resource : Resource) (r : Ordering) (there : slice_get order j ≡ Some place) (inside : place < length resources) (at : resource ≡ get_or resources place resource)
      (found : r ≡ resource_rank rtype title resource) where
    shows : option_map kind_rank (slice_get resources place) ≡ Some r
    shows = ap (option_map kind_rank) (slice_get_read resources (length resources) place resource refl inside at) ∙ ap (λ x. Some x) (sym found)

    pub resource_low : is_before past r ≡ true → j + 1 ≤ number (λ resource. is_before past (resource_rank rtype title resource)) resources
    resource_low t = low_enough kind_rank past resources order sorted h kinds_ranked kinds_same j place r there shows t

    pub resource_high : is_before past r ≡ false → number (λ resource. is_before past (resource_rank rtype title resource)) resources ≤ j
    resource_high t = high_enough kind_rank past resources order sorted h kinds_ranked kinds_same j place r there shows t
