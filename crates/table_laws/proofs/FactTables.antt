-- The rows of facts are the cells of the history's facts.
use Rattle.std.proofs.Common.{◌≡◌, ◌∙◌, ℕ, List, [], ◌∷◌, ◌++◌, refl, sym, ap, map, not, Option, Some, None}
use Rattle.std.specs.List.{filter, flat_map}
use Rattle.std.proofs.lemmas.List.{map-append}
use Rattle.table_machine.specs.fleet_rows.declared.change.Change.{Change}
use Rattle.table_machine.specs.fleet_rows.declared.change.Change.TheVariants.{Facts, Catalog, Report, Deactivate, Expiration}
use Rattle.table_machine.specs.fleet_rows.declared.command.Kind.TheVariants as kind
use Rattle.table_machine.specs.fleet_rows.declared.applied.Applied.{Applied}
use Rattle.table_machine.specs.history_spec.Node.{newest}
use Rattle.table_machine.specs.history_spec.Facts.{rows_of_change, rows_of_newest, node_rows}
use Rattle.table_machine.specs.history_spec.Life.{life, nodes, is_inactive}
use Rattle.table_machine.specs.fleet_rows.declared.settings.Ttls.{Ttls}
use Rattle.table_machine.specs.history_spec.Trace.{Trace}
use Rattle.table_machine.specs.table_spec.Cells.{fact_cells}
use Rattle.table_machine.specs.table_spec.Rows.{change_of, shown, newest_change, fact_rows}
use Rattle.table_laws.specs.RowLaws.{FactsAreThoseOfTheHistory, ActiveFactsAreThoseOfTheHistory}

of_change : (change : Change) → fact_rows change ≡ map fact_cells (rows_of_change change)
of_change (Facts c) = refl
of_change (Catalog c) = refl
of_change (Report c) = refl
of_change (Deactivate c) = refl
of_change (Expiration c) = refl

of_newest : (o : Option Applied) → shown fact_rows (change_of o) ≡ map fact_cells (rows_of_newest o)
of_newest None = refl
of_newest (Some x) = of_change x.change

map-flat_map : {X Y Z : Type 0} (f : Y → Z) (g : X → List Y) (xs : List X) → flat_map (λ x. map f (g x)) xs ≡ map f (flat_map g xs)
map-flat_map f g [] = refl
map-flat_map f g (x ∷ xs) = ap (λ l. map f (g x) ++ l) (map-flat_map f g xs) ∙ sym (map-append f (g x) (flat_map g xs))

of_nodes : (ttls : Ttls) (history : Trace) (ns : List (List ℕ)) → flat_map (λ n. shown fact_rows (newest_change kind.Facts ttls history n)) ns ≡ map fact_cells (flat_map (node_rows ttls history) ns)
of_nodes ttls history ns =
    (λ i. flat_map (λ n. of_newest (newest kind.Facts (life ttls n history)) i) ns) ∙ map-flat_map fact_cells (node_rows ttls history) ns

pub facts_are_those_of_the_history : FactsAreThoseOfTheHistory
facts_are_those_of_the_history ttls history = of_nodes ttls history (nodes ttls history)

pub active_facts_are_those_of_the_history : ActiveFactsAreThoseOfTheHistory
active_facts_are_those_of_the_history ttls history = of_nodes ttls history (filter (λ n. not (is_inactive ttls history n)) (nodes ttls history))
