-- Traces as histories have them, and their nodes.
use Rattle.std.proofs.Common.{◌≡◌, ◌≢◌, ℕ, List, [], ◌∷◌, refl, subst, true, not, inl}
use Rattle.spool_spec.proofs.of_plain_laws.Booleans.{no_truth}
use Rattle.spool_spec.specs.text_spec.Json.{HasDistinctKeys}
use Rattle.spool_spec.proofs.of_text_spec.JsonLemmas.{members_list-of}
use Rattle.spool_spec.specs.fleet_rows.declared.change.Change.{Change}
use Rattle.spool_spec.specs.fleet_rows.declared.change.Change.TheVariants.{Facts, Catalog, Report, Deactivate, Expiration}
use Rattle.spool_spec.specs.fleet_rows.declared.settings.Ttls.{Ttls}
use Rattle.spool_spec.specs.fleet_rows.Texts.{sorted_texts}
use Rattle.spool_spec.specs.history_spec.Lawful.{IsChange}
use Rattle.spool_spec.specs.fleet_rows.declared.applied.Applied.{Applied}
use Rattle.spool_spec.specs.history_spec.Trace.{applied, swept, Trace}
use Rattle.spool_spec.specs.history_spec.Life.{life, nodes, is_empty, certnames}
use Rattle.history_laws.specs.RowLaws.{HasDistinctNames}
use Rattle.history_laws.specs.TraceLaws.{TracesHaveDistinctReceipts, TracesHaveDistinctNames, NodesAreStrictlySorted, NodesHaveALife}
use Rattle.history_laws.proofs.Members.{Among, Among-from_Contains, Contains-from_Among, Among-from_filter}
use Rattle.history_laws.proofs.Lives.{is_node}
use Rattle.history_laws.proofs.FactRows.{nodes_rise}

pub traces_have_distinct_receipts : TracesHaveDistinctReceipts
traces_have_distinct_receipts [] h = tt
traces_have_distinct_receipts (applied x ∷ earlier) h = (h.3, traces_have_distinct_receipts earlier h.4)
traces_have_distinct_receipts (swept kinds m ∷ earlier) h = traces_have_distinct_receipts earlier h.1

change_has_distinct_names : (change : Change) → IsChange change → HasDistinctNames change
change_has_distinct_names (Facts c) h = subst HasDistinctKeys (members_list-of c.values) h.values.value.1
change_has_distinct_names (Catalog c) h = tt
change_has_distinct_names (Report c) h = tt
change_has_distinct_names (Deactivate c) h = tt
change_has_distinct_names (Expiration c) h = tt

pub traces_have_distinct_names : TracesHaveDistinctNames
traces_have_distinct_names [] h = tt
traces_have_distinct_names (applied x ∷ earlier) h = (change_has_distinct_names x.change h.0, traces_have_distinct_names earlier h.4)
traces_have_distinct_names (swept kinds m ∷ earlier) h = traces_have_distinct_names earlier h.1

pub nodes_are_strictly_sorted : NodesAreStrictlySorted
nodes_are_strictly_sorted ttls history = nodes_rise ttls history

has_command : (xs : List Applied) → not (is_empty xs) ≡ true → xs ≢ []
has_command [] h = no_truth h
has_command (x ∷ xs) h = λ e. cc

with_command : (ttls : Ttls) (history : Trace) (node : List ℕ) (xs : List Applied) → life ttls node history ≡ xs → xs ≢ [] → Among node (nodes ttls history)
with_command ttls history node [] e some = absurd (some refl)
with_command ttls history node (x ∷ xs) e some = is_node ttls node history x (rw e (inl refl))

pub nodes_have_a_life : NodesHaveALife
nodes_have_a_life ttls history node = (
  λ c. has_command (life ttls node history) (Among-from_filter (λ n. not (is_empty (life ttls n history))) (sorted_texts (certnames history)) node (Among-from_Contains (nodes ttls history) node c)).1,
  λ some. Contains-from_Among (nodes ttls history) node (with_command ttls history node (life ttls node history) refl some),
)
