-- What a sweep makes of the table of a history is the table of the history with the sweep.
use Rattle.std.proofs.Common.{◌≡◌, ◌∙◌, ℕ, ℤ, List, [], ◌∷◌, refl, sym, ap, Bool, true, false, not, ◌&&◌, Option, if◌then◌else◌, map}
use Rattle.std.specs.List.{filter}
use Rattle.table_spec.specs.fleet_rows.declared.settings.Kinds.{Kinds}
use Rattle.table_spec.specs.fleet_rows.declared.settings.Ttls.{Ttls}
use Rattle.table_spec.specs.fleet_rows.Texts.{sorted_texts}
use Rattle.table_spec.specs.fleet_rows.declared.applied.Applied.{Applied}
use Rattle.table_spec.specs.history_spec.Trace.{swept, Trace}
use Rattle.table_spec.specs.history_spec.Node.{later, is_purged}
use Rattle.table_spec.specs.history_spec.Life.{life, is_empty, nodes, certnames, greatest_expiry, greatest_retention}
use Rattle.table_spec.proofs.of_plain_laws.Members.{Among, Among-from_filter}
use Rattle.table_machine.specs.Table.{Node, Table, node_with, node_of, table_of}
use Rattle.table_machine.specs.Node.{node_purged}
use Rattle.table_machine.specs.Steps.{expire, purge, retain, with_retained, step_if, sweep}
use Rattle.table_machine.specs.Laws.{SweepsAreFollowed, ExpiriesAreFollowed, PurgesAreFollowed, RetentionsAreFollowed}
use Rattle.history_laws.proofs.Filters.{filter-filter, filter-same, filter-all, filter-map, map-among, map-map}
use Rattle.table_machine.proofs.NodeLaws.{says_purged}
use Rattle.table_machine.proofs.Retention.{node_after}

-- ---- a step that is asked for, or none, as one table

expire_if : (b : Bool) (m : ℤ) (table : Table) → step_if b (expire m) table ≡ record table { expiry = if b then later m table.expiry else table.expiry }
expire_if true m table = refl
expire_if false m table = refl

purge_if : (b : Bool) (m : ℤ) (table : Table) → step_if b (purge m) table ≡ record table { nodes = filter (λ node. not (b && node_purged table.ttls m table.expiry node)) table.nodes }
purge_if true m table = refl
purge_if false m table = λ i. record table { nodes = sym (filter-all table.nodes) i }

abbrev retained_if : Bool → Ttls → Option ℤ → Node → Node
retained_if b ttls retention node = if b then with_retained ttls retention node else node

map-itself : (ns : List Node) → ns ≡ map (λ n. n) ns
map-itself [] = refl
map-itself (n ∷ ns) = ap (λ l. n ∷ l) (map-itself ns)

retain_if : (b : Bool) (m : ℤ) (table : Table) → step_if b (retain m) table ≡ record table { retention = if b then later m table.retention else table.retention; nodes = map (retained_if b table.ttls (later m table.retention)) table.nodes }
retain_if true m table = refl
retain_if false m table = λ i. record table { nodes = map-itself table.nodes i }

-- ---- the nodes

module _ (ttls : Ttls) (kinds : Kinds) (m : ℤ) (history : Trace) where
  abbrev taken : List ℕ → Bool
  taken name = kinds.purge && is_purged ttls m (greatest_expiry (swept kinds m ∷ history)) (life ttls name history)

  left_alive : (b : Bool) (xs : List Applied) → (not (is_empty xs) && not b) ≡ not (is_empty (if b then [] else xs))
  left_alive true [] = refl
  left_alive true (x ∷ xs) = refl
  left_alive false [] = refl
  left_alive false (x ∷ xs) = refl

  nodes_left : filter (λ name. not (taken name)) (nodes ttls history) ≡ nodes ttls (swept kinds m ∷ history)
  nodes_left =
      filter-filter (λ name. not (taken name)) (λ name. not (is_empty (life ttls name history))) (sorted_texts (certnames history))
      ∙ filter-same _ _ (λ name. left_alive (taken name) (life ttls name history)) (sorted_texts (certnames history))

  purged_as_taken : (name : List ℕ) → (kinds.purge && node_purged ttls m (greatest_expiry (swept kinds m ∷ history)) (node_of ttls history name)) ≡ taken name
  purged_as_taken name =
      ap (λ b. kinds.purge && b) (says_purged ttls (greatest_retention history) name (life ttls name history) m (greatest_expiry (swept kinds m ∷ history)))

  nodes_purged : filter (λ node. not (kinds.purge && node_purged ttls m (greatest_expiry (swept kinds m ∷ history)) node)) (map (node_of ttls history) (nodes ttls history)) ≡ map (node_of ttls history) (nodes ttls (swept kinds m ∷ history))
  nodes_purged =
      filter-map (node_of ttls history) (λ node. not (kinds.purge && node_purged ttls m (greatest_expiry (swept kinds m ∷ history)) node)) (nodes ttls history)
      ∙ ap (map (node_of ttls history)) (filter-same _ _ (λ name. ap not (purged_as_taken name)) (nodes ttls history) ∙ nodes_left)

  -- a node that is left keeps its life
  same_life : (b : Bool) (xs : List Applied) → not (is_empty (if b then [] else xs)) ≡ true → xs ≡ (if b then [] else xs)
  same_life true xs h = absurd (let apart : false ≡ true = h in cc)
  same_life false xs h = refl

  retained : (b : Bool) (retention : Option ℤ) (name : List ℕ) (xs : List Applied) → retained_if b ttls (later m retention) (node_with ttls retention name xs) ≡ node_with ttls (if b then later m retention else retention) name xs
  retained true retention name xs = node_after ttls m retention name xs
  retained false retention name xs = refl

  node_left : (name : List ℕ) → Among name (nodes ttls (swept kinds m ∷ history)) → retained_if kinds.reports ttls (later m (greatest_retention history)) (node_of ttls history name) ≡ node_of ttls (swept kinds m ∷ history) name
  node_left name a =
      let alive = Among-from_filter (λ n. not (is_empty (life ttls n (swept kinds m ∷ history)))) (sorted_texts (certnames history)) name a in
      retained kinds.reports (greatest_retention history) name (life ttls name history)
      ∙ ap (node_with ttls (greatest_retention (swept kinds m ∷ history)) name) (same_life (taken name) (life ttls name history) alive.1)

  nodes_after : map (retained_if kinds.reports ttls (later m (greatest_retention history))) (map (node_of ttls history) (nodes ttls (swept kinds m ∷ history))) ≡ map (node_of ttls (swept kinds m ∷ history)) (nodes ttls (swept kinds m ∷ history))
  nodes_after =
      map-map (node_of ttls history) (retained_if kinds.reports ttls (later m (greatest_retention history))) (nodes ttls (swept kinds m ∷ history))
      ∙ map-among _ (node_of ttls (swept kinds m ∷ history)) (nodes ttls (swept kinds m ∷ history)) node_left

  -- ---- the table

  abbrev expired_table : Table
  expired_table = record (table_of ttls history) { expiry = greatest_expiry (swept kinds m ∷ history) }

  abbrev purged_table : Table
  purged_table = record (table_of ttls history) { expiry = greatest_expiry (swept kinds m ∷ history); nodes = map (node_of ttls history) (nodes ttls (swept kinds m ∷ history)) }

  to_purged : step_if kinds.purge (purge m) expired_table ≡ purged_table
  to_purged = purge_if kinds.purge m expired_table ∙ (λ i. record purged_table { nodes = nodes_purged i })

  to_retained : step_if kinds.reports (retain m) purged_table ≡ table_of ttls (swept kinds m ∷ history)
  to_retained = retain_if kinds.reports m purged_table ∙ (λ i. record (table_of ttls (swept kinds m ∷ history)) { nodes = nodes_after i })

  followed : sweep kinds m (table_of ttls history) ≡ table_of ttls (swept kinds m ∷ history)
  followed =
      ap (λ t. step_if kinds.reports (retain m) (step_if kinds.purge (purge m) t)) (expire_if kinds.expire m (table_of ttls history))
      ∙ ap (step_if kinds.reports (retain m)) to_purged
      ∙ to_retained

pub sweeps_are_followed : SweepsAreFollowed
sweeps_are_followed ttls kinds m history = followed ttls kinds m history

pub expiries_are_followed : ExpiriesAreFollowed
expiries_are_followed ttls m history = followed ttls (record { expire = true; purge = false; reports = false }) m history

pub purges_are_followed : PurgesAreFollowed
purges_are_followed ttls m history = followed ttls (record { expire = false; purge = true; reports = false }) m history

pub retentions_are_followed : RetentionsAreFollowed
retentions_are_followed ttls m history = followed ttls (record { expire = false; purge = false; reports = true }) m history
