-- What is asked of tables is what the history says that they stand for.
use Rattle.std.proofs.Common.{◌≡◌, ◌∙◌, ℕ, ℤ, List, [], ◌∷◌, false, Option, Some, None, if◌then◌else◌, refl, ap}
use Rattle.std.specs.Option.{option_and_then, option_map_or}
use Rattle.checkpoint_spec.specs.fleet_rows.declared.command.Kind.{Kind}
use Rattle.checkpoint_spec.specs.fleet_rows.declared.command.Kind.TheVariants.{Facts, Catalog, Report, Deactivate, Expiration}
use Rattle.checkpoint_spec.specs.fleet_rows.declared.settings.Ttls.{Ttls}
use Rattle.checkpoint_spec.specs.history_spec.Life.{life, is_empty, is_inactive, greatest_expiry}
use Rattle.checkpoint_spec.specs.history_spec.Node.{inactive}
use Rattle.checkpoint_spec.specs.fleet_rows.declared.applied.Applied.{Applied}
use Rattle.checkpoint_spec.specs.history_spec.Trace.{Trace}
use Rattle.checkpoint_spec.specs.table_machine.Table.{Node, Table, node_of}
use Rattle.checkpoint_spec.specs.table_machine.Node.{node_inactive}
use Rattle.checkpoint_spec.specs.table_machine.Steps.{find_node}
use Rattle.checkpoint_spec.proofs.of_table_machine.TableLaws.{nodes_are_found, nodes_tell_whether_they_are_inactive}
use Rattle.fleet_tables.specs.Asked.{newest_in, is_inactive_in}
use Rattle.kept_nodes.specs.Seen.{newest_rank}
use Rattle.fleet_tables.specs.Stands.{Stands, newest_of}

-- ---- a node is there where its life has a command

newest_if : (xs : List Applied) (kind : Kind) (node : Node) → newest_rank kind node ≡ newest_of kind xs → option_and_then (newest_rank kind) (if is_empty xs then None else Some node) ≡ newest_of kind xs
newest_if [] Facts node e = refl
newest_if [] Catalog node e = refl
newest_if [] Report node e = refl
newest_if [] Deactivate node e = refl
newest_if [] Expiration node e = refl
newest_if (x ∷ xs) kind node e = e

inactive_if : (xs : List Applied) (ttls : Ttls) (expiry : Option ℤ) (node : Node) → node_inactive ttls expiry node ≡ inactive ttls expiry xs
    → option_map_or (node_inactive ttls expiry) (if is_empty xs then None else Some node) false ≡ inactive ttls expiry xs
inactive_if [] ttls expiry node e = refl
inactive_if (x ∷ xs) ttls expiry node e = e

-- ---- of a table that stands for a history

module _ (table : Table) (history : Trace) (certname : List ℕ) (s : Stands table history) where
  found : find_node certname table.nodes ≡ (if is_empty (life table.ttls certname history) then None else Some (node_of table.ttls history certname))
  found = ap (λ (t : Table). find_node certname t.nodes) s.1 ∙ nodes_are_found table.ttls history certname

  of_kind : (kind : Kind) → newest_rank kind (node_of table.ttls history certname) ≡ newest_of kind (life table.ttls certname history)
  of_kind Facts = refl
  of_kind Catalog = refl
  of_kind Report = refl
  of_kind Deactivate = refl
  of_kind Expiration = refl

  pub newest_known : (kind : Kind) → newest_in table certname kind ≡ newest_of kind (life table.ttls certname history)
  newest_known kind =
      ap (option_and_then (newest_rank kind)) found
      ∙ newest_if (life table.ttls certname history) kind (node_of table.ttls history certname) (of_kind kind)

  pub inactive_known : is_inactive_in table certname ≡ is_inactive table.ttls history certname
  inactive_known =
      (λ i. option_map_or (node_inactive table.ttls ((s.1 i).expiry)) (found i) false)
      ∙ inactive_if (life table.ttls certname history) table.ttls (greatest_expiry history) (node_of table.ttls history certname) (nodes_tell_whether_they_are_inactive table.ttls history certname)
