-- What a command makes of what is kept of its node.
use Rattle.std.proofs.Common.{◌≡◌, ℕ, ℤ, refl, sym, ap, subst, Bool, true, false, not, Option, Some, None, if◌then◌else◌}
use Rattle.std.specs.Option.{option_map}
use Rattle.std.specs.Ordering.{is_lt}
use Rattle.checkpoint_spec.specs.fleet_rows.Rank.{rank_cmp}
use Rattle.checkpoint_spec.specs.fleet_rows.Change.{change_stamp}
use Rattle.checkpoint_spec.specs.fleet_rows.declared.catalog.CatalogChange.{CatalogChange}
use Rattle.checkpoint_spec.specs.fleet_rows.declared.change.Change.TheVariants as changes
use Rattle.checkpoint_spec.specs.fleet_rows.declared.command.Kind.TheVariants as kind
use Rattle.checkpoint_spec.specs.fleet_rows.declared.settings.Ttls.{Ttls}
use Rattle.checkpoint_spec.specs.fleet_rows.declared.applied.Applied.{Applied}
use Rattle.checkpoint_spec.specs.history_spec.Trace.{applied_as, rank_of}
use Rattle.checkpoint_spec.specs.history_spec.Node.{greater, later}
use Rattle.checkpoint_spec.specs.history_spec.Report.{is_retained}
use Rattle.checkpoint_spec.specs.table_machine.Steps.{with_applied}
use Rattle.kept_nodes.specs.declared.kept.NodeCatalog.{NodeCatalog}
use Rattle.kept_nodes.specs.declared.node.Node.{Node}
use Rattle.kept_nodes.specs.declared.shown.CatalogShown.{CatalogShown}
use Rattle.kept_nodes.specs.Seen.{node_seen, catalog_seen, newest_rank, rank_seen, is_outranked_by_none, is_retained_at}

first_if : (b : Bool) (x y : Applied) → not b ≡ false → Some (if b then y else x) ≡ Some y
first_if true x y h = refl
first_if false x y h = cc

-- a command that one outranks isn't the newest
pub newest-left : (x : Applied) (o : Option Applied) → is_outranked_by_none (rank_of x) (rank_seen o) ≡ false → greater x o ≡ o
newest-left x None h = cc
newest-left x (Some y) h = first_if (is_lt (rank_cmp (rank_of x) (rank_of y))) x y h

pub retained_is : (ttls : Ttls) (retention : Option ℤ) (x : Applied) → is_retained_at ttls retention (change_stamp x.change) ≡ is_retained ttls retention x
retained_is ttls None x = refl
retained_is ttls (Some sweep) x = refl

taken_if : (b : Bool) (x y : Applied) → not b ≡ true → Some (if b then y else x) ≡ Some x
taken_if true x y h = cc
taken_if false x y h = refl

-- a command that none outranks is the newest
newest-taken : (x : Applied) (o : Option Applied) → is_outranked_by_none (rank_of x) (rank_seen o) ≡ true → greater x o ≡ Some x
newest-taken x None h = refl
newest-taken x (Some y) h = taken_if (is_lt (rank_cmp (rank_of x) (rank_of y))) x y h

-- a catalog that is the newest takes its place
pub catalog_taken : (receipt : ℕ) (received : Option ℤ) (change : CatalogChange) (shown : CatalogShown) (old new : Node) (ttls : Ttls) (retention : Option ℤ) →
    new ≡ record old { active = later change.stamp old.active } →
    is_outranked_by_none (record { stamp = change.stamp; receipt = receipt }) (newest_rank kind.Catalog (node_seen new)) ≡ true →
    node_seen (record new { catalog = Some (record { receipt = receipt; received = received; change = change; shown = shown }) })
    ≡ with_applied ttls retention (applied_as receipt received (changes.Catalog change)) (node_seen old)
catalog_taken receipt received change shown old new ttls retention e h =
    let x : Applied = applied_as receipt received (changes.Catalog change) in
    let kept : NodeCatalog = record { receipt = receipt; received = received; change = change; shown = shown } in
    let woken : Node = record old { active = later change.stamp old.active } in
    subst (λ (n : Node). is_outranked_by_none (rank_of x) (newest_rank kind.Catalog (node_seen n)) ≡ true → node_seen (record n { catalog = Some kept }) ≡ with_applied ttls retention x (node_seen old))
    (sym e)
    (λ k. ap (λ (o : Option Applied). record (node_seen woken) { catalog = o }) (sym (newest-taken x (option_map catalog_seen old.catalog) k)))
    h

-- a catalog that isn't the newest only wakes its node
pub catalog_left : (receipt : ℕ) (received : Option ℤ) (change : CatalogChange) (old new : Node) (ttls : Ttls) (retention : Option ℤ) →
    new ≡ record old { active = later change.stamp old.active } →
    is_outranked_by_none (record { stamp = change.stamp; receipt = receipt }) (newest_rank kind.Catalog (node_seen new)) ≡ false →
    node_seen new ≡ with_applied ttls retention (applied_as receipt received (changes.Catalog change)) (node_seen old)
catalog_left receipt received change old new ttls retention e h =
    let x : Applied = applied_as receipt received (changes.Catalog change) in
    let woken : Node = record old { active = later change.stamp old.active } in
    subst (λ n. is_outranked_by_none (rank_of x) (newest_rank kind.Catalog (node_seen n)) ≡ false → node_seen n ≡ with_applied ttls retention x (node_seen old))
    (sym e)
    (λ k. ap (λ (o : Option Applied). record (node_seen woken) { catalog = o }) (sym (newest-left x (option_map catalog_seen old.catalog) k)))
    h
