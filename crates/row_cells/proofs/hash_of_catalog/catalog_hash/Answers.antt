use Rattle.std.proofs.Common.{◌∙◌, ◌<◌, ap, sym, subst, length, map, ◌++◌}
use Rattle.std.specs.Prelude.{All, slice_get}
use Rattle.std.proofs.lemmas.Result.{IfOk-weaker}
use Rattle.hex.specs.Hex.{encode_lower}
use Rattle.sha1.specs.Sha1.{sha1}
use Rattle.table_spec.specs.text_spec.Compact.{canonical}
use Rattle.table_spec.specs.Cells.{catalog_object}
use Rattle.table_spec.specs.Sorted.{sorted_by, edge_cmp}
use Rattle.row_cells.proofs.SortedLaws.{places_within, known_items}
use Rattle.row_cells.proofs.hash_of_catalog.catalog_hash.Goals as goal

pub in_order-requires : goal.in_order-requires
in_order-requires c =
    let edges = c.args.change.now.edges in
    subst (λ es. All (λ k. k < length es) c.args.edge_places.now) (sym c.as_slice.ensures)
    (places_within edges (sorted_by edge_cmp edges) c.args.edge_places.now c.requires.edges)

pub put_catalog-requires-clause-edges : goal.put_catalog-requires-clause-edges
put_catalog-requires-clause-edges c =
    ap (map (λ e. e.now)) c.as_slice-2.ensures.value
    ∙ known_items (λ e. e.now) c.in_ok-edges.edges.items (sorted_by edge_cmp c.args.change.now.edges)
    (c.in_ok-edges.ensures ∙ ap (λ es. map (slice_get es) c.args.edge_places.now) c.as_slice.ensures ∙ c.requires.edges)

pub returns : goal.returns
returns c =
    IfOk-weaker c.sha1_hex.result _ _ (λ digest is.
    is ∙ ap (λ text. encode_lower (sha1 text))
    (c.as_slice-3.ensures.value ∙ c.in_ok-put_catalog.ensures
    ∙ ap (λ text. text ++ canonical (catalog_object c.args.change.now)) c.new-text.ensures.items)) c.sha1_hex.ensures
