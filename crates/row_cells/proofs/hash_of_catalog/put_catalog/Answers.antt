use Rattle.std.proofs.Common.{◌∙◌, ap, ◌++◌, ◌∷◌, [], map, true, false, codes}
use Rattle.table_spec.specs.Cells.{tags_value}
use Rattle.row_cells.specs.Catalogs.{edges_value, before_edges, behind_edges}
use Rattle.row_cells.specs.Texts.{member_text, members_text}
use Rattle.row_cells.proofs.CatalogTexts.{catalog_text}
use Rattle.row_cells.proofs.hash_of_catalog.put_catalog.Goals as goal

pub returns : goal.returns
returns c =
    let change = c.args.change.now in
    let edges = map (λ e. e.now) c.args.edges.now in
    let digests = c.args.digests.now in
    c.in_ok-push-2.ensures.items
    ∙ ap (λ t. t ++ 125 ∷ []) (c.in_ok-put_behind_edges.ensures
    ∙ ap (λ t. t ++ members_text true (behind_edges change (tags_value digests))) (c.in_ok-put_edges.ensures
    ∙ ap (λ t. t ++ member_text true (codes "edges") (edges_value edges)) (c.in_ok-put_before_edges.ensures
    ∙ ap (λ t. t ++ members_text false (before_edges change)) c.in_ok-push.ensures.items)))
    ∙ catalog_text c.args.out.now.items change digests edges c.requires.digests c.requires.edges
