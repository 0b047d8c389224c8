use Rattle.std.proofs.Common.{◌≡◌, ◌∙◌, List, [], length, sym, ap, Ok}
use Rattle.wire_fields.specs.fleet_rows.declared.catalog.Edge.{Edge}
use Rattle.wire_fields.specs.wire_spec.Table.{Checked, ◌>>=◌, distinct_edges}
use Rattle.wire_catalog.specs.Distinct.{news, kept}
use Rattle.wire_catalog.proofs.DistinctLaws.{kept-distinct, length-news}
use Rattle.wire_catalog.proofs.edges.edges.Goals as goal

pub kept-requires : goal.kept-requires
kept-requires c = ap length (c.in_ok-new.ensures ∙ ap (news []) c.as_slice.ensures.value) ∙ length-news [] c.in_ok-all.all.items

pub returns : goal.returns
returns c =
    let all = c.in_ok-all.all.items in
    let marks : c.in_ok-new.new.items ≡ news [] all = c.in_ok-new.ensures ∙ ap (news []) c.as_slice.ensures.value in
    ap (λ (m : Checked (List Edge)). m >>= (λ es. Ok (distinct_edges es))) c.in_ok-all.ensures
    ∙ ap Ok (sym (kept-distinct all) ∙ ap (kept all) (sym marks) ∙ sym c.in_ok-kept.ensures)
