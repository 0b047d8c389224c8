use Rattle.std.proofs.Common.{◌∙◌, [], ◌∷◌, refl, ap}
use Rattle.wire_fields.specs.json_tree.Tree.{json_of}
use Rattle.wire_fields.specs.fleet_rows.declared.refusal.Field.TheVariants as field
use Rattle.wire_fields.specs.wire_spec.Refusals.{field_key}
use Rattle.wire_fields.specs.wire_spec.Table.{Pairs, Checked, ◌>>=◌, outer, members, text, edge_end, required}
use Rattle.wire_fields.proofs.FieldLaws.{required_is, left_is}
use Rattle.wire_catalog.specs.InOrder.{edge_in_order, end_named}
use Rattle.wire_catalog.proofs.edge.edge.Goals as goal

-- each field is as it stands in the whole object, though those before it have left
pub returns : goal.returns
returns c =
    let at = c.args.index in
    let ms = c.in_ok-json.json in
    let first = field_key field.Source ∷ [] in
    let second = field_key field.Target ∷ first in
    let after_first = left_is (outer at field.Source) [] ms c.outer-2.ensures refl c.required_members-source.ensures.others in
    let after_second = left_is (outer at field.Target) first ms c.outer-3.ensures after_first c.required_members-target.ensures.others in
    let source = required_is members (outer at field.Source) [] ms c.outer-2.ensures refl c.required_members-source.ensures.value refl in
    let target = required_is members (outer at field.Target) first ms c.outer-3.ensures after_first c.required_members-target.ensures.value refl in
    let name = required_is text (outer at field.Relationship) second ms c.outer-4.ensures after_second c.required_text-name.ensures.value refl in
    c.in_order.ensures
    ∙ (λ i. edge_in_order at ((c.end.ensures ∙ ap (end_named at field.SourceType field.SourceTitle) source) i) ((c.end-2.ensures ∙ ap (end_named at field.TargetType field.TargetTitle) target) i) (name i))
    ∙ ap (λ (m : Checked Pairs). m >>= (λ ms. edge_in_order at (edge_end at field.Source field.SourceType field.SourceTitle ms) (edge_end at field.Target field.TargetType field.TargetTitle ms) (required text (outer at field.Relationship) ms))) (c.in_ok-json.ensures ∙ ap (λ p. members p (json_of c.args.json)) c.outer.ensures)
