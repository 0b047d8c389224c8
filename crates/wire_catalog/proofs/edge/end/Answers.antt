use Rattle.std.proofs.Common.{◌≡◌, ◌∙◌, [], ◌∷◌, Bool, true, refl, sym, ap}
use Rattle.std.specs.Prelude.{not, ◌&&◌}
use Rattle.wire_fields.specs.wire_spec.Refusals.{field_key}
use Rattle.wire_fields.specs.wire_spec.Table.{outer, text}
use Rattle.wire_fields.proofs.FieldLaws.{required_is, left_is}
use Rattle.wire_fields.proofs.MemberLaws.{is_apart}
use Rattle.wire_catalog.specs.InOrder.{end_in_order, end_named}
use Rattle.wire_catalog.proofs.edge.end.Goals as goal

pub returns : goal.returns
returns c =
    let at = c.args.index in
    let ms = c.in_ok-named.named in
    let first = field_key c.args.type_field ∷ [] in
    let after_first = left_is (outer at c.args.type_field) [] ms c.outer.ensures refl c.required_text-rtype.ensures.others in
    let rtype = required_is text (outer at c.args.type_field) [] ms c.outer.ensures refl c.required_text-rtype.ensures.value refl in
    let apart : is_apart (field_key c.args.title_field) first ≡ true = ap (λ (b : Bool). not b && true) c.requires in
    let title = required_is text (outer at c.args.title_field) first ms c.outer-2.ensures after_first c.required_text-title.ensures.value apart in
    c.end_in_order.ensures ∙ (λ i. end_in_order (rtype i) (title i)) ∙ sym (ap (end_named at c.args.type_field c.args.title_field) c.in_ok-named.was)
