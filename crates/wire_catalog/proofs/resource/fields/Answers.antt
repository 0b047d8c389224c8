use Rattle.std.proofs.Common.{[], ◌∷◌, refl}
use Rattle.wire_fields.specs.fleet_rows.declared.refusal.Field.TheVariants as field
use Rattle.wire_fields.specs.wire_spec.Refusals.{field_key}
use Rattle.wire_fields.specs.wire_spec.Table.{outer, bool, items, members, text, whole_number}
use Rattle.wire_fields.proofs.FieldLaws.{optional_is, required_is, left_is}
use Rattle.wire_catalog.proofs.resource.fields.Goals as goal

-- each field is as it stands in the whole object, though those before it have left
pub returns : goal.returns
returns c =
    let ms = c.args.json in
    let first = field_key field.«Type» ∷ [] in
    let second = field_key field.Title ∷ first in
    let third = field_key field.Exported ∷ second in
    let fourth = field_key field.File ∷ third in
    let fifth = field_key field.Line ∷ fourth in
    let sixth = field_key field.Tags ∷ fifth in
    let after_first = left_is (outer c.args.index field.«Type») [] ms c.outer.ensures refl c.required_text-rtype.ensures.others in
    let after_second = left_is (outer c.args.index field.Title) first ms c.outer-2.ensures after_first c.required_text-title.ensures.others in
    let after_third = left_is (outer c.args.index field.Exported) second ms c.outer-3.ensures after_second c.optional_bool-exported.ensures.others in
    let after_fourth = left_is (outer c.args.index field.File) third ms c.outer-4.ensures after_third c.optional_text-file.ensures.others in
    let after_fifth = left_is (outer c.args.index field.Line) fourth ms c.outer-5.ensures after_fourth c.optional_whole_number-line.ensures.others in
    let after_sixth = left_is (outer c.args.index field.Tags) fifth ms c.outer-6.ensures after_fifth c.optional_items-tags.ensures.others in
    let rtype_is = required_is text (outer c.args.index field.«Type») [] ms c.outer.ensures refl c.required_text-rtype.ensures.value refl in
    let title_is = required_is text (outer c.args.index field.Title) first ms c.outer-2.ensures after_first c.required_text-title.ensures.value refl in
    let exported_is = optional_is bool (outer c.args.index field.Exported) second ms c.outer-3.ensures after_second c.optional_bool-exported.ensures.value refl in
    let file_is = optional_is text (outer c.args.index field.File) third ms c.outer-4.ensures after_third c.optional_text-file.ensures.value refl in
    let line_is = optional_is whole_number (outer c.args.index field.Line) fourth ms c.outer-5.ensures after_fourth c.optional_whole_number-line.ensures.value refl in
    let tags_is = optional_is items (outer c.args.index field.Tags) fifth ms c.outer-6.ensures after_fifth c.optional_items-tags.ensures.value refl in
    let parameters_is = optional_is members (outer c.args.index field.Parameters) sixth ms c.outer-7.ensures after_sixth c.optional_members-parameters.ensures.value refl in
    λ i. record { rtype = rtype_is i; title = title_is i; exported = exported_is i; file = file_is i; line = line_is i; tags = tags_is i; parameters = parameters_is i }
