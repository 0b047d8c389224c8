use Rattle.std.proofs.Common.{◌∙◌}
use Rattle.json_read.specs.text_spec.Json.{array, items_of}
use Rattle.json_read.specs.json_tree.Tree.{json_of}
use Rattle.packed_values.specs.Packed.{list_in}
use Rattle.packed_values.proofs.PackedLaws.{spells_packed, is_json, is_shallow, is_array, same_list}
use Rattle.packed_values.proofs.PackedItems.unpack.Goals as goal

pub items_of-requires : goal.items_of-requires
items_of-requires c =
    let spells = spells_packed c.self.inside.text.items c.as_slice.result.now c.as_slice.ensures.value c.self.invariant in
    is_array (json_of c.in-Ok.json) (items_of (list_in c.self.inside.text.items)) (c.in-Ok.ensures.only (array (items_of (list_in c.self.inside.text.items))) spells)

pub unreachable-requires : goal.unreachable-requires
unreachable-requires c =
    let spells = spells_packed c.self.inside.text.items c.as_slice.result.now c.as_slice.ensures.value c.self.invariant in
    let v = array (items_of (list_in c.self.inside.text.items)) in
    is_json v c.in-Err-NotJson.field-0 c.in-Err-NotJson.field-0-0 (c.in-Err-NotJson.ensures.only v spells) c.in-Err-NotJson.field-0-is

pub unreachable-requires-in-Err-TooDeep : goal.unreachable-requires-in-Err-TooDeep
unreachable-requires-in-Err-TooDeep c =
    let spells = spells_packed c.self.inside.text.items c.as_slice.result.now c.as_slice.ensures.value c.self.invariant in
    let v = array (items_of (list_in c.self.inside.text.items)) in
    is_shallow v c.in-Err-TooDeep.field-0 c.in-Err-TooDeep.field-0-0 (c.in-Err-TooDeep.ensures.only v spells) c.in-Err-TooDeep.field-0-is

pub returns-in-Ok : goal.returns-in-Ok
returns-in-Ok c =
    let spells = spells_packed c.self.inside.text.items c.as_slice.result.now c.as_slice.ensures.value c.self.invariant in
    same_list c.items_of.result (list_in c.self.inside.text.items) (c.items_of.ensures ∙ c.in-Ok.ensures.only (array (items_of (list_in c.self.inside.text.items))) spells) ∙ c.self.view_is
