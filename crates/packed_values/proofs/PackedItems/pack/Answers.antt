use Rattle.std.proofs.Common.{◌∙◌, sym, ap, subst}
use Rattle.json_read.specs.json_tree.Tree.{jsons}
use Rattle.packed_values.specs.Packed.{list_in, IsPacked}
use Rattle.packed_values.proofs.PackedLaws.{list_packed, is_packed, written}
use Rattle.packed_values.proofs.PackedItems.pack.Goals as goal

pub holding-requires : goal.holding-requires
holding-requires c =
    let text = written c.new-text.result.items c.append_items.new.out.items c.shrink_to_fit.new.self.items (jsons c.as_slice.result.now) c.args.items.now c.new-text.ensures.items c.in_ok-append_items.ensures c.shrink_to_fit.ensures.items c.as_slice.ensures.items in
    subst IsPacked (sym text) (is_packed c.args.items.now c.requires.value c.requires.levels)

pub returns : goal.returns
returns c =
    let text = written c.new-text.result.items c.append_items.new.out.items c.shrink_to_fit.new.self.items (jsons c.as_slice.result.now) c.args.items.now c.new-text.ensures.items c.in_ok-append_items.ensures c.shrink_to_fit.ensures.items c.as_slice.ensures.items in
    c.holding.ensures ∙ (ap list_in text ∙ list_packed c.args.items.now c.requires.value c.requires.levels)
