use Rattle.std.proofs.Common.{◌∙◌, sym, ap}
use Rattle.wire_catalog.specs.Marks.{rise}
use Rattle.wire_catalog.proofs.MarkLaws.{rise_apart}
use Rattle.wire_catalog.proofs.marks.differ.Goals as goal

pub returns : goal.returns
returns c = λ up.
    rise_apart c.args.marks.items c.sort_unstable.new.self.items c.sort_unstable.ensures.permutation (sym (c.rise.ensures ∙ ap rise c.as_slice.ensures.value) ∙ up)
