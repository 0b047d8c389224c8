use Rattle.std.proofs.Common.{◌∙◌, ◌-◌, length, take, drop, ap}
use Rattle.wire_catalog.specs.Marks.{mark_on}
use Rattle.wire_catalog.proofs.MarkLaws.{four_more}
use Rattle.wire_catalog.proofs.marks.mark_on.Goals as goal

pub fours-preserved : goal.fours-preserved
fours-preserved c =
    let left = c.fours.left.now in
    ap (λ m. mark_on m (take (length left - 4) (drop 4 left))) c.next_mark-mark.ensures
    ∙ four_more c.fours.mark c.four.result 0 left c.in-len4-up.len_at_least c.four.ensures
    ∙ c.fours.invariant
