use Rattle.std.proofs.Common.{◌∙◌, ◌+◌, ◌-◌, ◌^◌, min}
use Rattle.entry_tree.proofs.Numbers.{sums_both}
use Rattle.entry_tree.proofs.tree.sums_of.Goals as goal

pub returns : goal.returns
returns c =
    let f = c.args.fork.now in
    let own = c.own_sums.result in
    let l = c.sums.ensures.sums in
    let r = c.sums-2.ensures.sums in
    let is = c.added.ensures in
    sums_both c.added.result f.left f.waiting f.right own.candidates own.queued own.size
    (is.count ∙ (λ i. (l i).count + 1 + (r i).count))
    (is.candidates ∙ (λ i. (l i).candidates + own.candidates + (r i).candidates)) c.own_sums.ensures.candidates
    (is.queued ∙ (λ i. (l i).queued + own.queued + (r i).queued)) c.own_sums.ensures.queued
    (is.size ∙ (λ i. min (min ((l i).size + own.size) (2 ^ 64 - 1) + (r i).size) (2 ^ 64 - 1))) c.own_sums.ensures.size
