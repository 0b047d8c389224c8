use Rattle.std.proofs.Common.{◌∙◌, ℕ, ◌+◌, ◌<◌, List, length, take, drop, refl, sym, ap, subst, Ok, Err, OnErr, Result}
use Rattle.std.proofs.Math.ListN.{set}
use Rattle.std.proofs.lemmas.List.{set-get_or}
use Rattle.std.proofs.lemmas.Option.{slice_get_read}
use Rattle.kept_nodes.specs.Seen.{with_activity}
use Rattle.fleet_tables.specs.Groups.{joined, IsFilled, AreFilledOrOne, AreBelow, AreAbove, AreCountsOf, AreFew}
use Rattle.fleet_tables.proofs.GroupRows.{is_part, counted_anew, within_anew}
use Rattle.fleet_tables.proofs.JoinedNodes.{Groups, put_in, put_filled, filled_set, filled_or_one}
use Rattle.fleet_tables.proofs.MarkLaws.{few_marked_in}
use Rattle.fleet_tables.proofs.RowBounds.{few_counted}
use Rattle.fleet_tables.proofs.marks.mark_among.Goals as goal

pub group_of-at-requires-clause-filled : goal.group_of-at-requires-clause-filled
group_of-at-requires-clause-filled c = subst AreFilledOrOne (sym c.as_slice.ensures.value) (filled_or_one c.args.groups.now.items c.requires.filled)

pub without-others-requires : goal.without-others-requires
without-others-requires c =
    let groups = c.args.groups.now.items in
    let at = c.group_of-at.result in
    let g = c.index_mut-group.result.now in
    let within : at < length groups = subst (λ (l : Groups). at < length l) c.as_slice.ensures.value c.group_of-at.ensures.place in
    let there = slice_get_read groups (length groups) at g refl within c.index_mut-group.ensures.value in
    record { part = is_part groups at g there c.args.total.now c.counts.result c.requires.total c.counts.ensures }

pub mark-requires-clause-few : goal.mark-requires-clause-few
mark-requires-clause-few c =
    let groups = c.args.groups.now.items in
    let at = c.group_of-at.result in
    let g = c.index_mut-group.result.now in
    let within : at < length groups = subst (λ (l : Groups). at < length l) c.as_slice.ensures.value c.group_of-at.ensures.place in
    let there = slice_get_read groups (length groups) at g refl within c.index_mut-group.ensures.value in
    let below = subst (λ (p : List ℕ × Groups). AreBelow p.0 (joined (take at p.1))) (λ i. (c.as_str.ensures i, c.as_slice.ensures.value i)) c.group_of-at.ensures.below in
    let above = subst (λ (p : List ℕ × Groups). AreAbove p.0 (joined (drop (at + 1) p.1))) (λ i. (c.as_str.ensures i, c.as_slice.ensures.value i)) c.group_of-at.ensures.above in
    few_marked_in c.args.certname.now c.args.active groups at g there below above c.requires.few

pub returns-clause-nodes : goal.returns-clause-nodes
returns-clause-nodes c =
    let groups = c.args.groups.now.items in
    let at = c.group_of-at.result in
    let g = c.index_mut-group.result.now in
    let within : at < length groups = subst (λ (l : Groups). at < length l) c.as_slice.ensures.value c.group_of-at.ensures.place in
    let there = slice_get_read groups (length groups) at g refl within c.index_mut-group.ensures.value in
    let below = subst (λ (p : List ℕ × Groups). AreBelow p.0 (joined (take at p.1))) (λ i. (c.as_str.ensures i, c.as_slice.ensures.value i)) c.group_of-at.ensures.below in
    let above = subst (λ (p : List ℕ × Groups). AreAbove p.0 (joined (drop (at + 1) p.1))) (λ i. (c.as_str.ensures i, c.as_slice.ensures.value i)) c.group_of-at.ensures.above in
    ap (λ new. joined (set groups at new)) c.in_ok-mark.ensures.marked
    ∙ put_in c.args.certname.now groups at g there below above (with_activity c.args.active) within

-- at want of memory the group is put back as it was
pub returns-in_err-mark-clause-same : goal.returns-in_err-mark-clause-same
returns-in_err-mark-clause-same c =
    let groups = c.args.groups.now.items in
    let at = c.group_of-at.result in
    let g = c.index_mut-group.result.now in
    on_err c.from_residual.result (ap (set groups at) (c.in_err-mark.ensures.same ∙ c.index_mut-group.ensures.value) ∙ set-get_or groups at g)
  where
    on_err : {T E P : Type 0} (r : Result T E) → P → OnErr r P
    on_err (Ok x) p = tt
    on_err (Err e) p = p

pub plus-requires : goal.plus-requires
plus-requires c =
    let groups = c.args.groups.now.items in
    let at = c.group_of-at.result in
    let g = c.index_mut-group.result.now in
    let within : at < length groups = subst (λ (l : Groups). at < length l) c.as_slice.ensures.value c.group_of-at.ensures.place in
    let there = slice_get_read groups (length groups) at g refl within c.index_mut-group.ensures.value in
    let below = subst (λ (p : List ℕ × Groups). AreBelow p.0 (joined (take at p.1))) (λ i. (c.as_str.ensures i, c.as_slice.ensures.value i)) c.group_of-at.ensures.below in
    let above = subst (λ (p : List ℕ × Groups). AreAbove p.0 (joined (drop (at + 1) p.1))) (λ i. (c.as_str.ensures i, c.as_slice.ensures.value i)) c.group_of-at.ensures.above in
    let nodes =
    ap (λ new. joined (set groups at new)) c.in_ok-mark.ensures.marked
    ∙ put_in c.args.certname.now groups at g there below above (with_activity c.args.active) within in
    record { within = within_anew groups at g there c.args.total.now c.counts.result c.requires.total c.counts.ensures c.without-others.result c.counts-2.result c.mark.new.self c.without-others.ensures within c.counts-2.ensures (subst AreFew (sym nodes) c.requires.few) }

pub returns-clause-filled : goal.returns-clause-filled
returns-clause-filled c =
    let groups = c.args.groups.now.items in
    let at = c.group_of-at.result in
    let within : at < length groups = subst (λ (l : Groups). at < length l) c.as_slice.ensures.value c.group_of-at.ensures.place in
    filled_set groups at c.mark.new.self (filled_or_one groups c.requires.filled) within
    (subst IsFilled (sym c.in_ok-mark.ensures.marked) (put_filled c.args.certname.now (with_activity c.args.active) c.index_mut-group.result.now))

pub returns-clause-rows : goal.returns-clause-rows
returns-clause-rows c =
    let groups = c.args.groups.now.items in
    let at = c.group_of-at.result in
    let g = c.index_mut-group.result.now in
    let within : at < length groups = subst (λ (l : Groups). at < length l) c.as_slice.ensures.value c.group_of-at.ensures.place in
    let there = slice_get_read groups (length groups) at g refl within c.index_mut-group.ensures.value in
    subst (λ total. AreCountsOf total (joined (set groups at c.mark.new.self))) (sym c.plus.ensures)
    (counted_anew groups at g there c.args.total.now c.counts.result c.requires.total c.counts.ensures c.without-others.result c.counts-2.result c.mark.new.self c.without-others.ensures within c.counts-2.ensures)

pub returns-clause-within : goal.returns-clause-within
returns-clause-within c =
    few_counted c.plus.result (joined (set c.args.groups.now.items c.group_of-at.result c.mark.new.self)) (returns-clause-rows c)
    (subst AreFew (sym (returns-clause-nodes c)) c.requires.few)
