use Rattle.std.proofs.Common.{◌∙◌, ℕ, ◌+◌, ◌<◌, List, length, take, drop, refl, sym, ap, subst, arith}
use Rattle.std.proofs.Math.ListN.{set}
use Rattle.std.proofs.lemmas.List.{take-set-le}
use Rattle.std.proofs.lemmas.Option.{slice_get_read}
use Rattle.checkpoint_spec.specs.fleet_rows.Change.{change_certname}
use Rattle.checkpoint_spec.specs.fleet_rows.declared.applied.Applied.{Applied}
use Rattle.checkpoint_spec.specs.history_spec.Trace.{applied_as}
use Rattle.checkpoint_spec.specs.table_machine.Steps.{with_applied}
use Rattle.fleet_tables.specs.Groups.{joined, IsFilled, AreBelow, AreAbove, AreCountsOf, AreFew}
use Rattle.fleet_tables.proofs.GroupRooms.{room_in, few_in}
use Rattle.fleet_tables.proofs.GroupRows.{is_part, counted_anew, within_anew}
use Rattle.fleet_tables.proofs.JoinedNodes.{Groups, put_in, put_filled, filled_set}
use Rattle.fleet_tables.proofs.RowBounds.{few_counted}
use Rattle.fleet_tables.proofs.groups.apply_change.Goals as goal

pub without-others-requires : goal.without-others-requires
without-others-requires c =
    let groups = c.args.groups.now.items in
    let at = c.group_of-at.result in
    let g = c.index_mut-group.result.now in
    let within : at < length groups = subst (λ (l : Groups). at < length l) c.as_slice.ensures.value c.group_of-at.ensures.place in
    let there = slice_get_read groups (length groups) at g refl within c.index_mut-group.ensures.value in
    record { part = is_part groups at g there c.args.total.now c.counts.result c.requires.total c.counts.ensures }

pub apply-requires-clause-room : goal.apply-requires-clause-room
apply-requires-clause-room c =
    let groups = c.args.groups.now.items in
    let at = c.group_of-at.result in
    let g = c.index_mut-group.result.now in
    let named = c.as_str.ensures ∙ c.certname.ensures in
    let within : at < length groups = subst (λ (l : Groups). at < length l) c.as_slice.ensures.value c.group_of-at.ensures.place in
    let there = slice_get_read groups (length groups) at g refl within c.index_mut-group.ensures.value in
    let below = subst (λ (p : List ℕ × Groups). AreBelow p.0 (joined (take at p.1))) (λ i. (named i, c.as_slice.ensures.value i)) c.group_of-at.ensures.below in
    let above = subst (λ (p : List ℕ × Groups). AreAbove p.0 (joined (drop (at + 1) p.1))) (λ i. (named i, c.as_slice.ensures.value i)) c.group_of-at.ensures.above in
    room_in groups at g there c.args.change below above c.args.shown c.args.new c.requires.room

pub apply-requires-clause-few : goal.apply-requires-clause-few
apply-requires-clause-few c =
    let groups = c.args.groups.now.items in
    let at = c.group_of-at.result in
    let g = c.index_mut-group.result.now in
    let x : Applied = applied_as c.args.receipt c.args.received c.args.change in
    let named = c.as_str.ensures ∙ c.certname.ensures in
    let within : at < length groups = subst (λ (l : Groups). at < length l) c.as_slice.ensures.value c.group_of-at.ensures.place in
    let there = slice_get_read groups (length groups) at g refl within c.index_mut-group.ensures.value in
    let below = subst (λ (p : List ℕ × Groups). AreBelow p.0 (joined (take at p.1))) (λ i. (named i, c.as_slice.ensures.value i)) c.group_of-at.ensures.below in
    let above = subst (λ (p : List ℕ × Groups). AreAbove p.0 (joined (drop (at + 1) p.1))) (λ i. (named i, c.as_slice.ensures.value i)) c.group_of-at.ensures.above in
    few_in groups at g there c.args.change below above (with_applied c.args.ttls.now c.args.retention.now x) c.requires.few

pub plus-requires : goal.plus-requires
plus-requires c =
    let groups = c.args.groups.now.items in
    let at = c.group_of-at.result in
    let g = c.index_mut-group.result.now in
    let x : Applied = applied_as c.args.receipt c.args.received c.args.change in
    let named = c.as_str.ensures ∙ c.certname.ensures in
    let within : at < length groups = subst (λ (l : Groups). at < length l) c.as_slice.ensures.value c.group_of-at.ensures.place in
    let there = slice_get_read groups (length groups) at g refl within c.index_mut-group.ensures.value in
    let below = subst (λ (p : List ℕ × Groups). AreBelow p.0 (joined (take at p.1))) (λ i. (named i, c.as_slice.ensures.value i)) c.group_of-at.ensures.below in
    let above = subst (λ (p : List ℕ × Groups). AreAbove p.0 (joined (drop (at + 1) p.1))) (λ i. (named i, c.as_slice.ensures.value i)) c.group_of-at.ensures.above in
    let nodes =
    ap (λ new. joined (set groups at new)) c.apply.ensures
    ∙ put_in (change_certname c.args.change) groups at g there below above (with_applied c.args.ttls.now c.args.retention.now x) within in
    record { within = within_anew groups at g there c.args.total.now c.counts.result c.requires.total c.counts.ensures c.without-others.result c.counts-2.result c.apply.new.self c.without-others.ensures within c.counts-2.ensures (subst AreFew (sym nodes) c.requires.few) }

pub returns-clause-nodes : goal.returns-clause-nodes
returns-clause-nodes c =
    let groups = c.args.groups.now.items in
    let at = c.group_of-at.result in
    let g = c.index_mut-group.result.now in
    let x : Applied = applied_as c.args.receipt c.args.received c.args.change in
    let named = c.as_str.ensures ∙ c.certname.ensures in
    let within : at < length groups = subst (λ (l : Groups). at < length l) c.as_slice.ensures.value c.group_of-at.ensures.place in
    let there = slice_get_read groups (length groups) at g refl within c.index_mut-group.ensures.value in
    let below = subst (λ (p : List ℕ × Groups). AreBelow p.0 (joined (take at p.1))) (λ i. (named i, c.as_slice.ensures.value i)) c.group_of-at.ensures.below in
    let above = subst (λ (p : List ℕ × Groups). AreAbove p.0 (joined (drop (at + 1) p.1))) (λ i. (named i, c.as_slice.ensures.value i)) c.group_of-at.ensures.above in
    ap (λ new. joined (set groups at new)) c.apply.ensures
    ∙ put_in (change_certname c.args.change) groups at g there below above (with_applied c.args.ttls.now c.args.retention.now x) within

pub returns-clause-filled : goal.returns-clause-filled
returns-clause-filled c =
    let groups = c.args.groups.now.items in
    let at = c.group_of-at.result in
    let x : Applied = applied_as c.args.receipt c.args.received c.args.change in
    let within : at < length groups = subst (λ (l : Groups). at < length l) c.as_slice.ensures.value c.group_of-at.ensures.place in
    filled_set groups at c.apply.new.self c.requires.filled within
    (subst IsFilled (sym c.apply.ensures) (put_filled (change_certname c.args.change) (with_applied c.args.ttls.now c.args.retention.now x) c.index_mut-group.result.now))

pub returns-clause-rows : goal.returns-clause-rows
returns-clause-rows c =
    let groups = c.args.groups.now.items in
    let at = c.group_of-at.result in
    let g = c.index_mut-group.result.now in
    let within : at < length groups = subst (λ (l : Groups). at < length l) c.as_slice.ensures.value c.group_of-at.ensures.place in
    let there = slice_get_read groups (length groups) at g refl within c.index_mut-group.ensures.value in
    subst (λ total. AreCountsOf total (joined (set groups at c.apply.new.self))) (sym c.plus.ensures)
    (counted_anew groups at g there c.args.total.now c.counts.result c.requires.total c.counts.ensures c.without-others.result c.counts-2.result c.apply.new.self c.without-others.ensures within c.counts-2.ensures)

pub returns-clause-before : goal.returns-clause-before
returns-clause-before c = take-set-le c.group_of-at.result c.args.groups.now.items c.group_of-at.result c.apply.new.self (omega arith)

pub returns-clause-within : goal.returns-clause-within
returns-clause-within c =
    few_counted c.plus.result (joined (set c.args.groups.now.items c.group_of-at.result c.apply.new.self)) (returns-clause-rows c)
    (subst AreFew (sym (returns-clause-nodes c)) c.requires.few)
