use Rattle.std.proofs.Common.{◌≡◌, ◌∙◌, ◌+◌, ◌++◌, ◌∷◌, [], List, length, take, sym, ap, subst, arith, length-append}
use Rattle.kept_nodes.specs.declared.counts.Counts.{Counts}
use Rattle.fleet_tables.specs.Groups.{joined, AreCountsOf, AreStarts}
use Rattle.fleet_tables.proofs.JoinedNodes.{Groups}
use Rattle.fleet_tables.proofs.StartLaws.{starts_more}
use Rattle.fleet_tables.proofs.groups.fill_starts.Goals as goal

pub next_start-next-requires : goal.next_start-next-requires
next_start-next-requires c = record {
  few = c.requires.few;
  starts = subst (λ (starts : List Counts). AreStarts starts c.args.groups.now) (sym c.as_slice.ensures.value) c.filling.invariant.starts;
  within = omega (arith, ap (λ (starts : List Counts). length starts) c.as_slice.ensures.value, c.filling.invariant.place);
}

pub filling-preserved : goal.filling-preserved
filling-preserved c =
    let groups = c.args.groups.now in
    let starts = c.filling.starts.items in
    let next = c.next_start-next.result in
    let counted : AreCountsOf next (joined (take (length starts) groups)) =
    subst (λ (starts : List Counts). AreCountsOf next (joined (take (length starts) groups))) c.as_slice.ensures.value c.next_start-next.ensures in
    record {
      starts = subst (λ (starts : List Counts). AreStarts starts groups) (sym c.in_ok-push.ensures.items) (starts_more starts groups next c.filling.invariant.starts counted);
      place = omega (arith, ap (λ (starts : List Counts). length starts) c.in_ok-push.ensures.items, length-append starts (next ∷ []), c.filling.invariant.place);
    }
