use Rattle.std.proofs.Common.{◌∙◌, ◌++◌, ◌+◌, ◌≤◌, [], List, ℕ, refl, sym, ap, append_assoc, arith}
use Rattle.std.proofs.KnownBytes.{Appends-nil, Appends-trans}
use Rattle.made_spec.specs.Made.{next_number, item_text, made_text}
use Rattle.spool_maker.proofs.Fronts.{number_more, made_none, due_is, whole_is, less_of_all, only_this, appends_kept}
use Rattle.spool_maker.proofs.maker.make.Goals as goal

pub items-init : goal.items-init
items-init g c = record {
  made_of = refl;
  told = ([], c.new-text.ensures.items ∙ sym (made_none c.args.seed), Appends-nil (g.O.Sink.held c.args.out.now));
  calm = refl;
}

pub items-preserved : goal.items-preserved
items-preserved g c =
    let held = g.O.Sink.held in
    let so_far = c.items.invariant in
    let added = c.in-Ok.ensures.which in
    let next = c.next_number-x.result in
    let left = c.add_item.new.text.items in
    let due = due_is c.args.seed c.items.i c.items.x next so_far.told.0 c.items.text.items so_far.made_of c.next_number-x.ensures so_far.told.1 in
    record {
      made_of = c.next_number-x.ensures ∙ ap next_number so_far.made_of ∙ sym (number_more c.args.seed c.items.i);
      told = (
        so_far.told.0 ++ added.0,
        append_assoc so_far.told.0 added.0 left ∙ ap (λ (t : List ℕ). so_far.told.0 ++ t) added.1 ∙ due,
        Appends-trans (held c.args.out.now) (held c.items.out) (held c.add_item.new.out) so_far.told.0 added.0 so_far.told.2 added.2,
      );
      calm = c.in-Ok.ensures.cause.calm (λ same. absurd (cc)) ∙ so_far.calm;
    }

pub returns-in-WriteFault-clause-which : goal.returns-in-WriteFault-clause-which
returns-in-WriteFault-clause-which g c =
    let held = g.O.Sink.held in
    let so_far = c.items.invariant in
    let added = c.in-WriteFault.ensures.which in
    let next = c.next_number-x.result in
    let due = c.items.text.items ++ item_text c.items.i next in
    let inside : c.items.i + 1 ≤ c.args.count = omega (arith, c.items-test.true) in
    let whole = whole_is c.args.seed (c.items.i + 1) c.args.count (so_far.told.0 ++ due) inside
    (due_is c.args.seed c.items.i c.items.x next so_far.told.0 c.items.text.items so_far.made_of c.next_number-x.ensures so_far.told.1) in
    less_of_all (held c.args.out.now) (held c.items.out) (held c.add_item.new.out) so_far.told.0 due whole.0 (made_text c.args.seed c.args.count) added.0 whole.1 so_far.told.2 added.1 added.2

pub returns-in-Memory-clause-which : goal.returns-in-Memory-clause-which
returns-in-Memory-clause-which g c =
    let held = g.O.Sink.held in
    let so_far = c.items.invariant in
    let kept = c.in-Memory.ensures.which in
    let left = c.items.text.items in
    let inside : c.items.i ≤ c.args.count = omega (arith, c.items-test.true) in
    let whole = whole_is c.args.seed c.items.i c.args.count (so_far.told.0 ++ left) inside so_far.told.1 in
    only_this (held c.args.out.now) (held c.add_item.new.out) so_far.told.0 (left ++ whole.0) (made_text c.args.seed c.args.count) (whole.1 ∙ append_assoc so_far.told.0 left whole.0)
    (appends_kept (held c.args.out.now) (held c.items.out) (held c.add_item.new.out) so_far.told.0 so_far.told.2 kept)

pub returns-clause-which : goal.returns-clause-which
returns-clause-which g c =
    let held = g.O.Sink.held in
    let so_far = c.items.invariant in
    let wrote = c.in-Failed.ensures.bytes in
    let slice = c.as_slice.result.now in
    let inside : c.items.i ≤ c.args.count = omega arith in
    let whole = whole_is c.args.seed c.items.i c.args.count (so_far.told.0 ++ slice) inside (ap (λ (t : List ℕ). so_far.told.0 ++ t) c.as_slice.ensures.value ∙ so_far.told.1) in
    less_of_all (held c.args.out.now) (held c.items.out) (held c.write_all.new.sink) so_far.told.0 slice whole.0 (made_text c.args.seed c.args.count) c.in-Failed.taken whole.1 so_far.told.2 wrote.0 wrote.1
