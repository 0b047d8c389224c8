use Rattle.std.proofs.Common.{◌∙◌, ◌+◌, ◌++◌, [], length, refl, sym, ap, subst, arith, drop}
use Rattle.std.specs.Prelude.{slice_index}
use Rattle.std.proofs.lemmas.List.{drop_all, drop_more}
use Rattle.json_machine.specs.Machine.{value, verdict}
use Rattle.json_read.specs.Passed.{IsStack, IsAt, HasRoom}
use Rattle.json_read.proofs.Stacks.{value_begins, passes_space, unfinished}
use Rattle.json_read.proofs.passed.value_end.Goals as goal

pub passing-init : goal.passing-init
passing-init c =
    let bytes = c.args.bytes.now in
    let start = c.args.start in
    let none = sym c.new-kinds.ensures.items in
    let found = c.in_ok-stage.ensures in
    record {
      past = found.bound.0;
      within = found.bound.1;
      room = subst (λ kinds. HasRoom (length kinds) c.in_ok-stage.stage) none found.room;
      same = λ base l.
          let h = found.value base (omega (arith, l)) in
          let begun = ap (verdict 127 base value start) (drop_more bytes start 0 c.requires.place) ∙ value_begins base (slice_index bytes start) start (drop (start + 1) bytes) c.requires.black in
          ([], h.0, subst (λ kinds. IsStack kinds []) none refl, subst (λ kinds. IsAt (length kinds) c.in_ok-stage.stage h.0) none h.1, begun ∙ h.2);
    }

pub returns-then-next-bytes-clause-value : goal.returns-then-next-bytes-clause-value
returns-then-next-bytes-clause-value c = λ base l.
    let h = c.passing.invariant.same base l in
    let next = c.skip-next.result in
    h.4
    ∙ c.skip-next.ensures.same (h.0 ++ base) h.1 (passes_space (length c.passing.kinds.items) c.passing.stage h.1 h.3)
    ∙ ap (verdict 127 (h.0 ++ base) h.1 next) (drop_all next c.args.bytes.now (omega (arith, c.if-next-bytes.true)))
    ∙ unfinished h.0 base h.1 next l
