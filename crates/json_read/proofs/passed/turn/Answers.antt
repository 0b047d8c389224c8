use Rattle.std.proofs.Common.{◌≡◌, ◌∙◌, ◌+◌, ◌++◌, length, sym, ap, subst, arith, drop}
use Rattle.std.specs.Prelude.{slice_index}
use Rattle.std.proofs.lemmas.List.{drop_more}
use Rattle.json_machine.specs.Machine.{value, verdict, begins}
use Rattle.json_read.specs.Passed.{IsAt, Begun}
use Rattle.json_read.proofs.Stacks.{stack_level, begun_passes, value_begins}
use Rattle.json_read.proofs.passed.turn.Goals as goal

pub returns-in-Value-clause-value : goal.returns-in-Value-clause-value
returns-in-Value-clause-value c = λ base fs m l s e.
    let kinds = c.args.kinds.now.items in
    let is : m ≡ value = subst (λ stage. IsAt (length kinds) stage m) c.in-Value.is e in
    let byte = slice_index c.args.bytes.now c.args.at in
    let count : c.len.result ≡ length kinds = grind arith in
    let level : length (fs ++ base) ≡ c.len.result + 1 = stack_level base fs kinds l s ∙ ap (λ n. n + 1) (sym count) in
    let path : verdict 127 (fs ++ base) m c.args.at (drop c.args.at c.args.bytes.now) ≡ begins 127 (fs ++ base) byte c.args.at (drop (c.args.at + 1) c.args.bytes.now) =
    (λ i. verdict 127 (fs ++ base) (is i) c.args.at (drop_more c.args.bytes.now c.args.at 0 c.requires.place i)) ∙ value_begins (fs ++ base) byte c.args.at (drop (c.args.at + 1) c.args.bytes.now) c.requires.black in
    begun_passes c.args.bytes.now base fs kinds c.len.result c.begin.result _ s count
    (subst (Begun c.args.bytes.now (fs ++ base) c.len.result c.begin.result) (sym path) (c.begin.ensures.value (fs ++ base) level))
