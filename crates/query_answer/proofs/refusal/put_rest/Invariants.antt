use Rattle.std.proofs.Common.{◌≡◌, ◌++◌, drop}
use Rattle.query_answer.specs.RefusalText.{dotted}
use Rattle.query_answer.proofs.refusal.put_rest.Given as goal

abbrev pub invariant-loop-number : goal.invariant-loop-number
invariant-loop-number l = l.out.items ++ dotted (drop l.number-index l.numbers) ≡ l.initial.out.items ++ dotted l.numbers
