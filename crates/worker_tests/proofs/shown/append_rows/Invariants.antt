use Rattle.std.proofs.Common.{◌≡◌, ◌+◌}
use Rattle.worker_tests.proofs.shown.append_rows.Given as goal

abbrev pub invariant-rows : goal.invariant-rows
invariant-rows g l = l.steps ≡ l.fn.steps + l.i
