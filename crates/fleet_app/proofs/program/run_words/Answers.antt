use Rattle.std.proofs.Common.{refl}
use Rattle.busy_commands.proofs.of_plain_laws.Booleans.{never}
use Rattle.fleet_app.proofs.program.run_words.Goals as goal

pub returns-then-needs_wait-clause-run : goal.returns-then-needs_wait-clause-run
returns-then-needs_wait-clause-run g c = record {
  busy = λ may. c.run_busy.ensures.run;
  calm = λ not. absurd (not (c.needs_wait.ensures.0 c.if-needs_wait.true));
}

pub returns-else-needs_wait-clause-run : goal.returns-else-needs_wait-clause-run
returns-else-needs_wait-clause-run g c = record {
  busy = λ may. absurd (never c.needs_wait.result (c.needs_wait.ensures.1 may) c.if-needs_wait.false);
  calm = λ not. (c.run_calm.ensures.run, refl);
}

pub returns-then-needs_wait-clause-usage : goal.returns-then-needs_wait-clause-usage
returns-then-needs_wait-clause-usage g c usage =
    let same = c.run_busy.ensures.usage usage in
    (same.0, same.1, same.2, same.3)

pub returns-else-needs_wait-clause-usage : goal.returns-else-needs_wait-clause-usage
returns-else-needs_wait-clause-usage g c usage =
    let same = c.run_calm.ensures.usage usage in
    (same.0, same.1, refl, same.2)
