use Rattle.pql_reader.proofs.step.token_step.Goals as goal

pub returns-in-Ok-clause-stepped : goal.returns-in-Ok-clause-stepped
returns-in-Ok-clause-stepped c = c.behind.ensures.stepped c.args.number c.args.bytes.now c.in-Ok.ensures

pub returns-in-Ok-clause-moves : goal.returns-in-Ok-clause-moves
returns-in-Ok-clause-moves c = c.behind.ensures.moves c.args.number c.args.bytes.now c.in-Ok.ensures
