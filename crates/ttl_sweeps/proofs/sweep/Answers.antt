use Rattle.ttl_sweeps.proofs.SweptTables.{stands_swept}
use Rattle.ttl_sweeps.proofs.sweep.Goals as goal

pub returns-clause-stands : goal.returns-clause-stands
returns-clause-stands c = λ history s. stands_swept c.args.tables.now c.follow.new.tables c.args.kinds c.args.m history c.requires c.follow.ensures s
