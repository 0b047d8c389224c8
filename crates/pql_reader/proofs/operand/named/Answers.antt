use Rattle.std.proofs.Common.{[], ◌∷◌, subst, sym}
use Rattle.pql_machine.specs.Machine as machine
use Rattle.pql_parts.specs.States.{spot_step, Took}
use Rattle.pql_reader.proofs.operand.named.Goals as goal

pub returns-in-In : goal.returns-in-In
returns-in-In c =
    subst (λ t. Took c.args.frames.now c.goes.result (spot_step c.args.frames.now c.args.spot (machine.named c.args.name) t)) (sym c.in-In.is)
    (c.goes.ensures c.args.frames.now (machine.right (c.args.name ∷ [])) c.right_of.ensures)
