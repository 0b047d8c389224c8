use Rattle.std.proofs.Common.{[], ◌∷◌, ◌++◌, subst, sym}
use Rattle.pql_machine.specs.Machine as machine
use Rattle.pql_parts.specs.States.{spot_step, Took}
use Rattle.pql_reader.proofs.operand.left_behind.Goals as goal

pub returns-in-Comma : goal.returns-in-Comma
returns-in-Comma c = λ fs.
    subst (λ t. Took fs c.goes.result (spot_step fs c.args.spot (machine.left_behind c.args.names.items c.args.name) t)) (sym c.in-Comma.is)
    (c.goes.ensures fs (machine.left_next (c.args.names.items ++ c.args.name ∷ [])) c.left_more.ensures)

pub returns-in-CloseBracket : goal.returns-in-CloseBracket
returns-in-CloseBracket c = λ fs.
    subst (λ t. Took fs c.goes-in-CloseBracket.result (spot_step fs c.args.spot (machine.left_behind c.args.names.items c.args.name) t)) (sym c.in-CloseBracket.is)
    (c.goes-in-CloseBracket.ensures fs (machine.in_expected (c.args.names.items ++ c.args.name ∷ [])) c.left_read.ensures)
