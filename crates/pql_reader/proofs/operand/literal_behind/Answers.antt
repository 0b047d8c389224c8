use Rattle.std.proofs.Common.{[], ◌∷◌, ◌++◌, subst, sym}
use Rattle.pql_spec.specs.Grammar.{among}
use Rattle.pql_machine.specs.Machine as machine
use Rattle.pql_parts.specs.States.{spot_step, Took}
use Rattle.pql_reader.proofs.operand.literal_behind.Goals as goal

pub returns-in-Comma : goal.returns-in-Comma
returns-in-Comma c = λ fs.
    subst (λ t. Took fs c.goes.result (spot_step fs c.args.spot (machine.literal_behind c.args.names.items c.args.place c.args.literals c.args.last) t)) (sym c.in-Comma.is)
    (c.goes.ensures fs (machine.literal_next c.args.names.items c.args.place (c.args.literals ++ c.args.last ∷ [])) c.literals_more.ensures)

pub returns-in-CloseBracket : goal.returns-in-CloseBracket
returns-in-CloseBracket c = λ fs.
    subst (λ t. Took fs c.finish_of.result (spot_step fs c.args.spot (machine.literal_behind c.args.names.items c.args.place c.args.literals c.args.last) t)) (sym c.in-CloseBracket.is)
    (c.finish_of.ensures fs (among c.args.names.items c.args.place (c.args.literals ++ c.args.last ∷ [])) c.literals_read.ensures)
