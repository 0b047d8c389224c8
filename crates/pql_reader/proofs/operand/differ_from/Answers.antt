use Rattle.std.proofs.Common.{subst, sym}
use Rattle.query_spec.specs.declared.parts.Op.TheVariants.{Equal}
use Rattle.query_spec.specs.Parts.{field_named}
use Rattle.query_spec.specs.Query.{compare, negation}
use Rattle.pql_machine.specs.Machine as machine
use Rattle.pql_parts.specs.States.{spot_step, Took}
use Rattle.pql_reader.proofs.operand.differ_from.Goals as goal

pub returns-in-Literal : goal.returns-in-Literal
returns-in-Literal c = λ fs.
    subst (λ t. Took fs c.finish_of.result (spot_step fs c.args.spot (machine.differ_from c.args.name) t)) (sym c.in-Literal.is)
    (c.finish_of.ensures fs (negation (compare Equal (field_named c.args.name) c.in-Literal.literal)) c.differing.ensures)
