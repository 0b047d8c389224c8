use Rattle.std.proofs.Common.{◌≡◌, subst, Some}
use Rattle.std.specs.Prelude.{IfOk}
use Rattle.ast_tree.specs.Tree.{filter_of}
use Rattle.pql_machine.specs.Machine as machine
use Rattle.pql_parts.specs.Parts.{pending_of}
use Rattle.pql_parts.specs.States.{head_of, Took}
use Rattle.pql_reader.proofs.operand.finish_of.Goals as goal

pub returns-in-Ok : goal.returns-in-Ok
returns-in-Ok c = λ fs f h.
    subst (λ x. Took fs c.finish.result (Some (machine.finish (head_of c.args.spot.head) fs (pending_of c.args.spot.pending) c.args.spot.nots x)))
    (subst (λ r. IfOk r (λ b. filter_of b.filter ≡ f)) c.in-Ok.is h)
    (c.finish.ensures fs)
