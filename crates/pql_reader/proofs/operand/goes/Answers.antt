use Rattle.std.proofs.Common.{◌≡◌, subst, sym, ap, Some}
use Rattle.std.specs.Prelude.{IfOk}
use Rattle.pql_machine.specs.Machine as machine
use Rattle.pql_parts.specs.Parts.{pending_of}
use Rattle.pql_parts.specs.States.{head_of, mode_of}
use Rattle.pql_reader.proofs.operand.goes.Goals as goal

pub returns-in-Ok : goal.returns-in-Ok
returns-in-Ok c = λ fs m h.
    ap (λ x. Some (machine.within (head_of c.args.spot.head) fs (pending_of c.args.spot.pending) c.args.spot.nots x))
    (sym (subst (λ r. IfOk r (λ k. mode_of k ≡ m)) c.in-Ok.is h))
