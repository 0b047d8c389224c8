use Rattle.std.proofs.Common.{◌∙◌, subst, sym, ap, Some}
use Rattle.std.specs.Prelude.{option_map}
use Rattle.query_spec.specs.Parts.{field_named}
use Rattle.query_spec.specs.Query.{matches}
use Rattle.query_spec.specs.declared.parts.Pattern.{Pattern}
use Rattle.pql_machine.specs.Machine as machine
use Rattle.pql_parts.specs.Parts.{pending_of}
use Rattle.pql_parts.specs.States.{head_of, Took}
use Rattle.pql_reader.proofs.operand.pattern_read.Goals as goal

pub returns-in-Some : goal.returns-in-Some
returns-in-Some c = λ fs.
    let k : Pattern → machine.State = λ p. machine.finish (head_of c.args.spot.head) fs (pending_of c.args.spot.pending) c.args.spot.nots (matches (field_named c.args.name) p) in
    subst (Took fs c.finish_leaf.result)
    (ap (λ f. Some (machine.finish (head_of c.args.spot.head) fs (pending_of c.args.spot.pending) c.args.spot.nots (matches f c.in-Some.pattern))) c.field_named.ensures
    ∙ sym (c.pattern_of.ensures k ∙ ap (option_map k) c.in-Some.is))
    (c.finish_leaf.ensures fs)

pub returns-in-None : goal.returns-in-None
returns-in-None c = λ fs.
    let k : Pattern → machine.State = λ p. machine.finish (head_of c.args.spot.head) fs (pending_of c.args.spot.pending) c.args.spot.nots (matches (field_named c.args.name) p) in
    c.pattern_of.ensures k ∙ ap (option_map k) c.in-None.is
