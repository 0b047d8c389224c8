use Rattle.std.proofs.Common.{◌∙◌, sym, ap, arith, Some}
use Rattle.http_spec.specs.Framing.{first_of}
use Rattle.http_spec.proofs.NamedFields.{named_there, not_named_there}
use Rattle.http_spec.proofs.fields.first_value.Goals as goal

pub returns-then-is_named : goal.returns-then-is_named
returns-then-is_named c =
    ap (λ value. Some value) c.as_slice.ensures
    ∙ ap first_of (sym (named_there c.args.name.now c.args.heads.now c.loop-head.head-index _ (omega arith) c.head-item.is (sym c.is_named.ensures ∙ c.if-is_named.true)))
    ∙ c.loop-head.invariant

pub loop-head-preserved : goal.loop-head-preserved
loop-head-preserved c =
    ap first_of (sym (not_named_there c.args.name.now c.args.heads.now c.loop-head.head-index _ (omega arith) c.head-item.is (sym c.is_named.ensures ∙ c.if-is_named.false)))
    ∙ c.loop-head.invariant
