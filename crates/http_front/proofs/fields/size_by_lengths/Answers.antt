use Rattle.std.proofs.Common.{◌∙◌, true, false, refl, sym, codes}
use Rattle.http_spec.specs.Framing.{values_of}
use Rattle.http_front.proofs.FieldValues.{framed}
use Rattle.http_front.proofs.fields.size_by_lengths.Goals.{else-is_length-via-then-is_length+else-all_equal, else-is_length-via-else-is_length}
use Rattle.http_front.proofs.fields.size_by_lengths.Goals as goal

pub returns-then-all_equal : goal.returns-then-all_equal
returns-then-all_equal c =
    c.size_of.ensures
    ∙ sym (framed c.args.method.now c.in-Some.value.now (values_of (codes "content-length") c.args.heads.now) c.in-Some.ensures true true (sym c.is_length.ensures ∙ c.if-is_length.true) (sym c.all_equal.ensures ∙ c.if-all_equal.true))

pub returns-else-is_length : goal.returns-else-is_length
returns-else-is_length c = elim c.else-is_length.branch [
  | else-is_length-via-then-is_length+else-all_equal w ↦
      sym (framed c.args.method.now c.in-Some.value.now (values_of (codes "content-length") c.args.heads.now) c.in-Some.ensures true false (sym c.is_length.ensures ∙ w.if-is_length.true) (sym w.all_equal.ensures ∙ w.if-all_equal.false))
  | else-is_length-via-else-is_length w ↦
      sym (framed c.args.method.now c.in-Some.value.now (values_of (codes "content-length") c.args.heads.now) c.in-Some.ensures false _ (sym c.is_length.ensures ∙ w.if-is_length.false) refl)
]
