use Rattle.std.proofs.Common.{◌≡◌, ap, ◌∙◌}
use Rattle.std.specs.Prelude.{FitsSigned}
use Rattle.std.specs.Int.{w128, cast_unsigned}
use Rattle.std.proofs.lemmas.Int.{to_z-of_z}
use Rattle.record_fields.proofs.Moments.{moment_spelled}
use Rattle.record_fields.proofs.moment.put_moment.Goals as goal

pub returns : goal.returns
returns c =
    let fits : FitsSigned w128 c.as_nanosecond.result = record { sfits = c.as_nanosecond.type_inv } in
    let is : c.cast_unsigned-number.result ≡ cast_unsigned w128 c.args.moment = c.cast_unsigned-number.ensures ∙ ap (cast_unsigned w128) (to_z-of_z w128 c.as_nanosecond.result fits) ∙ ap (cast_unsigned w128) c.as_nanosecond.ensures in
    moment_spelled c.args.out.now.items c.put_u64.new.out.items c.put_u64-2.new.out.items c.cast_unsigned-number.result c.args.moment is c.in_ok-put_u64.ensures c.in_ok-put_u64-2.ensures
