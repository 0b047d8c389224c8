use Rattle.std.proofs.Common.{◌≡◌, false, take, All}
use Rattle.http_spec.specs.Framing.{is_between}
use Rattle.http_front.proofs.fields.first_option.Given as goal

abbrev pub invariant-loop-at : goal.invariant-loop-at
invariant-loop-at l = All (λ x. is_between x ≡ false) (take l.at l.value)
