use Rattle.std.proofs.Common.{◌≡◌}
use Rattle.std.specs.Prelude.{map}
use Rattle.form_urlencoded.specs.Form.{pair_text}
use Rattle.routes_spec.specs.Parameters.{decoded_pair}
use Rattle.http_routes.proofs.parameters.parameters.Given as goal

abbrev pub invariant-loop-name : goal.invariant-loop-name
invariant-loop-name l = l.list.items ≡ map (λ pair. decoded_pair (pair_text pair)) l.yielded
