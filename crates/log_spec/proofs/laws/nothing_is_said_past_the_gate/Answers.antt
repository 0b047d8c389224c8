use Rattle.log_spec.proofs.Images.{past_the_gate}
use Rattle.log_spec.proofs.laws.nothing_is_said_past_the_gate.Goals as goal

pub returns : goal.returns
returns c = past_the_gate
