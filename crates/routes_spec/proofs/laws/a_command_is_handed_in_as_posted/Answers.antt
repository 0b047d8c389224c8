use Rattle.routes_spec.proofs.HandedIn.{handed_in_is_posted}
use Rattle.routes_spec.proofs.laws.a_command_is_handed_in_as_posted.Goals as goal

pub returns : goal.returns
returns c = handed_in_is_posted
