use Rattle.routes_spec.proofs.HandedIn.{posted_is_handed_in}
use Rattle.routes_spec.proofs.laws.a_posted_command_is_handed_in.Goals as goal

pub returns : goal.returns
returns c = posted_is_handed_in
