use Rattle.http_spec.proofs.Fronts.{reads_itself}
use Rattle.http_spec.proofs.laws.a_request_is_read_as_itself.Goals as goal

pub returns : goal.returns
returns c = reads_itself
