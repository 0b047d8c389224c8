use Rattle.dump_laws.proofs.Decoded.{payloads_have_their_change}
use Rattle.dump_laws.proofs.a_payload_has_its_change.Goals as goal

pub returns : goal.returns
returns c = payloads_have_their_change
