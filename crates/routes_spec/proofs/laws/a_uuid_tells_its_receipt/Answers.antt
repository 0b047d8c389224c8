use Rattle.routes_spec.proofs.Uuids.{uuid_tells}
use Rattle.routes_spec.proofs.laws.a_uuid_tells_its_receipt.Goals as goal

pub returns : goal.returns
returns c = uuid_tells
