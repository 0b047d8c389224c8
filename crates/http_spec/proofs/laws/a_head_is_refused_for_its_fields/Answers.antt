use Rattle.http_spec.proofs.SomeFront.{refused_so}
use Rattle.http_spec.proofs.laws.a_head_is_refused_for_its_fields.Goals as goal

pub returns : goal.returns
returns c = refused_so
