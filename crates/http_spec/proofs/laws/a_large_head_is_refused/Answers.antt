use Rattle.http_spec.proofs.Links.{too_large}
use Rattle.http_spec.proofs.laws.a_large_head_is_refused.Goals as goal

pub returns : goal.returns
returns c = too_large
