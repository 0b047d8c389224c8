use Rattle.http_front.proofs.FieldValues.{told_equal}
use Rattle.http_front.proofs.fields.is_alike.Goals as goal

pub returns : goal.returns
returns c = told_equal _ _ _ c.eq_ignore_ascii_case.ensures.test
