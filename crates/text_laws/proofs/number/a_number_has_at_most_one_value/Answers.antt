use Rattle.text_laws.proofs.NumberLaws.{at_most_one_value}
use Rattle.text_laws.proofs.number.a_number_has_at_most_one_value.Goals as goal

pub returns : goal.returns
returns c = at_most_one_value
