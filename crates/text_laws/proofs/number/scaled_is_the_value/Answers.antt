use Rattle.text_laws.proofs.NumberLaws.{scaled_is_the_value}
use Rattle.text_laws.proofs.number.scaled_is_the_value.Goals as goal

pub returns : goal.returns
returns c = scaled_is_the_value
