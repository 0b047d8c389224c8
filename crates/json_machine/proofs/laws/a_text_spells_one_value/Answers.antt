use Rattle.json_machine.proofs.Law.{one_value}
use Rattle.json_machine.proofs.laws.a_text_spells_one_value.Goals as goal

pub returns : goal.returns
returns c = one_value
