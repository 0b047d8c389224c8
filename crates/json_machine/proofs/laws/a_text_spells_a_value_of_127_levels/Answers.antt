use Rattle.json_machine.proofs.Spelled.{spells_values}
use Rattle.json_machine.proofs.laws.a_text_spells_a_value_of_127_levels.Goals as goal

pub returns : goal.returns
returns c = spells_values
