use Rattle.json_machine.proofs.Spelled.{spells_in_utf8}
use Rattle.json_machine.proofs.laws.a_text_is_utf8.Goals as goal

pub returns : goal.returns
returns c = spells_in_utf8
