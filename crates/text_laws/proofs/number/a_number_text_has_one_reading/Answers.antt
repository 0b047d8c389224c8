use Rattle.json_machine.proofs.of_text_spec.NumberParts.{number_in_number_text}
use Rattle.text_laws.proofs.NumberLaws.{number_text_injective}
use Rattle.text_laws.proofs.number.a_number_text_has_one_reading.Goals as goal

pub returns : goal.returns
returns c = record { parts = number_in_number_text; reading = number_text_injective }
