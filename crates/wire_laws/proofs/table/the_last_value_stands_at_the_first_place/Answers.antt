use Rattle.wire_laws.proofs.LastValues.{last_values_stand_at_first_places}
use Rattle.wire_laws.proofs.table.the_last_value_stands_at_the_first_place.Goals as goal

pub returns : goal.returns
returns c = last_values_stand_at_first_places
