use Rattle.wire_laws.proofs.LawfulChanges.{decoded_changes_are_lawful}
use Rattle.wire_laws.proofs.decode.a_decoded_change_is_lawful.Goals as goal

pub returns : goal.returns
returns c = decoded_changes_are_lawful
