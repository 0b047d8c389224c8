use Rattle.dump_laws.proofs.Decodes.{commands_decode}
use Rattle.dump_laws.proofs.a_command_decodes_to_its_change.Goals as goal

pub returns : goal.returns
returns c = commands_decode
