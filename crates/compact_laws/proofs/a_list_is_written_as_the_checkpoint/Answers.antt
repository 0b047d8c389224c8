use Rattle.compact_laws.proofs.ListRecords.{lists_are_written_as_the_checkpoint}
use Rattle.compact_laws.proofs.a_list_is_written_as_the_checkpoint.Goals as goal

pub returns : goal.returns
returns c = lists_are_written_as_the_checkpoint
