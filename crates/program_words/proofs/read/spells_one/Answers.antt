use Rattle.program_words.proofs.OneRequest.{one_request}
use Rattle.program_words.proofs.read.spells_one.Goals as goal

pub returns : goal.returns
returns c = one_request
