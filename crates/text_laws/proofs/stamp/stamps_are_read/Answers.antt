use Rattle.text_laws.proofs.StampLaws.{stamps_are_read}
use Rattle.text_laws.proofs.stamp.stamps_are_read.Goals as goal

pub returns : goal.returns
returns c = stamps_are_read
