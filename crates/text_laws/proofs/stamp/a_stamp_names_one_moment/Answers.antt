use Rattle.text_laws.proofs.StampLaws.{stamps_name_one_moment}
use Rattle.text_laws.proofs.stamp.a_stamp_names_one_moment.Goals as goal

pub returns : goal.returns
returns c = stamps_name_one_moment
