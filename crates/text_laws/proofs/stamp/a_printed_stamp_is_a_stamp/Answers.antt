use Rattle.text_laws.proofs.StampLaws.{printed_texts_are_stamps, nine_digits}
use Rattle.text_laws.proofs.stamp.a_printed_stamp_is_a_stamp.Goals as goal

pub returns : goal.returns
returns c = record { stamp = printed_texts_are_stamps; nine_digits = nine_digits }
