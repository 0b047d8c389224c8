use Rattle.text_laws.proofs.StampLaws.{moments_print_one_text, printed_texts_tell_the_cut_moment}
use Rattle.text_laws.proofs.stamp.a_printed_stamp_tells_the_cut_moment.Goals as goal

pub returns : goal.returns
returns c = record { text = moments_print_one_text; moment = printed_texts_tell_the_cut_moment }
