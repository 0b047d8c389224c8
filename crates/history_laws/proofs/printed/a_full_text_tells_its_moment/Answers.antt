use Rattle.history_laws.proofs.PrintedTexts.{full_texts_tell_the_moment}
use Rattle.history_laws.proofs.printed.a_full_text_tells_its_moment.Goals as goal

pub returns : goal.returns
returns c = full_texts_tell_the_moment
