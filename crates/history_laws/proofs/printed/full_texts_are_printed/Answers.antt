use Rattle.history_laws.proofs.PrintedTexts.{full_texts_are_printed}
use Rattle.history_laws.proofs.printed.full_texts_are_printed.Goals as goal

pub returns : goal.returns
returns c = full_texts_are_printed
