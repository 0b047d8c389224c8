use Rattle.history_laws.proofs.ReadingItems.{item_texts_are_read}
use Rattle.history_laws.proofs.spool.an_item_text_is_read.Goals as goal

pub returns : goal.returns
returns c = item_texts_are_read
