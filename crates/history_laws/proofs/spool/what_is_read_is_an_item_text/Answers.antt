use Rattle.history_laws.proofs.ReadingStands.{what_is_read_is_an_item_text}
use Rattle.history_laws.proofs.spool.what_is_read_is_an_item_text.Goals as goal

pub returns : goal.returns
returns c = what_is_read_is_an_item_text
