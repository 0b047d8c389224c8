use Rattle.wire_laws.proofs.KnownMembers.{unknown_keys_say_nothing, order_of_members_says_nothing}
use Rattle.wire_laws.proofs.table.only_known_members_count.Goals as goal

pub returns : goal.returns
returns c = record { unknown = unknown_keys_say_nothing; order = order_of_members_says_nothing }
