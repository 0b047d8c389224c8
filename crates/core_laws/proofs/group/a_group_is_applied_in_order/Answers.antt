use Rattle.core_laws.proofs.GroupOrder.{one_of_a_group_is_claimed, applied_commands_are_the_newest}
use Rattle.core_laws.proofs.group.a_group_is_applied_in_order.Goals as goal

pub returns-clause-one : goal.returns-clause-one
returns-clause-one c = one_of_a_group_is_claimed

pub returns-clause-newest : goal.returns-clause-newest
returns-clause-newest c = applied_commands_are_the_newest
