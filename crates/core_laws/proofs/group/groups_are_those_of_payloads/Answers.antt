use Rattle.core_laws.proofs.GroupHeads.{groups_are_those_of_payloads, groups_are_of_the_kind}
use Rattle.core_laws.proofs.group.groups_are_those_of_payloads.Goals as goal

pub returns-clause-payloads : goal.returns-clause-payloads
returns-clause-payloads c = groups_are_those_of_payloads

pub returns-clause-kinds : goal.returns-clause-kinds
returns-clause-kinds c = groups_are_of_the_kind
