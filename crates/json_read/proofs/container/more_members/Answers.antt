use Rattle.std.proofs.Common.{◌≤◌, arith, subst, sym, []}
use Rattle.json_machine.specs.text_spec.Json.{members_of, members_levels}
use Rattle.json_tree.specs.Tree.{pairs}
use Rattle.json_machine.proofs.SettledMembers.{levels-settled}
use Rattle.json_read.proofs.container.more_members.Goals as goal

pub returns-in_ok-object-in-None-clause-mode : goal.returns-in_ok-object-in-None-clause-mode
returns-in_ok-object-in-None-clause-mode c =
    let list = c.run_members.new.members.items in
    let same : members_levels (members_of c.in_ok-object-in-None.object) ≤ members_levels (members_of (pairs list)) = subst (λ ms. members_levels (members_of ms) ≤ members_levels (members_of (pairs list))) (sym c.in_ok-object-in-None.ensures) (levels-settled (pairs list) [] _ (omega arith) (omega arith)) in
    omega (arith, same, c.run_members.ensures.levels, c.requires.mode)
