use Rattle.std.proofs.Common.{◌≤◌, arith, subst, sym, []}
use Rattle.json_machine.specs.text_spec.Json.{members_of, members_levels}
use Rattle.json_tree.specs.Tree.{pairs}
use Rattle.json_machine.proofs.SettledMembers.{levels-settled}
use Rattle.json_read.proofs.Frames.{more_members}
use Rattle.json_read.proofs.container.close_object.Goals as goal

pub object_of-requires : goal.object_of-requires
object_of-requires c =
    let deep = more_members c.args.frames.now.items c.args.members.items c.push-in-125.new.self.items c.args.key c.args.json c.in_ok-push-in-125.ensures.items c.requires.fits c.requires.mode in
    omega (arith, deep)

pub more_members-requires-clause-mode : goal.more_members-requires-clause-mode
more_members-requires-clause-mode c = more_members c.args.frames.now.items c.args.members.items c.push.new.self.items c.args.key c.args.json c.in_ok-push-in-44.ensures.items c.requires.fits c.requires.mode

pub returns-in_ok-object-in-125-clause-mode : goal.returns-in_ok-object-in-125-clause-mode
returns-in_ok-object-in-125-clause-mode c =
    let list = c.push-in-125.new.self.items in
    let deep = more_members c.args.frames.now.items c.args.members.items list c.args.key c.args.json c.in_ok-push-in-125.ensures.items c.requires.fits c.requires.mode in
    let same : members_levels (members_of c.in_ok-object-in-125.object) ≤ members_levels (members_of (pairs list)) = subst (λ ms. members_levels (members_of ms) ≤ members_levels (members_of (pairs list))) (sym c.in_ok-object-in-125.ensures) (levels-settled (pairs list) [] _ (omega arith) (omega arith)) in
    omega (arith, deep, same)
