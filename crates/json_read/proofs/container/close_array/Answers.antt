use Rattle.std.proofs.Common.{◌+◌, ◌≤◌, suc, length, subst, sym}
use Rattle.json_machine.specs.text_spec.Json.{items_of, items_levels}
use Rattle.json_tree.specs.Tree.{json_of}
use Rattle.json_read.proofs.Frames.{more_items, closed_array}
use Rattle.json_read.proofs.container.close_array.Goals as goal

pub more_items-requires-clause-mode : goal.more_items-requires-clause-mode
more_items-requires-clause-mode c = more_items c.args.frames.now.items c.args.items c.push.new.self (json_of c.args.json) c.in_ok-push-in-44.ensures.ok c.requires.fits c.requires.mode

pub returns-in_ok-give_items-in-93-clause-mode : goal.returns-in_ok-give_items-in-93-clause-mode
returns-in_ok-give_items-in-93-clause-mode c =
    subst (λ js. suc (items_levels (items_of js)) + length c.args.frames.now.items ≤ 127) (sym c.in_ok-fitted-in-93.ensures.items)
    (closed_array c.args.frames.now.items c.args.items c.push-in-93.new.self (json_of c.args.json) c.in_ok-push-in-93.ensures.ok c.requires.fits c.requires.mode)
