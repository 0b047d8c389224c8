use Rattle.std.proofs.Common.{◌∙◌, ap}
use Rattle.std.specs.Option.{option_map}
use Rattle.entry_tree.specs.declared.waiting.Waiting.{Waiting}
use Rattle.supersede_core.proofs.TreeEntries.{found_entry}
use Rattle.supersede_core.proofs.steps.entry_in.Goals as goal

pub returns-in-Some : goal.returns-in-Some
returns-in-Some c = ap (option_map (λ (v : Waiting). v.entry)) c.in-Some.ensures ∙ found_entry c.args.receipt c.args.tree.now

pub returns-in-None : goal.returns-in-None
returns-in-None c = ap (option_map (λ (v : Waiting). v.entry)) c.in-None.ensures ∙ found_entry c.args.receipt c.args.tree.now
