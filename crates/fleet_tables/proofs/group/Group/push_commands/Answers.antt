use Rattle.std.proofs.Common.{◌∙◌, ◌++◌, List, ap}
use Rattle.std.specs.List.{flat_map}
use Rattle.std.proofs.lemmas.Result.{on_ok_weaker}
use Rattle.checkpoint_spec.specs.table_machine.Table.{Node}
use Rattle.checkpoint_spec.specs.Lists.{commands_of}
use Rattle.kept_nodes.specs.Places.{seen_in}
use Rattle.fleet_tables.proofs.group.Group.push_commands.Goals as goal

pub returns : goal.returns
returns c =
    on_ok_weaker c.push_commands.result
    (λ e. e ∙ ap (λ (l : List Node). c.args.commands.now ++ flat_map commands_of l) (ap seen_in c.as_slice.ensures.value ∙ c.self.view_is)) c.push_commands.ensures
