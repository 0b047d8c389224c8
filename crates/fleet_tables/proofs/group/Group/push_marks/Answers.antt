use Rattle.std.proofs.Common.{◌∙◌, ◌++◌, List, ap, map}
use Rattle.std.proofs.lemmas.Result.{on_ok_weaker}
use Rattle.checkpoint_spec.specs.table_machine.Table.{Node}
use Rattle.checkpoint_spec.specs.Lists.{mark_of}
use Rattle.kept_nodes.specs.Places.{seen_in}
use Rattle.fleet_tables.proofs.group.Group.push_marks.Goals as goal

pub returns : goal.returns
returns c =
    on_ok_weaker c.push_marks.result
    (λ e. e ∙ ap (λ (l : List Node). c.args.marks.now ++ map mark_of l) (ap seen_in c.as_slice.ensures.value ∙ c.self.view_is)) c.push_marks.ensures
