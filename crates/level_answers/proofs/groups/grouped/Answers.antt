use Rattle.std.proofs.Common.{map}
use Rattle.query_plan.specs.means_spec.Groups.{key_of}
use Rattle.level_answers.specs.Grouped.{group_seen}
use Rattle.level_answers.proofs.BegunLaws.{found_groups}
use Rattle.level_answers.proofs.groups.grouped.Goals as goal

pub returns : goal.returns
returns c =
    found_groups (key_of c.args.entity c.args.columns.now) c.args.rows.now c.in_ok-all.all.items c.as_slice-list.result.now c.in_ok-firsts.firsts.items c.as_slice-begun.result.now c.in_ok-parts.parts.items c.as_slice-by_mark.result.now
    (map group_seen c.in_ok-found.found.items) (map group_seen c.sort.new.groups.items) c.in_ok-all.ensures.rows c.in_ok-all.ensures.marks c.as_slice-list.ensures.value c.in_ok-firsts.ensures c.in_ok-parts.ensures c.as_slice-begun.ensures.value
    c.as_slice-by_mark.ensures.value c.in_ok-found.ensures c.in_ok-sort.ensures
