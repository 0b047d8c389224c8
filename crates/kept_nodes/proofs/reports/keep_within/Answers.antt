use Rattle.std.proofs.Common.{◌<◌, length, subst, sym, arith}
use Rattle.std.specs.List.{AllByRecursion}
use Rattle.kept_nodes.specs.Kept.{IsReport}
use Rattle.kept_nodes.proofs.LeastReports.{removed_seen, removed_in_order, each-remove}
use Rattle.kept_nodes.proofs.reports.keep_within.Goals as goal

pub returns-then-len-limit-clause-seen : goal.returns-then-len-limit-clause-seen
returns-then-len-limit-clause-seen c =
    let reports = c.args.reports.now.items in
    let more : c.args.limit < length reports = omega arith in
    removed_seen reports c.as_slice.result.now c.remove_at.new.list.items c.place_of_least-least.result c.args.limit c.as_slice.ensures.value c.remove_at.ensures
    c.place_of_least-least.ensures.least more

pub returns-then-len-limit-clause-each : goal.returns-then-len-limit-clause-each
returns-then-len-limit-clause-each c =
    subst (AllByRecursion IsReport) (sym c.remove_at.ensures) (each-remove IsReport c.args.reports.now.items c.place_of_least-least.result c.requires.each)

pub returns-then-len-limit-clause-in_order : goal.returns-then-len-limit-clause-in_order
returns-then-len-limit-clause-in_order c =
    removed_in_order c.args.reports.now.items c.remove_at.new.list.items c.place_of_least-least.result c.remove_at.ensures c.requires.in_order
