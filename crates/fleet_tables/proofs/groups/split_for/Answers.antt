use Rattle.std.proofs.Common.{List, sym, subst}
use Rattle.kept_nodes.specs.declared.counts.Counts.{Counts}
use Rattle.fleet_tables.specs.Groups.{AreStarts}
use Rattle.fleet_tables.proofs.StartLaws.{starts_cut}
use Rattle.fleet_tables.proofs.groups.split_for.Goals as goal

pub returns-clause-starts : goal.returns-clause-starts
returns-clause-starts c =
    subst (λ (starts : List Counts). AreStarts starts c.split_at.new.groups.items) (sym c.truncate.ensures.items)
    (starts_cut c.args.starts.now.items c.args.groups.now.items c.split_at.new.groups.items c.group_of-at.result c.split_at.ensures.before c.requires.starts)
