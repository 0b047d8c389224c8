use Rattle.ttl_sweeps.specs.fleet_tables.Listed.{HasLawfulChange}
use Rattle.table_tests.proofs.AllPushed.{all_pushed}
use Rattle.table_tests.proofs.lists.put.Goals as goal

pub returns : goal.returns
returns c = record {
  expire = c.requires.expire;
  retain = c.requires.retain;
  marks = c.requires.marks;
  changes = all_pushed HasLawfulChange c.args.list.now.applied c.push.new.self _ c.in_ok-push.ensures.ok c.requires.changes c.in-Some.ensures;
}
