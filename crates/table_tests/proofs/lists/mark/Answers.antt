use Rattle.ttl_sweeps.specs.fleet_tables.Listed.{HasMoment}
use Rattle.table_tests.proofs.AllPushed.{all_pushed}
use Rattle.table_tests.proofs.lists.mark.Goals as goal

pub returns : goal.returns
returns c = record {
  expire = c.requires.expire;
  retain = c.requires.retain;
  marks = all_pushed HasMoment c.args.list.now.marks c.push.new.self _ c.in_ok-push.ensures.ok c.requires.marks c.read_stamp-active.ensures.range;
  changes = c.requires.changes;
}
