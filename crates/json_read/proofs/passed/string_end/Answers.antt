use Rattle.std.proofs.Common.{[]}
use Rattle.std.specs.Prelude.{slice_range}
use Rattle.json_read.proofs.passed.string_end.Goals as goal

pub escapes-init : goal.escapes-init
escapes-init c = record {
  past = c.in_ok-at.ensures.bound.0;
  within = c.in_ok-at.ensures.bound.1;
  stop = c.in_ok-at.ensures.bound.2;
  same = (slice_range c.args.bytes.now c.args.start c.in_ok-at.at, c.in_ok-at.ensures.value []);
}
