use Rattle.ttl_sweeps.proofs.of_stamp_time.RangeLaws.{stamp_in_range}
use Rattle.core_sweeps.proofs.sweeping.sweep_step.Goals as goal

pub sweep-requires : goal.sweep-requires
sweep-requires g c = stamp_in_range c.requires.stamp.0 c.args.m c.requires.stamp.1
