use Rattle.std.proofs.Common.{◌^◌, ◌<◌, sym, subst, rules}
use Rattle.core_claims.specs.fleet_keeper.declared.kept.Kept.{Kept}
use Rattle.core_claims.proofs.of_core_state.Ports.{Ports}
use Rattle.core_settles.specs.Ends.{FailDoes, AfterDoes}
use Rattle.core_settles.proofs.keep.after.Goals as goal

pub returns-in-Ok : goal.returns-in-Ok
returns-in-Ok g c =
    let p : Ports g.row.D.Denot g.row.K.Denot = record {
      tells = g.D.Disk.is_told;
      seen = g.D.Disk.seen;
      may_leave = g.D.Disk.may_leave;
      moment = g.D.Disk.moment;
      left_since = g.D.Disk.left_since;
      faults = g.D.Disk.fault_count;
      told = g.met.D.Disk.told;
      told_since = g.met.D.Disk.told_since;
      only_now = g.met.D.Disk.only_now;
      store_tells = g.K.Keeper.is_told;
      kept = g.K.Keeper.kept;
      images = g.K.Keeper.images;
      store_moment = g.K.Keeper.moment;
      images_since = g.K.Keeper.images_since;
      store_up = g.K.Keeper.is_up;
      store_down = g.K.Keeper.down;
      store_size = g.K.Keeper.size;
      store_generation = g.K.Keeper.generation;
      store_opened = g.K.Keeper.opened;
      store_within = g.K.Keeper.is_within;
      store_faults = g.K.Keeper.fault_count;
      store_told = g.met.K.Keeper.told;
      store_told_since = g.met.K.Keeper.told_since;
      store_only_now = g.met.K.Keeper.only_now;
      store_stands = g.met.K.Keeper.stands;
    } in
    record {
      does = subst (λ (a : Kept). AfterDoes p.tells p.seen p.may_leave p.moment p.left_since p.faults p.store_faults c.finish.result a c.args.job c.args.change c.args.before c.args.core.now c.finish.new.core) (sym c.in-Ok.is) c.finish.ensures.does;
    }

pub returns-in-Failed : goal.returns-in-Failed
returns-in-Failed g c =
    let p : Ports g.row.D.Denot g.row.K.Denot = record {
      tells = g.D.Disk.is_told;
      seen = g.D.Disk.seen;
      may_leave = g.D.Disk.may_leave;
      moment = g.D.Disk.moment;
      left_since = g.D.Disk.left_since;
      faults = g.D.Disk.fault_count;
      told = g.met.D.Disk.told;
      told_since = g.met.D.Disk.told_since;
      only_now = g.met.D.Disk.only_now;
      store_tells = g.K.Keeper.is_told;
      kept = g.K.Keeper.kept;
      images = g.K.Keeper.images;
      store_moment = g.K.Keeper.moment;
      images_since = g.K.Keeper.images_since;
      store_up = g.K.Keeper.is_up;
      store_down = g.K.Keeper.down;
      store_size = g.K.Keeper.size;
      store_generation = g.K.Keeper.generation;
      store_opened = g.K.Keeper.opened;
      store_within = g.K.Keeper.is_within;
      store_faults = g.K.Keeper.fault_count;
      store_told = g.met.K.Keeper.told;
      store_told_since = g.met.K.Keeper.told_since;
      store_only_now = g.met.K.Keeper.only_now;
      store_stands = g.met.K.Keeper.stands;
    } in
    let fits : c.faults-after.result < 2 ^ 64 = search rules in
    let at_mid : (p.store_faults c.args.core.now.store < 2 ^ 64) × FailDoes p.tells p.seen p.may_leave p.moment p.left_since p.faults c.fail.result c.args.job c.args.before (p.store_faults c.args.core.now.store) c.args.core.now c.fail.new.core
    = subst (λ n. (n < 2 ^ 64) × FailDoes p.tells p.seen p.may_leave p.moment p.left_since p.faults c.fail.result c.args.job c.args.before n c.args.core.now c.fail.new.core) c.faults-after.ensures.count (fits, c.fail.ensures.does) in
    record {
      does = subst (λ (a : Kept). AfterDoes p.tells p.seen p.may_leave p.moment p.left_since p.faults p.store_faults c.fail.result a c.args.job c.args.change c.args.before c.args.core.now c.fail.new.core) (sym c.in-Failed.is) at_mid;
    }
