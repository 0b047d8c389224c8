use Rattle.fleet_keeper.proofs.Additions.{added_along}
use Rattle.fleet_keeper.proofs.log_keeper.LogKeeperKeeper.keep.Goals as goal

pub returns-in-Ok : goal.returns-in-Ok
returns-in-Ok g c =
    let added = added_along c.in-Ok.spelt c.args.rec.now c.in-Ok.ensures c.keep_spelt.ensures.added in
    record {
      any_moment = added.any_moment;
      later = added.later;
      each = added.each;
      ok = added.ok;
      refused = added.refused;
      kept_one = added.kept_one;
      kept_old = added.kept_old;
      down = added.down;
      again = added.again;
      untouched = added.untouched;
      grew = added.grew;
      same_size = added.same_size;
      generation = added.generation;
      side = added.side;
      spent = added.spent;
      unspent = added.unspent;
      cause = added.cause;
      twice = added.twice;
      opened = added.opened;
      within = added.within;
    }
