-- The entries before the place are free, and claims were released alone.
use Rattle.std.proofs.Common.{◌≡◌, length, take}
use Rattle.core_state.specs.Seen.{claimed_number}
use Rattle.core_state.proofs.Ports.{Ports}
use Rattle.core_claims.proofs.Frees.{HasFreed}
use Rattle.core_claims.proofs.free.free_claims.Given as goal

abbrev pub invariant-entries : goal.invariant-entries
invariant-entries g l =
    let p : Ports g.row.D.Denot g.row.K.Denot = record {
      tells = g.D.Disk.is_told;
      seen = g.D.Disk.seen;
      may_leave = g.D.Disk.may_leave;
      moment = g.D.Disk.moment;
      left_since = g.D.Disk.left_since;
      faults = g.D.Disk.fault_count;
      told = g.met.D.Disk.told;
      told_since = g.met.D.Disk.told_since;
      only_now = g.met.D.Disk.only_now;
      store_tells = g.K.Keeper.is_told;
      kept = g.K.Keeper.kept;
      images = g.K.Keeper.images;
      store_moment = g.K.Keeper.moment;
      images_since = g.K.Keeper.images_since;
      store_up = g.K.Keeper.is_up;
      store_down = g.K.Keeper.down;
      store_size = g.K.Keeper.size;
      store_generation = g.K.Keeper.generation;
      store_opened = g.K.Keeper.opened;
      store_within = g.K.Keeper.is_within;
      store_faults = g.K.Keeper.fault_count;
      store_told = g.met.K.Keeper.told;
      store_told_since = g.met.K.Keeper.told_since;
      store_only_now = g.met.K.Keeper.only_now;
      store_stands = g.met.K.Keeper.stands;
    } in
    record {
      freed : HasFreed p l.fn.core l.core;
      places : length l.core.pending ≡ l.count;
      passed : claimed_number (take l.i l.core.pending) ≡ 0;
    }
