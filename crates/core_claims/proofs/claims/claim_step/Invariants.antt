-- So far commands were superseded, and each turn takes one out of the list.
use Rattle.std.proofs.Common.{length}
use Rattle.core_state.proofs.Ports.{Ports}
use Rattle.core_claims.proofs.TurnRuns.{SoFar}
use Rattle.core_claims.proofs.claims.claim_step.Given as goal

abbrev pub invariant-turns : goal.invariant-turns
invariant-turns g l =
    let p : Ports g.row.D.Denot g.row.K.Denot = record {
      tells = g.D.Disk.is_told;
      seen = g.D.Disk.seen;
      may_leave = g.D.Disk.may_leave;
      moment = g.D.Disk.moment;
      left_since = g.D.Disk.left_since;
      faults = g.D.Disk.fault_count;
      told = g.met.D.Disk.told;
      told_since = g.met.D.Disk.told_since;
      only_now = g.met.D.Disk.only_now;
      store_tells = g.K.Keeper.is_told;
      kept = g.K.Keeper.kept;
      images = g.K.Keeper.images;
      store_moment = g.K.Keeper.moment;
      images_since = g.K.Keeper.images_since;
      store_up = g.K.Keeper.is_up;
      store_down = g.K.Keeper.down;
      store_size = g.K.Keeper.size;
      store_generation = g.K.Keeper.generation;
      store_opened = g.K.Keeper.opened;
      store_within = g.K.Keeper.is_within;
      store_faults = g.K.Keeper.fault_count;
      store_told = g.met.K.Keeper.told;
      store_told_since = g.met.K.Keeper.told_since;
      store_only_now = g.met.K.Keeper.only_now;
      store_stands = g.met.K.Keeper.stands;
    } in
    SoFar p l.fn.core l.core

abbrev pub decreases-turns : goal.decreases-turns
decreases-turns g l = length l.core.pending
