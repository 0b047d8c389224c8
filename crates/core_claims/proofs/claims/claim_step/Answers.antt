use Rattle.std.proofs.Common.{◌∙◌, sym}
use Rattle.core_state.proofs.Ports.{Ports}
use Rattle.core_claims.specs.Runs.{ran}
use Rattle.core_claims.proofs.ClaimAnswers.{turn_shortens}
use Rattle.core_claims.proofs.TurnRuns.{none_so_far, one_more}
use Rattle.core_claims.proofs.claims.claim_step.Goals as goal

pub turns-init : goal.turns-init
turns-init g c =
    let p : Ports g.row.D.Denot g.row.K.Denot = record {
      tells = g.D.Disk.is_told;
      seen = g.D.Disk.seen;
      may_leave = g.D.Disk.may_leave;
      moment = g.D.Disk.moment;
      left_since = g.D.Disk.left_since;
      faults = g.D.Disk.fault_count;
      told = g.met.D.Disk.told;
      told_since = g.met.D.Disk.told_since;
      only_now = g.met.D.Disk.only_now;
      store_tells = g.K.Keeper.is_told;
      kept = g.K.Keeper.kept;
      images = g.K.Keeper.images;
      store_moment = g.K.Keeper.moment;
      images_since = g.K.Keeper.images_since;
      store_up = g.K.Keeper.is_up;
      store_down = g.K.Keeper.down;
      store_size = g.K.Keeper.size;
      store_generation = g.K.Keeper.generation;
      store_opened = g.K.Keeper.opened;
      store_within = g.K.Keeper.is_within;
      store_faults = g.K.Keeper.fault_count;
      store_told = g.met.K.Keeper.told;
      store_told_since = g.met.K.Keeper.told_since;
      store_only_now = g.met.K.Keeper.only_now;
      store_stands = g.met.K.Keeper.stands;
    } in
    none_so_far p c.args.core.now c.requires.sound (sym c.is_down.ensures.value ∙ c.if-is_down.false)

pub returns-in-Some : goal.returns-in-Some
returns-in-Some g c = record { does = ran c.turns.core c.turns.invariant c.in-Some.ensures.does (sym c.is_down.ensures.value ∙ c.if-is_down.false) }

pub turns-smaller : goal.turns-smaller
turns-smaller g c =
    let p : Ports g.row.D.Denot g.row.K.Denot = record {
      tells = g.D.Disk.is_told;
      seen = g.D.Disk.seen;
      may_leave = g.D.Disk.may_leave;
      moment = g.D.Disk.moment;
      left_since = g.D.Disk.left_since;
      faults = g.D.Disk.fault_count;
      told = g.met.D.Disk.told;
      told_since = g.met.D.Disk.told_since;
      only_now = g.met.D.Disk.only_now;
      store_tells = g.K.Keeper.is_told;
      kept = g.K.Keeper.kept;
      images = g.K.Keeper.images;
      store_moment = g.K.Keeper.moment;
      images_since = g.K.Keeper.images_since;
      store_up = g.K.Keeper.is_up;
      store_down = g.K.Keeper.down;
      store_size = g.K.Keeper.size;
      store_generation = g.K.Keeper.generation;
      store_opened = g.K.Keeper.opened;
      store_within = g.K.Keeper.is_within;
      store_faults = g.K.Keeper.fault_count;
      store_told = g.met.K.Keeper.told;
      store_told_since = g.met.K.Keeper.told_since;
      store_only_now = g.met.K.Keeper.only_now;
      store_stands = g.met.K.Keeper.stands;
    } in
    let does = c.in-None.ensures.does in
    turn_shortens p c.turns.core c.turn.new.core does.0 does.1 does.2 does.3

pub turns-preserved : goal.turns-preserved
turns-preserved g c =
    let p : Ports g.row.D.Denot g.row.K.Denot = record {
      tells = g.D.Disk.is_told;
      seen = g.D.Disk.seen;
      may_leave = g.D.Disk.may_leave;
      moment = g.D.Disk.moment;
      left_since = g.D.Disk.left_since;
      faults = g.D.Disk.fault_count;
      told = g.met.D.Disk.told;
      told_since = g.met.D.Disk.told_since;
      only_now = g.met.D.Disk.only_now;
      store_tells = g.K.Keeper.is_told;
      kept = g.K.Keeper.kept;
      images = g.K.Keeper.images;
      store_moment = g.K.Keeper.moment;
      images_since = g.K.Keeper.images_since;
      store_up = g.K.Keeper.is_up;
      store_down = g.K.Keeper.down;
      store_size = g.K.Keeper.size;
      store_generation = g.K.Keeper.generation;
      store_opened = g.K.Keeper.opened;
      store_within = g.K.Keeper.is_within;
      store_faults = g.K.Keeper.fault_count;
      store_told = g.met.K.Keeper.told;
      store_told_since = g.met.K.Keeper.told_since;
      store_only_now = g.met.K.Keeper.only_now;
      store_stands = g.met.K.Keeper.stands;
    } in
    let does = c.in-None.ensures.does in
    one_more p c.args.core.now c.turns.core c.turn.new.core c.turns.invariant does.0 does.1 does.2 does.3
