use Rattle.core_state.proofs.Ports.{Ports}
use Rattle.core_sweeps.proofs.SweepAnswers.{sweep_adds, sweep_writes, sweep_keeper, sweep_stands, sweep_moments, sweep_sound, sweep_spelling, sweep_submitted, sweep_opening, sweep_queue, sweep_pending, sweep_down, sweep_unchanged, sweep_stays, sweep_fault, sweep_spent, sweep_unspent, sweep_cause, sweep_twice, sweep_store_down, sweep_up}
use Rattle.core_sweeps.proofs.sweeping.sweep.Goals as goal

pub returns : goal.returns
returns g c =
    let p : Ports g.row.D.Denot g.row.K.Denot = record {
      tells = g.D.Disk.is_told;
      seen = g.D.Disk.seen;
      may_leave = g.D.Disk.may_leave;
      moment = g.D.Disk.moment;
      left_since = g.D.Disk.left_since;
      faults = g.D.Disk.fault_count;
      told = g.met.D.Disk.told;
      told_since = g.met.D.Disk.told_since;
      only_now = g.met.D.Disk.only_now;
      store_tells = g.K.Keeper.is_told;
      kept = g.K.Keeper.kept;
      images = g.K.Keeper.images;
      store_moment = g.K.Keeper.moment;
      images_since = g.K.Keeper.images_since;
      store_up = g.K.Keeper.is_up;
      store_down = g.K.Keeper.down;
      store_size = g.K.Keeper.size;
      store_generation = g.K.Keeper.generation;
      store_opened = g.K.Keeper.opened;
      store_within = g.K.Keeper.is_within;
      store_faults = g.K.Keeper.fault_count;
      store_told = g.met.K.Keeper.told;
      store_told_since = g.met.K.Keeper.told_since;
      store_only_now = g.met.K.Keeper.only_now;
      store_stands = g.met.K.Keeper.stands;
    } in
    record {
      does = record {
        adds = sweep_adds p c.args.kinds c.args.m c.args.core.now c.sweep_step.new.core c.sweep_step.result c.sweep_step.ensures.does;
        writes = sweep_writes p c.args.kinds c.args.m c.args.core.now c.sweep_step.new.core c.sweep_step.result c.sweep_step.ensures.does;
        stands = λ start stands. sweep_stands p c.args.kinds c.args.m c.args.core.now c.sweep_step.new.core c.requires.sound c.requires.stamp start stands c.sweep_step.result c.sweep_step.ensures.does;
        any_moment = λ start stands up. sweep_moments p c.args.kinds c.args.m c.args.core.now c.sweep_step.new.core c.requires.sound c.requires.stamp start stands c.sweep_step.result c.sweep_step.ensures.does up;
        sound = sweep_sound p c.args.kinds c.args.m c.args.core.now c.sweep_step.new.core c.requires.sound c.sweep_step.result c.sweep_step.ensures.does;
        spelling = λ spelling. sweep_spelling p c.args.kinds c.args.m c.args.core.now c.sweep_step.new.core c.requires.stamp spelling c.sweep_step.result c.sweep_step.ensures.does;
        submitted = λ r b. sweep_submitted p c.args.kinds c.args.m c.args.core.now c.sweep_step.new.core c.sweep_step.result c.sweep_step.ensures.does r b;
        opening = sweep_opening p c.args.kinds c.args.m c.args.core.now c.sweep_step.new.core c.sweep_step.result c.sweep_step.ensures.does;
        keeper = sweep_keeper p c.args.kinds c.args.m c.args.core.now c.sweep_step.new.core c.sweep_step.result c.sweep_step.ensures.does;
        queue = sweep_queue p c.args.kinds c.args.m c.args.core.now c.sweep_step.new.core c.sweep_step.result c.sweep_step.ensures.does;
        pending = sweep_pending p c.args.kinds c.args.m c.args.core.now c.sweep_step.new.core c.sweep_step.result c.sweep_step.ensures.does;
        down = sweep_down p c.args.kinds c.args.m c.args.core.now c.sweep_step.new.core c.sweep_step.result c.sweep_step.ensures.does;
        unchanged = λ e. sweep_unchanged p c.args.kinds c.args.m c.args.core.now c.sweep_step.new.core c.sweep_step.result c.sweep_step.ensures.does e;
        stays = λ e. sweep_stays p c.args.kinds c.args.m c.args.core.now c.sweep_step.new.core c.sweep_step.result c.sweep_step.ensures.does e;
        fault = λ e. sweep_fault p c.args.kinds c.args.m c.args.core.now c.sweep_step.new.core c.sweep_step.result c.sweep_step.ensures.does e;
        spent = λ e. sweep_spent p c.args.kinds c.args.m c.args.core.now c.sweep_step.new.core c.sweep_step.result c.sweep_step.ensures.does e;
        unspent = λ up past. sweep_unspent p c.args.kinds c.args.m c.args.core.now c.sweep_step.new.core c.sweep_step.result c.sweep_step.ensures.does up past;
        cause = sweep_cause p c.args.kinds c.args.m c.args.core.now c.sweep_step.new.core c.sweep_step.result c.sweep_step.ensures.does;
        twice = λ e. sweep_twice p c.args.kinds c.args.m c.args.core.now c.sweep_step.new.core c.sweep_step.result c.sweep_step.ensures.does e;
        store_down = λ up. sweep_store_down p c.args.kinds c.args.m c.args.core.now c.sweep_step.new.core c.sweep_step.result c.sweep_step.ensures.does up;
        up = λ none. sweep_up p c.args.kinds c.args.m c.args.core.now c.sweep_step.new.core c.sweep_step.result c.sweep_step.ensures.does none;
      };
    }
