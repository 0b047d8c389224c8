use Rattle.core_state.proofs.Ports.{Ports}
use Rattle.core_submits.proofs.Submits.{submit_adds, submit_others, submit_store, submit_unchanged, submit_stays, submit_fault, submit_down, submit_full, submit_spent, submit_unspent, submit_cause, submit_writes, submit_waits, submit_twice, submit_up, submit_submitted, submit_sound, submit_stands, submit_moments}
use Rattle.core_submits.proofs.submission.submit.Goals as goal

pub returns : goal.returns
returns g c =
    let p : Ports g.row.D.Denot g.row.K.Denot = record {
      tells = g.D.Disk.is_told;
      seen = g.D.Disk.seen;
      may_leave = g.D.Disk.may_leave;
      moment = g.D.Disk.moment;
      left_since = g.D.Disk.left_since;
      faults = g.D.Disk.fault_count;
      told = g.met.D.Disk.told;
      told_since = g.met.D.Disk.told_since;
      only_now = g.met.D.Disk.only_now;
      store_tells = g.K.Keeper.is_told;
      kept = g.K.Keeper.kept;
      images = g.K.Keeper.images;
      store_moment = g.K.Keeper.moment;
      images_since = g.K.Keeper.images_since;
      store_up = g.K.Keeper.is_up;
      store_down = g.K.Keeper.down;
      store_size = g.K.Keeper.size;
      store_generation = g.K.Keeper.generation;
      store_opened = g.K.Keeper.opened;
      store_within = g.K.Keeper.is_within;
      store_faults = g.K.Keeper.fault_count;
      store_told = g.met.K.Keeper.told;
      store_told_since = g.met.K.Keeper.told_since;
      store_only_now = g.met.K.Keeper.only_now;
      store_stands = g.met.K.Keeper.stands;
    } in
    record {
      does = record {
        adds = submit_adds p c.args.command c.args.core.now c.submit_step.new.core c.submit_step.result c.submit_step.ensures.does;
        writes = submit_writes p c.args.command c.args.core.now c.submit_step.new.core c.submit_step.result c.submit_step.ensures.does;
        waits = submit_waits p c.args.command c.args.core.now c.submit_step.new.core c.submit_step.result c.submit_step.ensures.does;
        stands = λ start stands. submit_stands p c.args.command c.args.core.now c.submit_step.new.core c.requires.sound c.requires.payload c.requires.received start stands c.submit_step.result c.submit_step.ensures.does;
        any_moment = λ start stands up. submit_moments p c.args.command c.args.core.now c.submit_step.new.core c.requires.sound c.requires.payload c.requires.received start stands c.submit_step.result c.submit_step.ensures.does up;
        sound = submit_sound p c.args.command c.args.core.now c.submit_step.new.core c.requires.sound c.requires.payload c.requires.received c.submit_step.result c.submit_step.ensures.does;
        submitted = λ r b. submit_submitted p c.args.command c.args.core.now c.submit_step.new.core c.submit_step.result c.submit_step.ensures.does r b;
        others = submit_others p c.args.command c.args.core.now c.submit_step.new.core c.submit_step.result c.submit_step.ensures.does;
        store = submit_store p c.args.command c.args.core.now c.submit_step.new.core c.submit_step.result c.submit_step.ensures.does;
        down = submit_down p c.args.command c.args.core.now c.submit_step.new.core c.submit_step.result c.submit_step.ensures.does;
        unchanged = submit_unchanged p c.args.command c.args.core.now c.submit_step.new.core c.submit_step.result c.submit_step.ensures.does;
        full = submit_full p c.args.command c.args.core.now c.submit_step.new.core c.submit_step.result c.submit_step.ensures.does;
        spent = submit_spent p c.args.command c.args.core.now c.submit_step.new.core c.submit_step.result c.submit_step.ensures.does;
        unspent = submit_unspent p c.args.command c.args.core.now c.submit_step.new.core c.submit_step.result c.submit_step.ensures.does;
        stays = submit_stays p c.args.command c.args.core.now c.submit_step.new.core c.submit_step.result c.submit_step.ensures.does;
        fault = submit_fault p c.args.command c.args.core.now c.submit_step.new.core c.submit_step.result c.submit_step.ensures.does;
        cause = submit_cause p c.args.command c.args.core.now c.submit_step.new.core c.submit_step.result c.submit_step.ensures.does;
        twice = submit_twice p c.args.command c.args.core.now c.submit_step.new.core c.submit_step.result c.submit_step.ensures.does;
        up = submit_up p c.args.command c.args.core.now c.submit_step.new.core c.submit_step.result c.submit_step.ensures.does;
      };
    }
