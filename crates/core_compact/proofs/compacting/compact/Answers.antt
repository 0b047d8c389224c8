use Rattle.core_state.proofs.Ports.{Ports}
use Rattle.core_compact.proofs.CompactAnswers.{compact_memory, compact_stands, compact_writes, compact_checkpoints, compact_moments, compact_sound, compact_spelling, compact_submitted, compact_keeper, compact_down, compact_unchanged, compact_stays, compact_spent, compact_store_unspent, compact_queue_unspent, compact_store_cause, compact_queue_cause, compact_store_twice, compact_queue_twice, compact_store_goes, compact_queue_goes, compact_up}
use Rattle.core_compact.proofs.compacting.compact.Goals as goal

pub returns : goal.returns
returns g c =
    let p : Ports g.row.D.Denot g.row.K.Denot = record {
      tells = g.D.Disk.is_told;
      seen = g.D.Disk.seen;
      may_leave = g.D.Disk.may_leave;
      moment = g.D.Disk.moment;
      left_since = g.D.Disk.left_since;
      faults = g.D.Disk.fault_count;
      told = g.met.D.Disk.told;
      told_since = g.met.D.Disk.told_since;
      only_now = g.met.D.Disk.only_now;
      store_tells = g.K.Keeper.is_told;
      kept = g.K.Keeper.kept;
      images = g.K.Keeper.images;
      store_moment = g.K.Keeper.moment;
      images_since = g.K.Keeper.images_since;
      store_up = g.K.Keeper.is_up;
      store_down = g.K.Keeper.down;
      store_size = g.K.Keeper.size;
      store_generation = g.K.Keeper.generation;
      store_opened = g.K.Keeper.opened;
      store_within = g.K.Keeper.is_within;
      store_faults = g.K.Keeper.fault_count;
      store_told = g.met.K.Keeper.told;
      store_told_since = g.met.K.Keeper.told_since;
      store_only_now = g.met.K.Keeper.only_now;
      store_stands = g.met.K.Keeper.stands;
    } in
    record {
      does = record {
        memory = compact_memory p g.K.Keeper.side c.args.core.now c.compact_step.new.core c.compact_step.result c.compact_step.ensures.does;
        stands = λ start stands. compact_stands p g.K.Keeper.side c.args.core.now c.compact_step.new.core c.requires.sound start stands c.compact_step.result c.compact_step.ensures.does;
        writes = compact_writes p g.K.Keeper.side c.args.core.now c.compact_step.new.core c.compact_step.result c.compact_step.ensures.does;
        checkpoints = λ start stands. compact_checkpoints p g.K.Keeper.side c.args.core.now c.compact_step.new.core c.requires.sound start stands;
        any_moment = λ start stands up. compact_moments p g.K.Keeper.side c.args.core.now c.compact_step.new.core c.requires.sound start stands c.compact_step.result c.compact_step.ensures.does up;
        sound = compact_sound p g.K.Keeper.side c.args.core.now c.compact_step.new.core c.requires.sound c.compact_step.result c.compact_step.ensures.does;
        spelling = compact_spelling p g.K.Keeper.side c.args.core.now c.compact_step.new.core c.requires.spelling c.compact_step.result c.compact_step.ensures.does;
        submitted = λ r b. compact_submitted p g.K.Keeper.side c.args.core.now c.compact_step.new.core c.compact_step.result c.compact_step.ensures.does r b;
        keeper = compact_keeper p g.K.Keeper.side c.args.core.now c.compact_step.new.core c.compact_step.result c.compact_step.ensures.does;
        down = compact_down p g.K.Keeper.side c.args.core.now c.compact_step.new.core c.compact_step.result c.compact_step.ensures.does;
        unchanged = compact_unchanged p g.K.Keeper.side c.args.core.now c.compact_step.new.core c.compact_step.result c.compact_step.ensures.does;
        stays = compact_stays p g.K.Keeper.side c.args.core.now c.compact_step.new.core c.compact_step.result c.compact_step.ensures.does;
        spent = compact_spent p g.K.Keeper.side c.args.core.now c.compact_step.new.core c.compact_step.result c.compact_step.ensures.does;
        store_unspent = compact_store_unspent p g.K.Keeper.side c.args.core.now c.compact_step.new.core c.compact_step.result c.compact_step.ensures.does;
        queue_unspent = compact_queue_unspent p g.K.Keeper.side c.args.core.now c.compact_step.new.core c.compact_step.result c.compact_step.ensures.does;
        store_cause = compact_store_cause p g.K.Keeper.side c.args.core.now c.compact_step.new.core c.compact_step.result c.compact_step.ensures.does;
        queue_cause = compact_queue_cause p g.K.Keeper.side c.args.core.now c.compact_step.new.core c.compact_step.result c.compact_step.ensures.does;
        store_twice = compact_store_twice p g.K.Keeper.side c.args.core.now c.compact_step.new.core c.compact_step.result c.compact_step.ensures.does;
        queue_twice = compact_queue_twice p g.K.Keeper.side c.args.core.now c.compact_step.new.core c.compact_step.result c.compact_step.ensures.does;
        store_goes_down = compact_store_goes p g.K.Keeper.side c.args.core.now c.compact_step.new.core c.compact_step.result c.compact_step.ensures.does;
        queue_goes_down = compact_queue_goes p g.K.Keeper.side c.args.core.now c.compact_step.new.core c.compact_step.result c.compact_step.ensures.does;
        up = compact_up p g.K.Keeper.side c.args.core.now c.compact_step.new.core c.compact_step.result c.compact_step.ensures.does;
      };
    }
