use Rattle.core_state.proofs.Ports.{Ports}
use Rattle.core_claims.proofs.ReleasedCommands.{release_adds, release_unchanged, release_gives, release_stands, release_sound, release_last, release_submitted, release_others, release_queue, release_store}
use Rattle.core_claims.proofs.releases.release.Goals as goal

pub returns : goal.returns
returns g c =
    let p : Ports g.row.D.Denot g.row.K.Denot = record {
      tells = g.D.Disk.is_told;
      seen = g.D.Disk.seen;
      may_leave = g.D.Disk.may_leave;
      moment = g.D.Disk.moment;
      left_since = g.D.Disk.left_since;
      faults = g.D.Disk.fault_count;
      told = g.met.D.Disk.told;
      told_since = g.met.D.Disk.told_since;
      only_now = g.met.D.Disk.only_now;
      store_tells = g.K.Keeper.is_told;
      kept = g.K.Keeper.kept;
      images = g.K.Keeper.images;
      store_moment = g.K.Keeper.moment;
      images_since = g.K.Keeper.images_since;
      store_up = g.K.Keeper.is_up;
      store_down = g.K.Keeper.down;
      store_size = g.K.Keeper.size;
      store_generation = g.K.Keeper.generation;
      store_opened = g.K.Keeper.opened;
      store_within = g.K.Keeper.is_within;
      store_faults = g.K.Keeper.fault_count;
      store_told = g.met.K.Keeper.told;
      store_told_since = g.met.K.Keeper.told_since;
      store_only_now = g.met.K.Keeper.only_now;
      store_stands = g.met.K.Keeper.stands;
    } in
    record {
      does = record {
        released = release_adds p c.args.receipt c.args.core.now c.release_step.new.core c.release_step.ensures;
        unchanged = release_unchanged p c.args.receipt c.args.core.now c.release_step.new.core c.release_step.ensures;
        gives = λ start stands up. release_gives p c.args.receipt c.args.core.now c.release_step.new.core c.requires.sound start stands c.release_step.ensures up;
        stands = λ start stands. release_stands p c.args.receipt c.args.core.now c.release_step.new.core c.requires.sound start stands c.release_step.ensures;
        sound = release_sound p c.args.receipt c.args.core.now c.release_step.new.core c.requires.sound c.release_step.ensures;
        submitted = λ r b. release_submitted p c.args.receipt c.args.core.now c.release_step.new.core c.release_step.ensures r b;
        others = release_others p c.args.receipt c.args.core.now c.release_step.new.core c.release_step.ensures;
        queue = release_queue p c.args.receipt c.args.core.now c.release_step.new.core c.release_step.ensures;
        store = release_store p c.args.receipt c.args.core.now c.release_step.new.core c.release_step.ensures;
        last = release_last p c.args.receipt c.args.core.now c.release_step.new.core c.release_step.ensures;
      };
    }
