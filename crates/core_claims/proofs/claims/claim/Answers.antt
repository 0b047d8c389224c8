use Rattle.core_state.proofs.Ports.{Ports}
use Rattle.core_claims.proofs.ClaimAnswers.{claim_gives, claim_stands, claim_moments, claim_sound, claim_submitted, claim_job, claim_others, claim_store, claim_down, claim_unchanged, claim_adds, claim_nothing, claim_waits, claim_twice, claim_unspent, claim_spent, claim_cause, claim_up}
use Rattle.core_claims.proofs.claims.claim.Goals as goal

pub returns : goal.returns
returns g c =
    let p : Ports g.row.D.Denot g.row.K.Denot = record {
      tells = g.D.Disk.is_told;
      seen = g.D.Disk.seen;
      may_leave = g.D.Disk.may_leave;
      moment = g.D.Disk.moment;
      left_since = g.D.Disk.left_since;
      faults = g.D.Disk.fault_count;
      told = g.met.D.Disk.told;
      told_since = g.met.D.Disk.told_since;
      only_now = g.met.D.Disk.only_now;
      store_tells = g.K.Keeper.is_told;
      kept = g.K.Keeper.kept;
      images = g.K.Keeper.images;
      store_moment = g.K.Keeper.moment;
      images_since = g.K.Keeper.images_since;
      store_up = g.K.Keeper.is_up;
      store_down = g.K.Keeper.down;
      store_size = g.K.Keeper.size;
      store_generation = g.K.Keeper.generation;
      store_opened = g.K.Keeper.opened;
      store_within = g.K.Keeper.is_within;
      store_faults = g.K.Keeper.fault_count;
      store_told = g.met.K.Keeper.told;
      store_told_since = g.met.K.Keeper.told_since;
      store_only_now = g.met.K.Keeper.only_now;
      store_stands = g.met.K.Keeper.stands;
    } in
    record {
      does = record {
        adds = claim_adds p c.args.core.now c.claim_step.new.core c.claim_step.result c.claim_step.ensures.does;
        gives = λ start stands. claim_gives p c.args.core.now c.claim_step.new.core start stands c.claim_step.result c.claim_step.ensures.does;
        stands = λ start stands. claim_stands p c.args.core.now c.claim_step.new.core start stands c.claim_step.result c.claim_step.ensures.does;
        any_moment = λ start stands up. claim_moments p c.args.core.now c.claim_step.new.core start stands c.requires.sound c.claim_step.result c.claim_step.ensures.does up;
        sound = claim_sound p c.args.core.now c.claim_step.new.core c.requires.sound c.claim_step.result c.claim_step.ensures.does;
        submitted = λ r b. claim_submitted p c.args.core.now c.claim_step.new.core c.claim_step.result c.claim_step.ensures.does r b;
        job = claim_job p c.args.core.now c.claim_step.new.core c.claim_step.result c.claim_step.ensures.does;
        others = claim_others p c.args.core.now c.claim_step.new.core c.claim_step.result c.claim_step.ensures.does;
        store = claim_store p c.args.core.now c.claim_step.new.core c.claim_step.result c.claim_step.ensures.does;
        nothing = claim_nothing p c.args.core.now c.claim_step.new.core c.claim_step.result c.claim_step.ensures.does;
        waits = claim_waits p c.args.core.now c.claim_step.new.core c.claim_step.result c.claim_step.ensures.does;
        down = claim_down p c.args.core.now c.claim_step.new.core c.claim_step.result c.claim_step.ensures.does;
        unchanged = claim_unchanged p c.args.core.now c.claim_step.new.core c.claim_step.result c.claim_step.ensures.does;
        spent = λ start stands. claim_spent p c.args.core.now c.claim_step.new.core start stands c.claim_step.result c.claim_step.ensures.does;
        unspent = λ start stands up over. claim_unspent p c.args.core.now c.claim_step.new.core start stands c.claim_step.result c.claim_step.ensures.does up over;
        cause = claim_cause p c.args.core.now c.claim_step.new.core c.claim_step.result c.claim_step.ensures.does;
        twice = claim_twice p c.args.core.now c.claim_step.new.core c.claim_step.result c.claim_step.ensures.does;
        up = claim_up p c.args.core.now c.claim_step.new.core c.claim_step.result c.claim_step.ensures.does;
      };
    }
