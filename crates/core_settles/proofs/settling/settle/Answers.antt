use Rattle.core_claims.proofs.of_core_state.Ports.{Ports}
use Rattle.core_settles.proofs.Outcomes.{Outcome, outcome}
use Rattle.core_settles.proofs.SettledHistory.{settle_gives, settle_stands, settle_images, settle_moments}
use Rattle.core_settles.proofs.SettledLogs.{settle_writes, settle_stores, settle_unspent}
use Rattle.core_settles.proofs.SettledParts.{settle_adds, settle_keeper, settle_later, settle_sound, settle_submitted, settle_opening, settle_down, settle_unclaimed, settle_left, settle_waits, settle_refusals, settle_cause, settle_twice, settle_rose, settle_store_down, settle_up}
use Rattle.core_settles.proofs.SettledSpellings.{settle_spelling}
use Rattle.core_settles.proofs.settling.settle.Goals as goal

pub returns : goal.returns
returns g c =
    let p : Ports g.row.D.Denot g.row.K.Denot = record {
      tells = g.D.Disk.is_told;
      seen = g.D.Disk.seen;
      may_leave = g.D.Disk.may_leave;
      moment = g.D.Disk.moment;
      left_since = g.D.Disk.left_since;
      faults = g.D.Disk.fault_count;
      told = g.met.D.Disk.told;
      told_since = g.met.D.Disk.told_since;
      only_now = g.met.D.Disk.only_now;
      store_tells = g.K.Keeper.is_told;
      kept = g.K.Keeper.kept;
      images = g.K.Keeper.images;
      store_moment = g.K.Keeper.moment;
      images_since = g.K.Keeper.images_since;
      store_up = g.K.Keeper.is_up;
      store_down = g.K.Keeper.down;
      store_size = g.K.Keeper.size;
      store_generation = g.K.Keeper.generation;
      store_opened = g.K.Keeper.opened;
      store_within = g.K.Keeper.is_within;
      store_faults = g.K.Keeper.fault_count;
      store_told = g.met.K.Keeper.told;
      store_told_since = g.met.K.Keeper.told_since;
      store_only_now = g.met.K.Keeper.only_now;
      store_stands = g.met.K.Keeper.stands;
    } in
    let o : Outcome p c.args.job c.args.core.now c.settle_step.new.core c.settle_step.result c.args.verdict = outcome p c.args.job c.args.core.now c.settle_step.new.core c.settle_step.result c.args.verdict c.settle_step.ensures.does in
    record {
      does = record {
        adds = settle_adds p c.args.job c.args.core.now c.settle_step.new.core c.settle_step.result c.args.verdict o;
        queue_writes = settle_writes p c.args.job c.args.core.now c.settle_step.new.core c.settle_step.result c.args.verdict o;
        store_writes = settle_stores p c.args.job c.args.core.now c.settle_step.new.core c.settle_step.result c.args.verdict o;
        gives = λ start stands. settle_gives p c.args.job c.args.core.now c.settle_step.new.core start c.requires.sound stands c.requires.submitted c.settle_step.result c.args.verdict o;
        stands = λ start stands. settle_stands p c.args.job c.args.core.now c.settle_step.new.core start c.requires.sound stands c.requires.submitted c.settle_step.result c.args.verdict o c.requires.decodes;
        any_moment = λ start stands up. settle_moments p c.args.job c.args.core.now c.settle_step.new.core start c.requires.sound stands c.requires.submitted c.settle_step.result c.args.verdict o c.requires.decodes up;
        each_image = λ start stands q s q_image s_image. settle_images p c.args.job c.args.core.now c.settle_step.new.core start c.requires.sound stands c.requires.submitted q s q_image s_image c.settle_step.result c.args.verdict o c.requires.decodes;
        sound = settle_sound p c.args.job c.args.core.now c.settle_step.new.core c.requires.sound c.settle_step.result c.args.verdict o;
        spelling = λ spelling. settle_spelling p c.args.job c.args.core.now c.settle_step.new.core c.requires.fit spelling c.settle_step.result c.args.verdict c.requires.decodes o;
        kept_submitted = λ r b. settle_submitted p c.args.job c.args.core.now c.settle_step.new.core c.settle_step.result c.args.verdict o r b;
        opening = settle_opening p c.args.job c.args.core.now c.settle_step.new.core c.settle_step.result c.args.verdict o;
        keeper = settle_keeper p c.args.job c.args.core.now c.settle_step.new.core c.settle_step.result c.args.verdict o;
        down = settle_down p c.args.job c.args.core.now c.settle_step.new.core c.settle_step.result c.args.verdict o;
        not_claimed = settle_unclaimed p c.args.job c.args.core.now c.settle_step.new.core c.settle_step.result c.args.verdict o;
        unspent = λ up claimed s. settle_unspent p c.args.job c.args.core.now c.settle_step.new.core c.settle_step.result c.args.verdict c.settle_step.ensures.does up claimed s;
        leaves = settle_left p c.args.job c.args.core.now c.settle_step.new.core c.settle_step.result c.args.verdict o;
        waits = settle_waits p c.args.job c.args.core.now c.settle_step.new.core c.settle_step.result c.args.verdict o;
        refusals = λ refusal e. settle_refusals p c.args.job c.args.core.now c.settle_step.new.core c.settle_step.result c.args.verdict o refusal e;
        cause = settle_cause p c.args.job c.args.core.now c.settle_step.new.core c.settle_step.result c.args.verdict o;
        twice = λ up down. settle_twice p c.args.job c.args.core.now c.settle_step.new.core c.settle_step.result c.args.verdict o up down;
        store_cause = settle_rose p c.args.job c.args.core.now c.settle_step.new.core c.settle_step.result c.args.verdict o;
        store_later = settle_later p c.args.job c.args.core.now c.settle_step.new.core c.settle_step.result c.args.verdict o;
        store_down = λ up. settle_store_down p c.args.job c.args.core.now c.settle_step.new.core c.settle_step.result c.args.verdict o up;
        up = λ a b. settle_up p c.args.job c.args.core.now c.settle_step.new.core c.settle_step.result c.args.verdict o a b;
      };
    }
