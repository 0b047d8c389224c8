use Rattle.std.proofs.Common.{◌≡◌, ◌≤◌, List, length, false, arith, refl, sym, ap, subst, ◌∙◌}
use Rattle.store_records.specs.Reading.{store_at}
use Rattle.fleet_keeper.specs.declared.step.Step.{Step}
use Rattle.fleet_keeper.specs.Records.{read_all, with_one}
use Rattle.fleet_keeper.specs.Memory.{steps_of, memory_records, memory_down, frames_after, StepImages, StepsSince, is_torn}
use Rattle.fleet_keeper.proofs.Steps.{or_same, grown, New, any_moment, each, done_only, refused_only, stays_whole, more_steps, done_frames, refused_frames, by_ok, down_only, untouched_by}
use Rattle.fleet_keeper.proofs.memory.MemoryKeeperKeeper.keep_spelt.Goals as goal

pub returns-in-Ok-clause-added : goal.returns-in-Ok-clause-added
returns-in-Ok-clause-added c =
    let old = steps_of c.args.self.now in
    let records = memory_records c.args.self.now in
    let room = c.in-Ok.room in
    let rec = c.args.rec.now in
    let put = c.put.ensures in
    let came = c.put.result in
    let new = c.put.new.self in
    let more = grown old room.frames rec c.room_for_spelt.ensures.lawful c.in-Ok.ensures.found.0 in
    record {
      any_moment = λ o since. (
          let there = subst (λ (s : List Step). StepsSince (length old) s o) put.steps since in
          or_same records (New room.frames false old) (with_one records rec) o more (any_moment room.frames false old c.requires.up.whole came o there));
      later = (subst (λ (s : List Step). length old ≤ length s) (sym put.steps) (more_steps room.frames false old came), omega arith);
      each = λ o image. (
          let there = subst (λ (s : List Step). StepImages s o) put.steps image in
          or_same records (New room.frames false old) (with_one records rec) o more (each room.frames false old c.requires.up.whole came o there));
      ok = λ ok o image. (
          let there = subst (λ (s : List Step). StepImages s o) put.steps image in
          done_only room.frames false old c.requires.up.whole came ok o there ∙ more);
      refused = λ refused o image. (
          let there = subst (λ (s : List Step). StepImages s o) put.steps image in
          refused_only room.frames false old c.requires.up.whole came refused o there);
      kept_one = λ ok told. ap (λ (s : List Step). read_all store_at (frames_after s)) put.steps ∙ done_frames room.frames false old came ok ∙ more;
      kept_old = λ refused told. ap (λ (s : List Step). read_all store_at (frames_after s)) put.steps ∙ refused_frames room.frames false old came refused;
      down = (down_only came (memory_down new) (λ no. put.up no ∙ c.requires.up.up), put.down);
      again = λ no. record { up = put.up no ∙ c.requires.up.up; whole = subst (λ (s : List Step). is_torn s ≡ false) (sym put.steps) (stays_whole room.frames false old c.requires.up.whole came no) };
      untouched = untouched_by came put.untouched put.unspent;
      grew = λ ok. put.size ok ∙ c.in-Ok.ensures.found.1;
      same_size = put.same_size;
      generation = by_ok came put.generation put.same_generation;
      side = refl;
      spent = λ is. absurd (put.unspent is);
      unspent = λ past. absurd (c.in-Ok.ensures.found.2 past);
      cause = put.cause;
      twice = put.twice;
      opened = refl;
      within = λ since is. tt;
    }
