use Rattle.std.proofs.Common.{◌≡◌, ℕ, List, Option, Some, length, true, false, ap, subst, ◌∙◌}
use Rattle.core_spec.specs.record_spec.declared.store.StoreRecord.{StoreRecord}
use Rattle.store_records.specs.Reading.{store_at}
use Rattle.fleet_keeper.specs.declared.step.Step.{Step}
use Rattle.fleet_keeper.specs.Records.{read_all, with_one}
use Rattle.fleet_keeper.specs.Memory.{steps_of, memory_records, frames_after, StepImages, StepsSince}
use Rattle.fleet_keeper.proofs.Steps.{or_same, grown, New, any_moment, each, done_only, done_frames}
use Rattle.fleet_keeper.proofs.memory.MemoryKeeperKeeper.keep.Goals as goal

pub returns-in-Ok-clause-any_moment : goal.returns-in-Ok-clause-any_moment
returns-in-Ok-clause-any_moment c o since =
    let old = steps_of c.args.self.now in
    let room = c.in-Ok.room in
    let there = subst (λ (s : List Step). StepsSince (length old) s o) c.put.ensures.steps since in
    or_same (memory_records c.args.self.now) (New room.frames false old) (with_one (memory_records c.args.self.now) c.args.rec.now) o (grown old room.frames c.args.rec.now c.requires.fits c.in-Ok.ensures.found.0) (any_moment room.frames false old c.requires.up.whole c.put.result o there)

pub returns-in-Ok-clause-each : goal.returns-in-Ok-clause-each
returns-in-Ok-clause-each c o image =
    let old = steps_of c.args.self.now in
    let room = c.in-Ok.room in
    let there = subst (λ (s : List Step). StepImages s o) c.put.ensures.steps image in
    or_same (memory_records c.args.self.now) (New room.frames false old) (with_one (memory_records c.args.self.now) c.args.rec.now) o (grown old room.frames c.args.rec.now c.requires.fits c.in-Ok.ensures.found.0) (each room.frames false old c.requires.up.whole c.put.result o there)

pub returns-in-Ok-clause-ok : goal.returns-in-Ok-clause-ok
returns-in-Ok-clause-ok c ok o image =
    let old = steps_of c.args.self.now in
    let room = c.in-Ok.room in
    let there = subst (λ (s : List Step). StepImages s o) c.put.ensures.steps image in
    done_only room.frames false old c.requires.up.whole c.put.result ok o there ∙ grown old room.frames c.args.rec.now c.requires.fits c.in-Ok.ensures.found.0

pub returns-in-Ok-clause-kept_one : goal.returns-in-Ok-clause-kept_one
returns-in-Ok-clause-kept_one c ok =
    let old = steps_of c.args.self.now in
    let room = c.in-Ok.room in
    ap (λ (s : List Step). read_all store_at (frames_after s)) c.put.ensures.steps ∙ done_frames room.frames false old c.put.result ok ∙ grown old room.frames c.args.rec.now c.requires.fits c.in-Ok.ensures.found.0
