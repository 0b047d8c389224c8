use Rattle.std.proofs.Common.{◌≡◌, ◌⊎◌, ℕ, List, [], ◌∷◌, ◌++◌, Some, length, inl, inr, refl, sym, ap, subst, ◌≤◌, ◌+◌, ◌∙◌}
use Rattle.log_pair.specs.record_log.declared.put.Appended.{Appended}
use Rattle.log_pair.specs.record_log.Log.{IsRefusal}
use Rattle.log_pair.specs.log_spec.declared.side.Side.{Side}
use Rattle.log_pair.specs.Pair.{side_of, size_of_pair, disk_a, disk_b, pair_frames}
use Rattle.log_pair.specs.Turns.{IsEither, old_image, grown_image}
use Rattle.core_spec.specs.record_spec.Store.{store_text, IsStoreRecord}
use Rattle.store_records.specs.Reading.{store_at}
use Rattle.fleet_keeper.specs.declared.kept.Kept.{Kept}
use Rattle.fleet_keeper.specs.declared.kept.Kept.TheVariants as kept
use Rattle.fleet_keeper.specs.Kept as answer
use Rattle.fleet_keeper.specs.Answers.{of_append, faults_in}
use Rattle.fleet_keeper.specs.Keeper.{pair_of}
use Rattle.fleet_keeper.specs.Laws.{seen_image}
use Rattle.fleet_keeper.specs.Limits.{IsPast}
use Rattle.fleet_keeper.specs.Pairs.{pair_records}
use Rattle.fleet_keeper.specs.Records.{with_one}
use Rattle.fleet_keeper.proofs.Keeps.{any_moment, either, all_are, later_within, append_ok, append_down, append_too_long, append_refused, append_untouched, by_append, not_faulty}
use Rattle.fleet_keeper.proofs.Readings.{reads_more}
use Rattle.store_records.proofs.Records.{store_again}
use Rattle.fleet_keeper.proofs.Within.{append_within}
use Rattle.fleet_keeper.proofs.log_keeper.LogKeeperKeeper.keep_spelt.Goals as goal

pub returns : goal.returns
returns g c =
    let d = g.D.Disk in
    let before = c.args.self.now in
    let old = pair_of before in
    let new = c.append-answer.new.self in
    let came = c.append-answer.result in
    let does = c.append-answer.ensures in
    let tells = c.appended.ensures in
    let rec = c.args.rec.now in
    let frame = c.as_slice.result.now in
    let spelt : frame ≡ store_text rec = c.as_slice.ensures ∙ c.rec.invariant.1 ∙ ap store_text c.rec.view_is in
    let lawful : IsStoreRecord rec = subst IsStoreRecord c.rec.view_is c.rec.invariant.0 in
    let is : store_at frame ≡ Some rec = ap store_at spelt ∙ store_again rec lawful in
    let more = reads_more store_at (pair_frames d.seen old) frame rec is in
    record {
      added = record {
        any_moment = any_moment store_at (old_image d.seen old) (grown_image d.seen old frame) (pair_records store_at d.seen old) (with_one (pair_records store_at d.seen old) rec) refl more
            d.may_leave d.moment d.left_since g.met.D.Disk.only_now (side_of old) old new does.any_moment;
        later = later_within d.may_leave d.moment d.left_since (side_of old) old new (IsEither (old_image d.seen old) (grown_image d.seen old frame)) does.any_moment;
        each = λ o image. by_append came
            (λ ok. inr (all_are store_at (pair_frames d.seen old ++ frame ∷ []) d.may_leave new (does.ok ok) o image ∙ more))
            (λ down. either store_at (old_image d.seen old) (grown_image d.seen old frame) (pair_records store_at d.seen old) (with_one (pair_records store_at d.seen old) rec) refl more d.may_leave new (does.open_gate down) o image)
            (λ refused. inl (all_are store_at (pair_frames d.seen old) d.may_leave new (does.refused refused) o image));
        ok = λ ok o image. all_are store_at (pair_frames d.seen old ++ frame ∷ []) d.may_leave new (does.ok (append_ok came (sym tells.answer ∙ ok))) o image ∙ more;
        refused = λ refused o image. all_are store_at (pair_frames d.seen old) d.may_leave new (does.refused (append_refused came (subst (λ (k : Kept). answer.IsRefusal k) tells.answer refused))) o image;
        kept_one = λ ok told. (
            let done = append_ok came (sym tells.answer ∙ ok) in
            let up = does.again (λ down. let no = sym done ∙ down in cc) in
            let image = seen_image store_at d.seen d.may_leave new up (g.met.D.Disk.seen_may_stay (disk_a new) told) (g.met.D.Disk.seen_may_stay (disk_b new) told) in
            all_are store_at (pair_frames d.seen old ++ frame ∷ []) d.may_leave new (does.ok done) (pair_records store_at d.seen new) image ∙ more);
        kept_old = λ refused told. (
            let there = append_refused came (subst (λ (k : Kept). answer.IsRefusal k) tells.answer refused) in
            let up = does.again (λ down. subst (λ (a : Appended). IsRefusal a) down there) in
            let image = seen_image store_at d.seen d.may_leave new up (g.met.D.Disk.seen_may_stay (disk_a new) told) (g.met.D.Disk.seen_may_stay (disk_b new) told) in
            all_are store_at (pair_frames d.seen old) d.may_leave new (does.refused there) (pair_records store_at d.seen new) image);
        down = (λ is. tells.answer ∙ ap of_append (does.down.0 is), λ is. does.down.1 (append_down came (sym tells.answer ∙ is)));
        again = λ no. does.again (λ down. no (tells.answer ∙ ap of_append down));
        untouched = λ is. (
            let pair = does.untouched (append_untouched came (subst (λ (k : Kept). (k ≡ kept.Memory) ⊎ (k ≡ kept.Spent)) tells.answer is)) in
            let faults = tells.cause.calm (not_faulty c.appended.result is) in
            λ i. record { pair = pair i; faults = faults i; opened_a = before.opened_a; opened_b = before.opened_b });
        grew = λ ok. does.grew (append_ok came (sym tells.answer ∙ ok)) ∙ ap (λ (text : List ℕ). size_of_pair old + 5 + length text) spelt;
        same_size = λ no. does.same_size (λ ok. no (tells.answer ∙ ap of_append ok));
        generation = does.generation;
        side = ap (λ (side : Side). Some side) does.side;
        spent = λ is. subst (λ (text : List ℕ). IsPast (size_of_pair old) text) spelt (does.too_long.0 (append_too_long came (sym tells.answer ∙ is)));
        unspent = λ past. inl (tells.answer ∙ ap of_append (does.too_long.1 (subst (λ (text : List ℕ). IsPast (size_of_pair old) text) (sym spelt) past)));
        cause = tells.cause;
        twice = tells.twice;
        opened = refl;
        within = λ since is. (
            let count = before.faults in
            let more = c.appended.new.faults in
            let most : more ≤ count + faults_in (of_append came) = subst (λ (k : Kept). more ≤ count + faults_in k) tells.answer tells.most in
            append_within d.fault_count old new since count more is came does.side does.any_moment.untouched does.cause does.twice does.down.0 most);
      };
    }
