-- Each condition of each event, kept once and broken once. Payloads play no part here: where a command's group or answer
-- counts, it is assumed.
use Rattle.std.proofs.Common.{◌≡◌, ◌≢◌, ◌∙◌, inl, inr, ℕ, zero, suc, ◌<◌, ◌^◌, ℤ, pos, [], ◌∷◌, length, arith, refl, sym, ap, subst, codes, true, false, Option, Some, None, Result, Ok, Err}
use Rattle.std.specs.Ordering.{is_lt}
use Rattle.json_read.proofs.of_plain_laws.Booleans.{no_truth}
use Rattle.json_read.proofs.of_plain_laws.Options.{none_some, some_none, some_same}
use Rattle.table_spec.specs.fleet_rows.Defaults.{default_ttls}
use Rattle.table_spec.specs.fleet_rows.Rank.{rank_cmp}
use Rattle.table_spec.specs.fleet_rows.declared.applied.Applied.{Applied}
use Rattle.table_spec.specs.fleet_rows.declared.change.Change.{Change}
use Rattle.table_spec.specs.fleet_rows.declared.change.Change.TheVariants as change
use Rattle.table_spec.specs.fleet_rows.declared.command.Command.{Command}
use Rattle.table_spec.specs.fleet_rows.declared.command.Group.{Group}
use Rattle.table_spec.specs.fleet_rows.declared.command.Kind.TheVariants as kind
use Rattle.table_spec.specs.fleet_rows.declared.refusal.Cause.TheVariants.{Refused, Failures}
use Rattle.table_spec.specs.fleet_rows.declared.refusal.Refusal.{Refusal}
use Rattle.table_spec.specs.fleet_rows.declared.settings.Kinds.{Kinds}
use Rattle.table_spec.specs.fleet_rows.declared.settings.Ttls.{Ttls}
use Rattle.table_spec.specs.history_spec.Lawful.{HasStamp}
use Rattle.table_spec.specs.history_spec.Trace.{applied_as, rank_of}
use Rattle.json_read.proofs.of_stamp_time.RangeLaws.{stamp_in_range}
use Rattle.core_spec.specs.declared.event.Event.TheVariants.{Submit, Claim, Release, Apply, Supersede, Fail, Discard, Sweep, Restart}
use Rattle.core_spec.specs.Commands.{answer_of, Key, key_of}
use Rattle.core_spec.specs.History.{History, queued, claimed}
use Rattle.core_spec.specs.Legal.{May, IfFirst, newest_of, rank_at}

abbrev far : ℤ
far = pos (10 ^ 30)

no_stamp_is_so_late : HasStamp far → ⊥
no_stamp_is_so_late h = (stamp_in_range h.0 far h.1).1.le

module _ (ttls : Ttls) (a b c : Command) where
  abbrev one : History
  one = Submit 1 a ∷ []

  abbrev two : History
  two = Submit 2 b ∷ one

  -- claimed and failed so often
  abbrev failed : ℕ → History
  failed zero = one
  failed (suc n) = Fail 1 n (suc n) ∷ Claim 1 ∷ failed n

  -- ---- submits

  the_first_receipt_is_1 : length a.payload ≡ 16_777_216 → HasStamp a.received → May ttls (Submit 1 a) []
  the_first_receipt_is_1 l m = record { receipt = refl; payload = omega (arith, l); received = m }

  a_receipt_is_left_out : May ttls (Submit 2 a) [] → ⊥
  a_receipt_is_left_out h = omega (arith, h.receipt)

  a_receipt_is_given_twice : May ttls (Submit 1 b) one → ⊥
  a_receipt_is_given_twice h = omega (arith, h.receipt)

  a_payload_is_too_long : length a.payload ≡ 16_777_217 → May ttls (Submit 1 a) [] → ⊥
  a_payload_is_too_long l h = omega (arith, l, h.payload)

  a_command_is_received_too_late : a.received ≡ far → May ttls (Submit 1 a) [] → ⊥
  a_command_is_received_too_late e h = no_stamp_is_so_late (subst HasStamp e h.received)

  -- ---- claims

  a_queued_command_without_a_group_is_claimed : key_of a ≡ None → May ttls (Claim 1) one
  a_queued_command_without_a_group_is_claimed e = record { queued = refl; few = omega arith; first = subst (λ o. IfFirst ttls 1 o one) (sym e) tt }

  an_unknown_command_is_claimed : May ttls (Claim 3) two → ⊥
  an_unknown_command_is_claimed h = let apart = h.queued in cc

  a_command_is_claimed_twice : May ttls (Claim 1) (Claim 1 ∷ two) → ⊥
  a_command_is_claimed_twice h = let apart : claimed ≡ queued = h.queued in cc

  after_fifteen_failures_it_is_claimed : key_of a ≡ None → May ttls (Claim 1) (failed 15)
  after_fifteen_failures_it_is_claimed e = record { queued = refl; few = omega arith; first = subst (λ o. IfFirst ttls 1 o (failed 15)) (sym e) tt }

  a_worn_out_command_is_claimed : May ttls (Claim 1) (failed 16) → ⊥
  a_worn_out_command_is_claimed h = let few : 16 < 16 = h.few in omega (arith, few)

  module _ (g : Group) where
    two_of_a_group_are_claimed : key_of a ≡ Some (g, pos 1) → key_of b ≡ Some (g, pos 2) → May ttls (Claim 2) (Claim 1 ∷ two) → ⊥
    two_of_a_group_are_claimed key_a key_b h = (subst (λ o. IfFirst ttls 2 o (Claim 1 ∷ two)) key_b h.first).alone 1 (pos 1) key_a refl

    the_older_of_a_group_is_claimed : key_of a ≡ Some (g, pos 1) → key_of b ≡ Some (g, pos 2) → May ttls (Claim 1) two → ⊥
    the_older_of_a_group_is_claimed key_a key_b h = no_truth (sym ((subst (λ o. IfFirst ttls 1 o two) key_a h.first).greatest 2 (pos 2) key_b refl))

    of_one_stamp_that_of_the_lesser_receipt_is_claimed : key_of a ≡ Some (g, pos 1) → key_of b ≡ Some (g, pos 1) → May ttls (Claim 1) two → ⊥
    of_one_stamp_that_of_the_lesser_receipt_is_claimed key_a key_b h = no_truth (sym ((subst (λ o. IfFirst ttls 1 o two) key_a h.first).greatest 2 (pos 1) key_b refl))

  -- ---- releases

  a_claimed_command_is_released : May ttls (Release 1) (Claim 1 ∷ two)
  a_claimed_command_is_released = refl

  a_queued_command_is_released : May ttls (Release 1) two → ⊥
  a_queued_command_is_released h = let apart : queued ≡ claimed = h in cc

  -- ---- what is applied

  module _ (t : Option ℤ) where
    a_queued_command_is_applied : May ttls (Apply 1 t) two → ⊥
    a_queued_command_is_applied h = let apart : queued ≡ claimed = h.claimed in cc

    a_command_is_applied_once_more_after_a_restart : May ttls (Apply 1 t) (Restart ∷ Claim 1 ∷ two) → ⊥
    a_command_is_applied_once_more_after_a_restart h = let apart : queued ≡ claimed = h.claimed in cc

    a_refused_command_is_applied : (refusal : Refusal) → answer_of a ≡ Err refusal → May ttls (Apply 1 t) (Claim 1 ∷ two) → ⊥
    a_refused_command_is_applied refusal e h =
        let decodes : answer_of a ≡ Ok h.change = sym (some_same (answer_of a) (Ok h.change) h.decodes) in
        let apart : ◌≡◌ {A = Result Change Refusal} (Err refusal) (Ok h.change) = subst (λ r. r ≡ Ok h.change) e decodes in cc

  module _ (d : Change) (decodes : answer_of a ≡ Ok d) where
    a_command_is_applied_with_its_moment : May ttls (Apply 1 (Some a.received)) (Claim 1 ∷ two)
    a_command_is_applied_with_its_moment = record { command_is = a; change = d; claimed = refl; submitted = refl; decodes = ap (λ r. Some r) decodes; received = inr refl }

    a_command_is_applied_without_a_moment : May ttls (Apply 1 None) (Claim 1 ∷ two)
    a_command_is_applied_without_a_moment = record { command_is = a; change = d; claimed = refl; submitted = refl; decodes = ap (λ r. Some r) decodes; received = inl refl }

  a_command_is_applied_with_another_moment : a.received ≡ pos 1 → May ttls (Apply 1 (Some (pos 2))) (Claim 1 ∷ two) → ⊥
  a_command_is_applied_with_another_moment e h = elim h.received [
    | inl none ↦ some_none (pos 2) none
    | inr same ↦ other (some_same (pos 2) h.command_is.received same) (some_same a h.command_is h.submitted)
  ]
    where
      other : {d : Command} → d.received ≡ pos 2 → d ≡ a → ⊥
      other f g = let apart : pos 2 ≡ pos 1 = sym f ∙ ap (λ (c : Command). c.received) g ∙ e in cc

  -- ---- what is superseded

  a_command_is_superseded_by_one_that_waits : May ttls (Supersede 1 2) two → ⊥
  a_command_is_superseded_by_one_that_waits h = none_some h.newer h.newest

  -- facts of a node with this stamp
  abbrev facts : ℤ → Change
  facts stamp = change.Facts (record { certname = codes "n"; environment = None; values = []; stamp = stamp; producer = None })

  abbrev of_n : Group
  of_n = record { certname = codes "n"; kind = kind.Facts }

  -- the first, with stamp 2, is applied; two others wait
  abbrev applied : History
  applied = Submit 3 c ∷ Submit 2 b ∷ Apply 1 None ∷ Claim 1 ∷ one

  abbrev first : Applied
  first = applied_as 1 None (facts (pos 2))

  module _ (decodes : answer_of a ≡ Ok (facts (pos 2))) where
    newest_is : newest_of ttls of_n applied ≡ Some first
    newest_is = rw decodes refl

    -- 22 days later the node expires, and is purged
    none_is_newest_behind_a_purge : newest_of default_ttls of_n (Sweep (record { expire = true; purge = true; reports = false }) (pos 1_900_800_000_000_000) ∷ applied) ≡ None
    none_is_newest_behind_a_purge = rw decodes refl

    an_older_command_is_superseded : key_of b ≡ Some (of_n, pos 1) → May ttls (Supersede 2 1) applied
    an_older_command_is_superseded key_b = record {
      group = of_n;
      stamp = pos 1;
      newer = first;
      queued = refl;
      key_is = key_b;
      newest = newest_is;
      receipt = refl;
      below = refl;
    }

    a_command_older_than_what_was_applied_is_claimed : key_of b ≡ Some (of_n, pos 1) → May ttls (Claim 2) applied → ⊥
    a_command_older_than_what_was_applied_is_claimed key_b h =
        no_truth (sym ((subst (λ o. IfFirst ttls 2 o applied) key_b h.first).newest first newest_is))

    a_claimed_command_is_superseded : May ttls (Supersede 2 1) (Claim 2 ∷ applied) → ⊥
    a_claimed_command_is_superseded h = let apart : claimed ≡ queued = h.queued in cc

    a_command_without_a_group_is_superseded : key_of b ≡ None → May ttls (Supersede 2 1) applied → ⊥
    a_command_without_a_group_is_superseded key_b h = none_some (h.group, h.stamp) (sym key_b ∙ h.key_is)

    module _ (p : ℕ) (stamp : ℤ) (key_b : key_of b ≡ Some (of_n, stamp)) (h : May ttls (Supersede 2 p) applied) where
      key_is : ◌≡◌ {A = Key} (of_n, stamp) (h.group, h.stamp)
      key_is = sym (some_same (of_n, stamp) (h.group, h.stamp) (sym key_b ∙ h.key_is))

      newer_is : first ≡ h.newer
      newer_is = sym (some_same first h.newer (sym newest_is ∙ ap (λ (k : Key). newest_of ttls k.0 applied) key_is ∙ h.newest))

    a_newer_command_is_superseded : key_of b ≡ Some (of_n, pos 3) → May ttls (Supersede 2 1) applied → ⊥
    a_newer_command_is_superseded key_b h =
        no_truth ((λ i. is_lt (rank_cmp (rank_at (key_is 1 (pos 3) key_b h i).1 2) (rank_of (newer_is 1 (pos 3) key_b h i)))) ∙ h.below)

    a_command_is_superseded_by_another_than_the_newest : key_of b ≡ Some (of_n, pos 1) → May ttls (Supersede 2 3) applied → ⊥
    a_command_is_superseded_by_another_than_the_newest key_b h =
        let receipt : 3 ≡ 1 = h.receipt ∙ ap (λ (x : Applied). x.receipt) (sym (newer_is 3 (pos 1) key_b h)) in omega (arith, receipt)

  -- ---- failures

  a_claimed_command_fails : May ttls (Fail 1 0 1) (Claim 1 ∷ two)
  a_claimed_command_fails = (refl, inl (omega arith), tt)

  a_queued_command_fails : May ttls (Fail 1 0 1) two → ⊥
  a_queued_command_fails h = let apart : queued ≡ claimed = h.0 in cc

  a_count_stands_still : May ttls (Fail 1 3 3) (Claim 1 ∷ two) → ⊥
  a_count_stands_still h = elim h.1 [ inl less ↦ omega (arith, less) | inr ends ↦ omega (arith, ends.0) ]

  a_count_stands_at_its_last_value : May ttls (Fail 1 18_446_744_073_709_551_615 18_446_744_073_709_551_615) (Claim 1 ∷ two)
  a_count_stands_at_its_last_value = (refl, inr (refl, refl), tt)

  a_span_overlaps_the_one_before : May ttls (Fail 1 0 2) (Claim 1 ∷ Fail 1 0 1 ∷ Claim 1 ∷ two) → ⊥
  a_span_overlaps_the_one_before h = omega (arith, h.2.0)

  a_span_begins_where_the_one_before_ends : May ttls (Fail 1 1 2) (Claim 1 ∷ Fail 1 0 1 ∷ Claim 1 ∷ two)
  a_span_begins_where_the_one_before_ends = (refl, inl (omega arith), (omega arith, tt))

  a_restart_begins_the_count_anew : May ttls (Fail 1 0 1) (Claim 1 ∷ Restart ∷ Fail 1 0 1 ∷ Claim 1 ∷ two)
  a_restart_begins_the_count_anew = (refl, inl (omega arith), tt)

  -- ---- discards

  module _ (refusal : Refusal) where
    a_claimed_command_is_refused : answer_of a ≡ Err refusal → May ttls (Discard 1 (Refused refusal)) (Claim 1 ∷ two)
    a_claimed_command_is_refused e = (refl, ap (λ r. Some r) e)

    a_queued_command_is_refused : May ttls (Discard 1 (Refused refusal)) two → ⊥
    a_queued_command_is_refused h = let apart : queued ≡ claimed = h.0 in cc

    a_command_that_decodes_is_refused : (d : Change) → answer_of a ≡ Ok d → May ttls (Discard 1 (Refused refusal)) (Claim 1 ∷ two) → ⊥
    a_command_that_decodes_is_refused d e h =
        let apart : ◌≡◌ {A = Result Change Refusal} (Ok d) (Err refusal) = sym e ∙ sym (some_same (answer_of a) (Err refusal) h.1) in cc

    a_command_is_refused_for_another_fault : (other : Refusal) → refusal ≢ other → answer_of a ≡ Err other → May ttls (Discard 1 (Refused refusal)) (Claim 1 ∷ two) → ⊥
    a_command_is_refused_for_another_fault other differ e h =
        let same : ◌≡◌ {A = Result Change Refusal} (Err other) (Err refusal) = sym e ∙ sym (some_same (answer_of a) (Err refusal) h.1) in differ cc

  a_command_is_given_up_after_sixteen_failures : May ttls (Discard 1 Failures) (failed 16)
  a_command_is_given_up_after_sixteen_failures = (refl, refl)

  a_command_is_given_up_after_fifteen_failures : May ttls (Discard 1 Failures) (failed 15) → ⊥
  a_command_is_given_up_after_fifteen_failures h = let many : 15 ≡ 16 = h.1 in omega (arith, many)

  a_claimed_command_is_given_up : May ttls (Discard 1 Failures) (Claim 1 ∷ failed 16) → ⊥
  a_claimed_command_is_given_up h = let apart : claimed ≡ queued = h.0 in cc

  -- ---- sweeps and restarts

  a_sweep_has_a_moment_that_a_stamp_names : (kinds : Kinds) (m : ℤ) → HasStamp m → May ttls (Sweep kinds m) two
  a_sweep_has_a_moment_that_a_stamp_names kinds m h = h

  a_sweep_is_too_late : (kinds : Kinds) → May ttls (Sweep kinds far) two → ⊥
  a_sweep_is_too_late kinds h = no_stamp_is_so_late h

  a_restart_may_come_at_any_time : May ttls Restart (Claim 1 ∷ two)
  a_restart_may_come_at_any_time = tt
