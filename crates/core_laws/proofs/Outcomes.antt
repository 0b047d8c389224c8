-- Each command that was submitted has one outcome, and an ending stays.
use Rattle.std.proofs.Common.{◌≡◌, ◌∙◌, ℕ, suc, ◌==◌, List, [], ◌∷◌, ◌++◌, arith, refl, sym, ap, subst, map, Bool, true, false, if◌then◌else◌, Option, Some, None}
use Rattle.std.specs.Prelude.{is_some}
use Rattle.std.specs.List.{Contains}
use Rattle.core_machine.proofs.of_plain_laws.Booleans.{no_truth, eq_is}
use Rattle.core_machine.proofs.of_plain_laws.Options.{none_some, some_same}
use Rattle.core_machine.specs.fleet_rows.declared.command.Command.{Command}
use Rattle.core_machine.specs.fleet_rows.declared.refusal.Cause.TheVariants.{Refused, Failures}
use Rattle.core_machine.specs.fleet_rows.declared.settings.Ttls.{Ttls}
use Rattle.checkpoint_spec.proofs.of_history_laws.Members.{Among, Among-from_Contains, Contains-from_Among, Among-map, Among-from_map}
use Rattle.core_machine.specs.core_spec.declared.event.Event.TheVariants.{Submit, Claim, Release, Apply, Supersede, Fail, Discard, Sweep, Restart}
use Rattle.core_machine.specs.core_spec.declared.entry.Entry.{Entry}
use Rattle.core_machine.specs.core_spec.History.{History, Standing, unknown, queued, claimed, applied, superseded, discarded, requeued, command, standing}
use Rattle.core_machine.specs.core_spec.Legal.{IsLegal}
use Rattle.core_machine.specs.core_spec.Pending.{pending_of}
use Rattle.core_machine.proofs.Receipts.{receipts_are_new}
use Rattle.core_laws.specs.Outcomes as outcomes
use Rattle.core_laws.specs.Outcomes.{outcome_of, outcome, has_ended, endings, SubmittedCommandsHaveAnOutcome, CommandsEndOnce, EndingsStay, PendingCommandsWait, AllHaveEndedWhereNothingWaits, EarlierPartsAreLegal}
use Rattle.core_laws.proofs.Endings.{IsEnded, ended_stays}
use Rattle.core_laws.proofs.Entries.{IsKnown, HasCommand, standing_if, known_is_submitted, entry_is_of, has_entry}
use Rattle.core_laws.proofs.Waiting.{IsWaiting}

-- ---- an outcome exactly where a command was submitted

known_if : (b : Bool) (after s : Standing) → IsKnown after → IsKnown s → IsKnown (if b then after else s)
known_if true after s h k = h
known_if false after s h k = k

requeued_known : (s : Standing) → IsKnown s → IsKnown (requeued s)
requeued_known unknown k = k
requeued_known queued k = tt
requeued_known claimed k = tt
requeued_known applied k = tt
requeued_known (superseded p) k = tt
requeued_known (discarded cause) k = tt

submit_step : (b : Bool) (c : Command) (o : Option Command) (s : Standing) → HasCommand (if b then Some c else o) → (HasCommand o → IsKnown s) → IsKnown (if b then queued else s)
submit_step true c o s h next = tt
submit_step false c o s h next = next h

submitted_is_known : (events : History) (r : ℕ) → HasCommand (command r events) → IsKnown (standing r events)
submitted_is_known [] r h = absurd h
submitted_is_known (Submit q c ∷ earlier) r h = submit_step (q == r) c (command r earlier) (standing r earlier) h (submitted_is_known earlier r)
submitted_is_known (Claim q ∷ earlier) r h = known_if (q == r) claimed (standing r earlier) tt (submitted_is_known earlier r h)
submitted_is_known (Release q ∷ earlier) r h = known_if (q == r) queued (standing r earlier) tt (submitted_is_known earlier r h)
submitted_is_known (Apply q t ∷ earlier) r h = known_if (q == r) applied (standing r earlier) tt (submitted_is_known earlier r h)
submitted_is_known (Supersede q p ∷ earlier) r h = known_if (q == r) (superseded p) (standing r earlier) tt (submitted_is_known earlier r h)
submitted_is_known (Fail q before after ∷ earlier) r h = known_if (q == r) queued (standing r earlier) tt (submitted_is_known earlier r h)
submitted_is_known (Discard q cause ∷ earlier) r h = known_if (q == r) (discarded cause) (standing r earlier) tt (submitted_is_known earlier r h)
submitted_is_known (Sweep kinds m ∷ earlier) r h = submitted_is_known earlier r h
submitted_is_known (Restart ∷ earlier) r h = requeued_known (standing r earlier) (submitted_is_known earlier r h)

both_there : (s : Standing) (o : Option Command) → (IsKnown s → HasCommand o) → (HasCommand o → IsKnown s) → is_some (outcome_of s) ≡ is_some o
both_there unknown None h g = refl
both_there unknown (Some c) h g = absurd (g tt)
both_there queued None h g = absurd (h tt)
both_there queued (Some c) h g = refl
both_there claimed None h g = absurd (h tt)
both_there claimed (Some c) h g = refl
both_there applied None h g = absurd (h tt)
both_there applied (Some c) h g = refl
both_there (superseded p) None h g = absurd (h tt)
both_there (superseded p) (Some c) h g = refl
both_there (discarded cause) None h g = absurd (h tt)
both_there (discarded cause) (Some c) h g = refl

pub submitted_commands_have_an_outcome : SubmittedCommandsHaveAnOutcome
submitted_commands_have_an_outcome ttls events r l =
    both_there (standing r events) (command r events) (known_is_submitted ttls r events l) (submitted_is_known events r)

-- ---- one ending

abbrev ended : Standing → ℕ
ended s = if has_ended (outcome_of s) then 1 else 0

-- an event that names a command which hasn't ended, and doesn't end it
as_many : (b : Bool) (q r : ℕ) (s after : Standing) (earlier : History) (n : ℕ) → (q == r) ≡ b → standing q earlier ≡ s → ended s ≡ 0 → ended after ≡ 0 → n ≡ ended (standing r earlier)
    → n ≡ ended (if b then after else standing r earlier)
as_many true q r s after earlier n e h none still h_n = h_n ∙ ap (λ k. ended (standing k earlier)) (sym (eq_is q r e)) ∙ ap ended h ∙ none ∙ sym still
as_many false q r s after earlier n e h none still h_n = h_n

-- or ends it
one_more : (b : Bool) (q r : ℕ) (s after : Standing) (earlier : History) (n : ℕ) → (q == r) ≡ b → standing q earlier ≡ s → ended s ≡ 0 → ended after ≡ 1 → n ≡ ended (standing r earlier)
    → (if b then suc n else n) ≡ ended (if b then after else standing r earlier)
one_more true q r s after earlier n e h none now h_n = ap suc (h_n ∙ ap (λ k. ended (standing k earlier)) (sym (eq_is q r e)) ∙ ap ended h ∙ none) ∙ sym now
one_more false q r s after earlier n e h none now h_n = h_n

requeued_ended : (s : Standing) → ended s ≡ ended (requeued s)
requeued_ended unknown = refl
requeued_ended queued = refl
requeued_ended claimed = refl
requeued_ended applied = refl
requeued_ended (superseded p) = refl
requeued_ended (discarded cause) = refl

pub commands_end_once : CommandsEndOnce
commands_end_once ttls [] r l = refl
commands_end_once ttls (Submit q c ∷ earlier) r l =
    as_many (q == r) q r unknown queued earlier (endings r earlier) refl (receipts_are_new ttls earlier q l.1 (λ p. omega (arith, l.0.receipt))).unknown refl refl (commands_end_once ttls earlier r l.1)
commands_end_once ttls (Claim q ∷ earlier) r l = as_many (q == r) q r queued claimed earlier (endings r earlier) refl l.0.queued refl refl (commands_end_once ttls earlier r l.1)
commands_end_once ttls (Release q ∷ earlier) r l = as_many (q == r) q r claimed queued earlier (endings r earlier) refl l.0 refl refl (commands_end_once ttls earlier r l.1)
commands_end_once ttls (Apply q t ∷ earlier) r l = one_more (q == r) q r claimed applied earlier (endings r earlier) refl l.0.claimed refl refl (commands_end_once ttls earlier r l.1)
commands_end_once ttls (Supersede q p ∷ earlier) r l = one_more (q == r) q r queued (superseded p) earlier (endings r earlier) refl l.0.queued refl refl (commands_end_once ttls earlier r l.1)
commands_end_once ttls (Fail q before after ∷ earlier) r l = as_many (q == r) q r claimed queued earlier (endings r earlier) refl l.0.0 refl refl (commands_end_once ttls earlier r l.1)
commands_end_once ttls (Discard q (Refused refusal) ∷ earlier) r l =
    one_more (q == r) q r claimed (discarded (Refused refusal)) earlier (endings r earlier) refl l.0.0 refl refl (commands_end_once ttls earlier r l.1)
commands_end_once ttls (Discard q Failures ∷ earlier) r l =
    one_more (q == r) q r queued (discarded Failures) earlier (endings r earlier) refl l.0.0 refl refl (commands_end_once ttls earlier r l.1)
commands_end_once ttls (Sweep kinds m ∷ earlier) r l = commands_end_once ttls earlier r l.1
commands_end_once ttls (Restart ∷ earlier) r l = commands_end_once ttls earlier r l.1 ∙ requeued_ended (standing r earlier)

-- ---- an ending stays

is_ended : (s : Standing) → has_ended (outcome_of s) ≡ true → IsEnded s
is_ended unknown h = no_truth h
is_ended queued h = no_truth h
is_ended claimed h = no_truth h
is_ended applied h = tt
is_ended (superseded p) h = tt
is_ended (discarded cause) h = tt

stays : (ttls : Ttls) (later earlier : History) (r : ℕ) → IsLegal ttls (later ++ earlier) → IsEnded (standing r earlier) → standing r (later ++ earlier) ≡ standing r earlier
stays ttls [] earlier r l h = refl
stays ttls (e ∷ later) earlier r l h =
    let rest = stays ttls later earlier r l.1 h in
    ended_stays ttls e (later ++ earlier) r l (subst IsEnded (sym rest) h) ∙ rest

pub endings_stay : EndingsStay
endings_stay ttls later earlier r l h = ap outcome_of (stays ttls later earlier r l (is_ended (standing r earlier) h))

pub earlier_parts_are_legal : EarlierPartsAreLegal
earlier_parts_are_legal ttls [] earlier l = l
earlier_parts_are_legal ttls (e ∷ later) earlier l = earlier_parts_are_legal ttls later earlier l.1

-- ---- what is pending waits

pending_waits : (s : Standing) → outcome_of s ≡ Some outcomes.pending → IsWaiting s
pending_waits unknown h = none_some outcomes.pending h
pending_waits queued h = tt
pending_waits claimed h = tt
pending_waits applied h = absurd (let same = some_same outcomes.applied outcomes.pending h in cc)
pending_waits (superseded p) h = absurd (let same = some_same (outcomes.superseded_by p) outcomes.pending h in cc)
pending_waits (discarded cause) h = absurd (let same = some_same (outcomes.discarded cause) outcomes.pending h in cc)

entry_pends : (b : Bool) → outcome_of (standing_if b) ≡ Some outcomes.pending
entry_pends true = refl
entry_pends false = refl

abbrev receipt_of : Entry → ℕ
receipt_of e = e.receipt

pub pending_commands_wait : PendingCommandsWait
pending_commands_wait ttls events r l = (there, back)
  where
    there : outcome r events ≡ Some outcomes.pending → Contains (map (λ (e : Entry). e.receipt) (pending_of events)) r
    there h =
        let has = has_entry ttls r events l (pending_waits (standing r events) h) in
        Contains-from_Among (map receipt_of (pending_of events)) r (subst (λ n. Among n (map receipt_of (pending_of events))) has.receipt (Among-map receipt_of (pending_of events) has.entry has.among))

    back : Contains (map (λ (e : Entry). e.receipt) (pending_of events)) r → outcome r events ≡ Some outcomes.pending
    back h =
        let from = Among-from_map receipt_of (pending_of events) r (Among-from_Contains (map receipt_of (pending_of events)) r h) in
        ap (λ n. outcome n events) from.2 ∙ ap outcome_of (entry_is_of ttls events from.0 l from.1).stands ∙ entry_pends from.0.claimed

ended_or_waits : (s : Standing) → (IsWaiting s → ⊥) → has_ended (outcome_of s) ≡ is_some (outcome_of s)
ended_or_waits unknown h = refl
ended_or_waits queued h = absurd (h tt)
ended_or_waits claimed h = absurd (h tt)
ended_or_waits applied h = refl
ended_or_waits (superseded p) h = refl
ended_or_waits (discarded cause) h = refl

pub all_have_ended_where_nothing_waits : AllHaveEndedWhereNothingWaits
all_have_ended_where_nothing_waits ttls events r l none =
    ended_or_waits (standing r events) (λ w. let has = has_entry ttls r events l w in subst (λ (es : List Entry). Among has.entry es) none has.among)
    ∙ submitted_commands_have_an_outcome ttls events r l
