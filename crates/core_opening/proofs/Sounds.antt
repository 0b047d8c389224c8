-- What holds of the commands that the records lead to, whatever history they stand for.
use Rattle.std.proofs.Common.{◌≡◌, inl, inr, ℕ, suc, ◌==◌, List, [], ◌∷◌, ◌++◌, arith, refl, ap, subst, Bool, true, false, if◌then◌else◌, nat_lt, append_assoc}
use Rattle.std.specs.List.{AllByRecursion, flat_map}
use Rattle.core_state.specs.fleet_rows.declared.command.Command.{Command}
use Rattle.core_state.specs.record_spec.declared.queue.QueueRecord.{QueueRecord}
use Rattle.core_state.specs.record_spec.declared.queue.QueueRecord.TheVariants as queue
use Rattle.core_state.specs.record_spec.Queue.{IsQueueRecord, IsCommand}
use Rattle.core_state.specs.fleet_rows.declared.refusal.Cause.TheVariants.{Refused, Failures}
use Rattle.core_state.specs.core_spec.declared.dead.Dead.{Dead}
use Rattle.core_state.specs.core_spec.declared.entry.Entry.{Entry}
use Rattle.core_state.specs.core_machine.Steps.{marked, failed, at_receipt, new_entry}
use Rattle.core_state.specs.core_laws.Replay.{if_few, held_entry, pending_by, pending_after, at_entry, given_up, if_worn_out, dead_by, dead_after}
use Rattle.core_state.proofs.of_core_laws.QueueLogs.{all_joined, all_flat, all_so}
use Rattle.core_state.proofs.Spellings.{IsFitDead, put_fit}
use Rattle.core_state.specs.Seen.{TellsSubmit, HasRecord, claimed_number, IsFit}
use Rattle.core_opening.specs.Replayed.{AreQueuedOnly, grouped}

-- ---- each was submitted by a record

has_before : (r : ℕ) (c : Command) (xs ys : List QueueRecord) → HasRecord r c xs → HasRecord r c (xs ++ ys)
has_before r c [] ys h = absurd h
has_before r c (x ∷ xs) ys (inl here) = inl here
has_before r c (x ∷ xs) ys (inr there) = inr (has_before r c xs ys there)

has_last : (r : ℕ) (c : Command) (xs : List QueueRecord) (x : QueueRecord) → TellsSubmit r c x → HasRecord r c (xs ++ x ∷ [])
has_last r c [] x h = inl h
has_last r c (y ∷ xs) x h = inr (has_last r c xs x h)

abbrev Told : List QueueRecord → Entry → Type 0
Told xs e = HasRecord e.receipt e.command xs

module _ (P Q : Entry → Type 0) where
  few_so : (e : Entry) → Q (marked false e) → AllByRecursion Q (if_few e)
  few_so e q = by (nat_lt e.attempts 16)
    where
      by : (b : Bool) → AllByRecursion Q (if b then marked false e ∷ [] else [])
      by true = (q, tt)
      by false = tt

  changed_so : (r : ℕ) (f : Entry → List Entry) (es : List Entry) → ((e : Entry) → P e → AllByRecursion Q (f e)) → ((e : Entry) → P e → Q e) → AllByRecursion P es → AllByRecursion Q (flat_map (at_receipt r f) es)
  changed_so r f es change stay = all_flat P Q (at_receipt r f) es (λ e p. by (r == e.receipt) e p)
    where
      by : (b : Bool) (e : Entry) → P e → AllByRecursion Q (if b then f e else e ∷ [])
      by true e p = change e p
      by false e p = (stay e p, tt)

module _ (earlier : List QueueRecord) (x : QueueRecord) (es : List Entry) (all : AllByRecursion (Told earlier) es) where
  abbrev More : Entry → Type 0
  More = Told (earlier ++ x ∷ [])

  stays : (e : Entry) → Told earlier e → More e
  stays e t = has_before e.receipt e.command earlier (x ∷ []) t

  all_stay : AllByRecursion More es
  all_stay = all_so (Told earlier) More es stays all

  one_more : (e : Entry) → TellsSubmit e.receipt e.command x → AllByRecursion More (es ++ e ∷ [])
  one_more e tells = all_joined (Told earlier) More es (e ∷ []) all_stay (has_last e.receipt e.command earlier x tells, tt)

  few_more : (e : Entry) → TellsSubmit e.receipt e.command x → AllByRecursion More (es ++ if_few e)
  few_more e tells = all_joined (Told earlier) More es (if_few e) all_stay (few_so (Told earlier) More e (has_last e.receipt e.command earlier x tells))

  without : (r : ℕ) → AllByRecursion More (flat_map (at_receipt r (λ e. [])) es)
  without r = changed_so (Told earlier) More r (λ e. []) es (λ e t. tt) stays all

  with_failure : (r : ℕ) → AllByRecursion More (flat_map (at_receipt r (λ e. if_few (failed e))) es)
  with_failure r = changed_so (Told earlier) More r (λ e. if_few (failed e)) es (λ e t. few_so (Told earlier) More (failed e) (stays e t)) stays all

told_by : (earlier : List QueueRecord) (x : QueueRecord) (es : List Entry) → AllByRecursion (Told earlier) es → AllByRecursion (Told (earlier ++ x ∷ [])) (pending_by x es)
told_by earlier (queue.Base last) es all = all_stay earlier (queue.Base last) es all
told_by earlier (queue.Held r n c) es all = few_more earlier (queue.Held r n c) es all (held_entry r n c) (refl, refl)
told_by earlier (queue.Dead r c why) es all = all_stay earlier (queue.Dead r c why) es all
told_by earlier (queue.Submit r c) es all = one_more earlier (queue.Submit r c) es all (new_entry r c) (refl, refl)
told_by earlier (queue.Done r) es all = without earlier (queue.Done r) es all r
told_by earlier (queue.Superseded r p) es all = without earlier (queue.Superseded r p) es all r
told_by earlier (queue.Refused r f) es all = without earlier (queue.Refused r f) es all r
told_by earlier (queue.Fail r b a) es all = with_failure earlier (queue.Fail r b a) es all r

told_after : (earlier xs : List QueueRecord) (es : List Entry) → AllByRecursion (Told earlier) es → AllByRecursion (Told (earlier ++ xs)) (pending_after xs es)
told_after earlier [] es all = all_so (Told earlier) (Told (earlier ++ [])) es (λ e t. has_before e.receipt e.command earlier [] t) all
told_after earlier (x ∷ xs) es all =
    subst (λ (l : List QueueRecord). AllByRecursion (Told l) (pending_after xs (pending_by x es))) (append_assoc earlier (x ∷ []) xs)
    (told_after (earlier ++ x ∷ []) xs (pending_by x es) (told_by earlier x es all))

pub each_told : (records : List QueueRecord) → AllByRecursion (λ (e : Entry). HasRecord e.receipt e.command records) (pending_after records [])
each_told records = told_after [] records [] tt

-- so its command is fit, where the records are lawful
command_fit : (c d : Command) → IsCommand d → d ≡ c → IsFit c
command_fit c d is same = subst IsFit same (is.received, is.payload)

tells_fit : (r : ℕ) (c : Command) (x : QueueRecord) → IsQueueRecord x → TellsSubmit r c x → IsFit c
tells_fit r c (queue.Base last) lawful tells = absurd tells
tells_fit r c (queue.Held q n d) lawful tells = command_fit c d lawful.2 tells.1
tells_fit r c (queue.Dead q d why) lawful tells = command_fit c d lawful.1 tells.1
tells_fit r c (queue.Submit q d) lawful tells = command_fit c d lawful.1 tells.1
tells_fit r c (queue.Done q) lawful tells = absurd tells
tells_fit r c (queue.Superseded q p) lawful tells = absurd tells
tells_fit r c (queue.Refused q f) lawful tells = absurd tells
tells_fit r c (queue.Fail q b a) lawful tells = absurd tells

pub has_fit : (r : ℕ) (c : Command) (records : List QueueRecord) → AllByRecursion IsQueueRecord records → HasRecord r c records → IsFit c
has_fit r c [] lawful has = absurd has
has_fit r c (x ∷ xs) lawful (inl here) = tells_fit r c x lawful.0 here
has_fit r c (x ∷ xs) lawful (inr there) = has_fit r c xs lawful.1 there

-- ---- so are the commands that were given up

abbrev IsFitEntry : Entry → Type 0
IsFitEntry e = IsFit e.command

at_fit : (r : ℕ) (put : Entry → List Dead → List Dead) (es : List Entry) (ds : List Dead) → ((e : Entry) → IsFitEntry e → AllByRecursion IsFitDead (put e ds))
    → AllByRecursion IsFitEntry es → AllByRecursion IsFitDead ds → AllByRecursion IsFitDead (at_entry r put es ds)
at_fit r put [] ds puts fit all = all
at_fit r put (e ∷ es) ds puts fit all = by (r == e.receipt) (at_fit r put es ds puts fit.1 all)
  where
    by : (b : Bool) → AllByRecursion IsFitDead (at_entry r put es ds) → AllByRecursion IsFitDead (if b then put e ds else at_entry r put es ds)
    by true rest = puts e fit.0
    by false rest = rest

worn_fit : (ds : List Dead) → AllByRecursion IsFitDead ds → (e : Entry) → IsFitEntry e → AllByRecursion IsFitDead (if_worn_out e ds)
worn_fit ds all e fit = by (nat_lt (suc e.attempts) 16)
  where
    by : (b : Bool) → AllByRecursion IsFitDead (if b then ds else given_up Failures e ds)
    by true = all
    by false = put_fit (record { receipt = e.receipt; command = e.command; cause = Failures }) ds fit all

dead_fit_by : (x : QueueRecord) (es : List Entry) (ds : List Dead) → IsQueueRecord x → AllByRecursion IsFitEntry es → AllByRecursion IsFitDead ds → AllByRecursion IsFitDead (dead_by x es ds)
dead_fit_by (queue.Base last) es ds lawful fit all = all
dead_fit_by (queue.Held r n c) es ds lawful fit all = all
dead_fit_by (queue.Dead r c why) es ds lawful fit all = put_fit (record { receipt = r; command = c; cause = why }) ds (command_fit c c lawful.1 refl) all
dead_fit_by (queue.Submit r c) es ds lawful fit all = all
dead_fit_by (queue.Done r) es ds lawful fit all = all
dead_fit_by (queue.Superseded r p) es ds lawful fit all = all
dead_fit_by (queue.Refused r f) es ds lawful fit all = at_fit r (given_up (Refused f)) es ds (λ e is. put_fit (record { receipt = e.receipt; command = e.command; cause = Refused f }) ds is all) fit all
dead_fit_by (queue.Fail r b a) es ds lawful fit all = at_fit r if_worn_out es ds (worn_fit ds all) fit all

entries_fit_by : (x : QueueRecord) (es : List Entry) → IsQueueRecord x → AllByRecursion IsFitEntry es → AllByRecursion IsFitEntry (pending_by x es)
entries_fit_by (queue.Base last) es lawful fit = fit
entries_fit_by (queue.Held r n c) es lawful fit = all_joined IsFitEntry IsFitEntry es (if_few (held_entry r n c)) fit (few_so IsFitEntry IsFitEntry (held_entry r n c) (command_fit c c lawful.2 refl))
entries_fit_by (queue.Dead r c why) es lawful fit = fit
entries_fit_by (queue.Submit r c) es lawful fit = all_joined IsFitEntry IsFitEntry es (new_entry r c ∷ []) fit (command_fit c c lawful.1 refl, tt)
entries_fit_by (queue.Done r) es lawful fit = changed_so IsFitEntry IsFitEntry r (λ e. []) es (λ e q. tt) (λ e q. q) fit
entries_fit_by (queue.Superseded r p) es lawful fit = changed_so IsFitEntry IsFitEntry r (λ e. []) es (λ e q. tt) (λ e q. q) fit
entries_fit_by (queue.Refused r f) es lawful fit = changed_so IsFitEntry IsFitEntry r (λ e. []) es (λ e q. tt) (λ e q. q) fit
entries_fit_by (queue.Fail r b a) es lawful fit = changed_so IsFitEntry IsFitEntry r (λ e. if_few (failed e)) es (λ e q. few_so IsFitEntry IsFitEntry (failed e) q) (λ e q. q) fit

dead_fit_after : (xs : List QueueRecord) (es : List Entry) (ds : List Dead) → AllByRecursion IsQueueRecord xs → AllByRecursion IsFitEntry es → AllByRecursion IsFitDead ds → AllByRecursion IsFitDead (dead_after xs es ds)
dead_fit_after [] es ds lawful fit all = all
dead_fit_after (x ∷ xs) es ds lawful fit all = dead_fit_after xs (pending_by x es) (dead_by x es ds) lawful.1 (entries_fit_by x es lawful.0 fit) (dead_fit_by x es ds lawful.0 fit all)

pub dead_are_fit : (records : List QueueRecord) → AllByRecursion IsQueueRecord records → AllByRecursion (λ (d : Dead). IsFit d.command) (dead_after records [] [])
dead_are_fit records lawful = dead_fit_after records [] [] lawful tt tt

-- ---- none is claimed

abbrev IsQueued : Entry → Type 0
IsQueued e = e.claimed ≡ false

pub queued_by : (x : QueueRecord) (es : List Entry) → AreQueuedOnly es → AreQueuedOnly (pending_by x es)
queued_by (queue.Base last) es all = all
queued_by (queue.Held r n c) es all = all_joined IsQueued IsQueued es (if_few (held_entry r n c)) all (few_so IsQueued IsQueued (held_entry r n c) refl)
queued_by (queue.Dead r c why) es all = all
queued_by (queue.Submit r c) es all = all_joined IsQueued IsQueued es (new_entry r c ∷ []) all (refl, tt)
queued_by (queue.Done r) es all = changed_so IsQueued IsQueued r (λ e. []) es (λ e q. tt) (λ e q. q) all
queued_by (queue.Superseded r p) es all = changed_so IsQueued IsQueued r (λ e. []) es (λ e q. tt) (λ e q. q) all
queued_by (queue.Refused r f) es all = changed_so IsQueued IsQueued r (λ e. []) es (λ e q. tt) (λ e q. q) all
queued_by (queue.Fail r b a) es all = changed_so IsQueued IsQueued r (λ e. if_few (failed e)) es (λ e q. few_so IsQueued IsQueued (failed e) refl) (λ e q. q) all

queued_after : (xs : List QueueRecord) (es : List Entry) → AreQueuedOnly es → AreQueuedOnly (pending_after xs es)
queued_after [] es all = all
queued_after (x ∷ xs) es all = queued_after xs (pending_by x es) (queued_by x es all)

pub none_is_claimed : (records : List QueueRecord) → AreQueuedOnly (pending_after records [])
none_is_claimed records = queued_after records [] tt

pub no_claims : (es : List Entry) → AreQueuedOnly es → claimed_number es ≡ 0
no_claims [] all = refl
no_claims (e ∷ es) all = let rest = no_claims es all.1 in rw all.0 (omega (arith, rest))

-- ---- each is in its command's group

abbrev IsGrouped : Entry → Type 0
IsGrouped e = grouped e ≡ e

grouped_by : (x : QueueRecord) (es : List Entry) → AllByRecursion IsGrouped es → AllByRecursion IsGrouped (pending_by x es)
grouped_by (queue.Base last) es all = all
grouped_by (queue.Held r n c) es all = all_joined IsGrouped IsGrouped es (if_few (held_entry r n c)) all (few_so IsGrouped IsGrouped (held_entry r n c) refl)
grouped_by (queue.Dead r c why) es all = all
grouped_by (queue.Submit r c) es all = all_joined IsGrouped IsGrouped es (new_entry r c ∷ []) all (refl, tt)
grouped_by (queue.Done r) es all = changed_so IsGrouped IsGrouped r (λ e. []) es (λ e q. tt) (λ e q. q) all
grouped_by (queue.Superseded r p) es all = changed_so IsGrouped IsGrouped r (λ e. []) es (λ e q. tt) (λ e q. q) all
grouped_by (queue.Refused r f) es all = changed_so IsGrouped IsGrouped r (λ e. []) es (λ e q. tt) (λ e q. q) all
grouped_by (queue.Fail r b a) es all = changed_so IsGrouped IsGrouped r (λ e. if_few (failed e)) es (λ e q. few_so IsGrouped IsGrouped (failed e) (ap failed q)) (λ e q. q) all

grouped_after : (xs : List QueueRecord) (es : List Entry) → AllByRecursion IsGrouped es → AllByRecursion IsGrouped (pending_after xs es)
grouped_after [] es all = all
grouped_after (x ∷ xs) es all = grouped_after xs (pending_by x es) (grouped_by x es all)

pub each_grouped : (records : List QueueRecord) → AllByRecursion IsGrouped (pending_after records [])
each_grouped records = grouped_after records [] tt
