-- The records of a history tell the commands that were discarded.
use Rattle.std.proofs.Common.{◌≡◌, ◌∙◌, ◌⊎◌, inl, inr, ℕ, suc, ◌<◌, ◌==◌, List, [], ◌∷◌, ◌++◌, arith, refl, sym, ap, subst, map, Bool, true, false, if◌then◌else◌, Option, Some, None, append_assoc}
use Rattle.std.specs.Prelude.{nat_lt}
use Rattle.std.specs.List.{AllByRecursion, flat_map}
use Rattle.std.proofs.lemmas.Grind.{flat_map-append}
use Rattle.std.proofs.lemmas.List.{append-nil}
use Rattle.core_machine.proofs.of_plain_laws.Booleans.{eq_is}
use Rattle.core_machine.proofs.of_plain_laws.Options.{some_same}
use Rattle.core_machine.specs.fleet_rows.declared.command.Command.{Command}
use Rattle.core_machine.specs.fleet_rows.declared.refusal.Cause.{Cause}
use Rattle.core_machine.specs.fleet_rows.declared.refusal.Cause.TheVariants.{Refused, Failures}
use Rattle.core_machine.specs.fleet_rows.declared.refusal.Refusal.{Refusal}
use Rattle.core_machine.specs.fleet_rows.declared.settings.Ttls.{Ttls}
use Rattle.checkpoint_spec.proofs.of_history_laws.Members.{Among, Among-from_flat_map}
use Rattle.core_machine.specs.record_spec.declared.queue.QueueRecord.{QueueRecord}
use Rattle.core_machine.specs.record_spec.declared.queue.QueueRecord.TheVariants as queue
use Rattle.core_machine.specs.core_spec.declared.dead.Dead.{Dead}
use Rattle.core_machine.specs.core_spec.declared.entry.Entry.{Entry}
use Rattle.core_machine.specs.core_spec.declared.event.Event.{Event}
use Rattle.core_machine.specs.core_spec.declared.event.Event.TheVariants.{Submit, Claim, Release, Apply, Supersede, Fail, Discard, Sweep, Restart}
use Rattle.core_machine.specs.core_spec.Checkpoints.{held, dead, queue_checkpoint}
use Rattle.core_machine.specs.core_spec.Discards.{dead_if, dead_in, dead_of, put_dead}
use Rattle.core_machine.specs.core_spec.History.{History, last_receipt, command, Standing, unknown, queued, claimed, applied, superseded, discarded, requeued, standing, fails}
use Rattle.core_machine.specs.core_spec.Legal.{IsLegal}
use Rattle.core_machine.specs.core_spec.Pending.{submitted, pending_of, NoneIsWornOut}
use Rattle.core_machine.specs.core_spec.Stands.{queue_part, queue_trace, IsGivingUp, GivesUpAtOnce}
use Rattle.core_machine.specs.Steps.{marked}
use Rattle.core_machine.proofs.PendingSteps.{flat_map-same, every}
use Rattle.core_machine.proofs.Receipts.{AreGiven, submitted_are_given, receipts_are_new}
use Rattle.core_laws.specs.RecordLaws.{RecordsLeadToTheDiscards}
use Rattle.core_laws.specs.Replay.{if_few, pending_by, pending_after, at_entry, given_up, if_worn_out, dead_by, dead_after}
use Rattle.core_laws.proofs.DeadPuts.{put_last, IsOwn, dead_own, above, one_is_put}
use Rattle.core_laws.proofs.Entries.{IsKnown, HasCommand, known_is_submitted, SubmitsRise, submitted_rise, entry_is_of}
use Rattle.core_laws.proofs.Live.{live}
use Rattle.core_laws.proofs.Lives.{receipt_of, claimed_is_few, lives, few_queued}
use Rattle.core_laws.proofs.Replays.{trace_replayed, checkpoint_replayed}
use Rattle.core_laws.proofs.Taken.{upto_legal}
use Rattle.core_laws.proofs.Waiting.{IsWaiting, one_submit}

-- ---- what was discarded, or is worn out

abbrev dead_at : ℕ → Command → Cause → Dead
dead_at r c cause = record { receipt = r; command = c; cause = cause }

abbrev worn_if : ℕ → Command → Bool → List Dead
worn_if r c few = if few then [] else dead_at r c Failures ∷ []

abbrev gone_if : ℕ → Command → ℕ → Standing → List Dead
gone_if r c n unknown = []
gone_if r c n queued = worn_if r c (nat_lt n 16)
gone_if r c n claimed = worn_if r c (nat_lt n 16)
gone_if r c n applied = []
gone_if r c n (superseded p) = []
gone_if r c n (discarded cause) = dead_at r c cause ∷ []

abbrev gone_in : History → ℕ × Command → List Dead
gone_in history s = gone_if s.0 s.1 (fails s.0 history) (standing s.0 history)

abbrev gone : History → List Dead
gone history = flat_map (gone_in history) (submitted history)

worn_own : (b : Bool) (r : ℕ) (c : Command) → IsOwn r (worn_if r c b)
worn_own true r c = inl refl
worn_own false r c = inr (dead_at r c Failures, refl, refl)

gone_own : (r : ℕ) (c : Command) (n : ℕ) (s : Standing) → IsOwn r (gone_if r c n s)
gone_own r c n unknown = inl refl
gone_own r c n queued = worn_own (nat_lt n 16) r c
gone_own r c n claimed = worn_own (nat_lt n 16) r c
gone_own r c n applied = inl refl
gone_own r c n (superseded p) = inl refl
gone_own r c n (discarded cause) = inr (dead_at r c cause, refl, refl)

own_in : (history : History) (s : ℕ × Command) → IsOwn s.0 (gone_in history s)
own_in history s = gone_own s.0 s.1 (fails s.0 history) (standing s.0 history)

-- ---- events that leave it

not_worn : (r : ℕ) (c : Command) (n : ℕ) → n < 16 → worn_if r c (nat_lt n 16) ≡ []
not_worn r c n h = let few : nat_lt n 16 ≡ true = grind (arith, h) in rw few refl

named : (b : Bool) (q r n : ℕ) (c : Command) (s after : Standing) (earlier : History) → (r == q) ≡ b → standing r earlier ≡ s → (r ≡ q → gone_if q c n after ≡ gone_if q c n s)
    → gone_if q c n (if b then after else standing q earlier) ≡ gone_if q c n (standing q earlier)
named true q r n c s after earlier e h same =
    let is : r ≡ q = eq_is r q e in
    same is ∙ ap (gone_if q c n) (sym h ∙ ap (λ m. standing m earlier) is)
named false q r n c s after earlier e h same = refl

requeued_gone : (r : ℕ) (c : Command) (n : ℕ) (s : Standing) → gone_if r c n (requeued s) ≡ gone_if r c n s
requeued_gone r c n unknown = refl
requeued_gone r c n queued = refl
requeued_gone r c n claimed = refl
requeued_gone r c n applied = refl
requeued_gone r c n (superseded p) = refl
requeued_gone r c n (discarded cause) = refl

all_same : (e : Event) (earlier : History) → submitted (e ∷ earlier) ≡ submitted earlier → ((s : ℕ × Command) → gone_in (e ∷ earlier) s ≡ gone_in earlier s) → gone (e ∷ earlier) ≡ gone earlier
all_same e earlier same h =
    ap (flat_map (gone_in (e ∷ earlier))) same
    ∙ flat_map-same (gone_in (e ∷ earlier)) (gone_in earlier) (submitted earlier) (every (λ s. gone_in (e ∷ earlier) s ≡ gone_in earlier s) (submitted earlier) h)

itself : (r : ℕ) → (r == r) ≡ true
itself r = grind arith

older : (r : ℕ) (c : Command) (earlier : History) (n : ℕ) (xs : List (ℕ × Command)) → n < r → AreGiven n xs → AllByRecursion (λ s. gone_in (Submit r c ∷ earlier) s ≡ gone_in earlier s) xs
older r c earlier n [] l g = tt
older r c earlier n (x ∷ xs) l g = (let differ : (r == x.0) ≡ false = (let less : x.0 < r = omega (arith, l, g.0) in grind arith) in rw differ refl, older r c earlier n xs l g.1)

submits : (ttls : Ttls) (r : ℕ) (c : Command) (earlier : History) → IsLegal ttls (Submit r c ∷ earlier) → gone (Submit r c ∷ earlier) ≡ gone earlier
submits ttls r c earlier l =
    flat_map-append (gone_in (Submit r c ∷ earlier)) (submitted earlier) ((r, c) ∷ [])
    ∙ (λ i. flat_map-same (gone_in (Submit r c ∷ earlier)) (gone_in earlier) (submitted earlier) (older r c earlier (last_receipt earlier) (submitted earlier) (omega (arith, l.0.receipt)) (submitted_are_given ttls earlier l.1)) i ++ none i)
    ∙ append-nil (gone earlier)
  where
    none : flat_map (gone_in (Submit r c ∷ earlier)) ((r, c) ∷ []) ≡ []
    none = rw (itself r, (receipts_are_new ttls earlier r l.1 (λ p. omega (arith, l.0.receipt))).unfailed) refl

-- ---- the entry of a receipt

few_is : (b : Bool) (e f : Entry) → nat_lt e.attempts 16 ≡ b → Among f (if_few e) → f ≡ marked false e
few_is true e f h a = of (subst (λ (c : Bool). Among f (if c then marked false e ∷ [] else [])) h a)
  where
    of : Among f (marked false e ∷ []) → f ≡ marked false e
    of (inl same) = same
    of (inr none) = absurd none
few_is false e f h a = absurd (subst (λ (c : Bool). Among f (if c then marked false e ∷ [] else [])) h a)

entry_step : (b : Bool) (r : ℕ) (put : Entry → List Dead → List Dead) (e : Entry) (es : List Entry) (ds v : List Dead) → (r == e.receipt) ≡ b
    → ((f : Entry) → Among f (e ∷ es) → f.receipt ≡ r → put f ds ≡ v) → Among r (map receipt_of (e ∷ es)) → (Among r (map receipt_of es) → at_entry r put es ds ≡ v)
    → (if b then put e ds else at_entry r put es ds) ≡ v
entry_step true r put e es ds v h each a next = each e (inl refl) (sym (eq_is r e.receipt h))
entry_step false r put e es ds v h each (inl same) next = absurd (let apart : (r == e.receipt) ≡ true = (rw same (itself e.receipt)) in let never : true ≡ false = sym apart ∙ h in cc)
entry_step false r put e es ds v h each (inr a) next = next a

at_entry-is : (r : ℕ) (put : Entry → List Dead → List Dead) (es : List Entry) (ds v : List Dead) → ((f : Entry) → Among f es → f.receipt ≡ r → put f ds ≡ v) → Among r (map receipt_of es) → at_entry r put es ds ≡ v
at_entry-is r put [] ds v each a = absurd a
at_entry-is r put (e ∷ es) ds v each a =
    entry_step (r == e.receipt) r put e es ds v refl each a (λ b. at_entry-is r put es ds v (λ f c. each f (inr c)) b)

module _ (ttls : Ttls) (r : ℕ) (c : Command) (earlier : History) (l : IsLegal ttls earlier) (submit : command r earlier ≡ Some c) where
  -- what is live under the receipt is the command, with the failures that were counted
  of_live : (f : Entry) → Among f (live (pending_of earlier)) → f.receipt ≡ r → (f.command ≡ c) × (f.attempts ≡ fails r earlier)
  of_live f a is =
      let from = Among-from_flat_map if_few (pending_of earlier) f a in
      let e = from.0 in
      let of = entry_is_of ttls earlier e l from.1 in
      let same : f ≡ marked false e = few_is (nat_lt e.attempts 16) e f refl from.2 in
      let receipt : e.receipt ≡ r = sym (ap receipt_of same) ∙ is in (
        ap (λ (e : Entry). e.command) same ∙ sym (some_same e.command c (sym of.command_is ∙ ap (λ n. command n earlier) receipt ∙ submit)),
        ap (λ (e : Entry). e.attempts) same ∙ of.attempts ∙ ap (λ n. fails n earlier) receipt,
      )

  module _ (there : Among r (map receipt_of (live (pending_of earlier)))) where
    gives_up : (cause : Cause) (ds : List Dead) → at_entry r (given_up cause) (live (pending_of earlier)) ds ≡ put_dead (dead_at r c cause) ds
    gives_up cause ds = at_entry-is r (given_up cause) (live (pending_of earlier)) ds _ (λ f a is. let of = of_live f a is in λ i. put_dead (record { receipt = is i; command = of.0 i; cause = cause }) ds) there

    wears : (ds : List Dead) → at_entry r if_worn_out (live (pending_of earlier)) ds ≡ (if nat_lt (suc (fails r earlier)) 16 then ds else put_dead (dead_at r c Failures) ds)
    wears ds = at_entry-is r if_worn_out (live (pending_of earlier)) ds _
        (λ f a is. let of = of_live f a is in λ i. if nat_lt (suc (of.1 i)) 16 then ds else put_dead (record { receipt = is i; command = of.0 i; cause = Failures }) ds) there

-- ---- one event

record IsSubmitted (r : ℕ) (earlier : History) : Type 0 where
  of : Command
  is : command r earlier ≡ Some of

is_submitted : (r : ℕ) (earlier : History) (o : Option Command) → command r earlier ≡ o → HasCommand o → IsSubmitted r earlier
is_submitted r earlier None e h = absurd h
is_submitted r earlier (Some c) e h = record { of = c; is = e }

fail_named : (b : Bool) (r q : ℕ) (c : Command) (earlier : History) → (r == q) ≡ b → standing r earlier ≡ claimed → suc (fails r earlier) < 16
    → gone_if q c (if b then suc (fails q earlier) else fails q earlier) (if b then queued else standing q earlier) ≡ gone_if q c (fails q earlier) (standing q earlier)
fail_named true r q c earlier e h few =
    let is : r ≡ q = eq_is r q e in
    let more : suc (fails q earlier) < 16 = subst (λ m. suc (fails m earlier) < 16) is few in
    not_worn q c (suc (fails q earlier)) more
    ∙ sym (not_worn q c (fails q earlier) (omega (arith, more)))
    ∙ sym (ap (gone_if q c (fails q earlier)) (sym (ap (λ m. standing m earlier) is) ∙ h))
fail_named false r q c earlier e h few = refl

module _ (ttls : Ttls) where
  submitted_if : (r : ℕ) (earlier : History) (s : Standing) → IsLegal ttls earlier → standing r earlier ≡ s → IsKnown s → IsSubmitted r earlier
  submitted_if r earlier s l h known = is_submitted r earlier (command r earlier) refl (known_is_submitted ttls r earlier l (subst IsKnown (sym h) known))

  module _ (r : ℕ) (earlier : History) (l : IsLegal ttls earlier) (stands : standing r earlier ≡ claimed) where
    few : fails r earlier < 16
    few = claimed_is_few ttls r earlier l stands

    few_at : (q : ℕ) → r ≡ q → fails q earlier < 16
    few_at q same = subst (λ m. fails m earlier < 16) same few

    there : Among r (map receipt_of (live (pending_of earlier)))
    there = lives ttls r earlier l (subst IsWaiting (sym stands) tt) few

    of : Command
    of = (submitted_if r earlier claimed l stands tt).of

    of_is : command r earlier ≡ Some of
    unfolding of
    of_is = (submitted_if r earlier claimed l stands tt).is

    none_before : gone_in earlier (r, of) ≡ []
    none_before = ap (gone_if r of (fails r earlier)) stands ∙ not_worn r of (fails r earlier) few

    refuses : (refusal : Refusal) → dead_after (queue.Refused r refusal ∷ []) (live (pending_of earlier)) (gone earlier) ≡ gone (Discard r (Refused refusal) ∷ earlier)
    refuses refusal =
        gives_up ttls r of earlier l of_is there (Refused refusal) (gone earlier)
        ∙ sym (one_is_put (gone_in earlier) (own_in earlier) (gone_in (Discard r (Refused refusal) ∷ earlier)) r of (dead_at r of (Refused refusal)) refl none_before (rw (itself r) refl) (λ s e. rw e refl)
        (submitted earlier) (submitted_rise ttls earlier l) (one_submit ttls r of earlier l of_is))

    fails_by : (before after : ℕ) (b : Bool) → nat_lt (suc (fails r earlier)) 16 ≡ b
        → (if b then gone earlier else put_dead (dead_at r of Failures) (gone earlier)) ≡ gone (Fail r before after ∷ earlier)
    fails_by before after true e =
        sym (all_same (Fail r before after) earlier refl (λ s. fail_named (r == s.0) r s.0 s.1 earlier refl stands (grind (arith, e))))
    fails_by before after false e =
        sym (one_is_put (gone_in earlier) (own_in earlier) (gone_in (Fail r before after ∷ earlier)) r of (dead_at r of Failures) refl none_before (rw (itself r, e) refl) (λ s f. rw f refl)
        (submitted earlier) (submitted_rise ttls earlier l) (one_submit ttls r of earlier l of_is))

    failed_gone : (before after : ℕ) → dead_after (queue.Fail r before after ∷ []) (live (pending_of earlier)) (gone earlier) ≡ gone (Fail r before after ∷ earlier)
    failed_gone before after = wears ttls r of earlier l of_is there (gone earlier) ∙ fails_by before after (nat_lt (suc (fails r earlier)) 16) refl

  event_gone : (e : Event) (earlier : History) → IsLegal ttls (e ∷ earlier) → NoneIsWornOut (pending_of earlier) ⊎ IsGivingUp e
      → dead_after (queue_part e) (live (pending_of earlier)) (gone earlier) ≡ gone (e ∷ earlier)
  event_gone (Submit r c) earlier l once = sym (submits ttls r c earlier l)
  event_gone (Claim r) earlier l once = sym (all_same (Claim r) earlier refl (λ s. named (r == s.0) s.0 r (fails s.0 earlier) s.1 queued claimed earlier refl l.0.queued (λ same. refl)))
  event_gone (Release r) earlier l once = sym (all_same (Release r) earlier refl (λ s. named (r == s.0) s.0 r (fails s.0 earlier) s.1 claimed queued earlier refl l.0 (λ same. refl)))
  event_gone (Apply r t) earlier l once =
      sym (all_same (Apply r t) earlier refl (λ s. named (r == s.0) s.0 r (fails s.0 earlier) s.1 claimed applied earlier refl l.0.claimed
      (λ same. sym (not_worn s.0 s.1 (fails s.0 earlier) (few_at r earlier l.1 l.0.claimed s.0 same)))))
  event_gone (Supersede r p) earlier l (inl none) =
      sym (all_same (Supersede r p) earlier refl (λ s. named (r == s.0) s.0 r (fails s.0 earlier) s.1 queued (superseded p) earlier refl l.0.queued
      (λ same. sym (not_worn s.0 s.1 (fails s.0 earlier) (subst (λ m. fails m earlier < 16) same (few_queued ttls r earlier l.1 l.0.queued none))))))
  event_gone (Supersede r p) earlier l (inr never) = absurd never
  event_gone (Fail r before after) earlier l once = failed_gone r earlier l.1 l.0.0 before after
  event_gone (Discard r (Refused refusal)) earlier l once = refuses r earlier l.1 l.0.0 refusal
  event_gone (Discard r Failures) earlier l once =
      sym (all_same (Discard r Failures) earlier refl (λ s. named (r == s.0) s.0 r (fails s.0 earlier) s.1 queued (discarded Failures) earlier refl l.0.0
      (λ same. worn s.0 s.1 (fails s.0 earlier) (sym (ap (λ m. fails m earlier) same) ∙ l.0.1))))
    where
      worn : (q : ℕ) (c : Command) (n : ℕ) → n ≡ 16 → dead_at q c Failures ∷ [] ≡ worn_if q c (nat_lt n 16)
      worn q c n e = let out : nat_lt n 16 ≡ false = grind (arith, e) in rw out refl
  event_gone (Sweep kinds m) earlier l once = sym (all_same (Sweep kinds m) earlier refl (λ s. refl))
  event_gone Restart earlier l once = sym (all_same Restart earlier refl (λ s. requeued_gone s.0 s.1 (fails s.0 earlier) (standing s.0 earlier)))

-- ---- the records

pub dead_joined : (xs ys : List QueueRecord) (es : List Entry) (ds : List Dead) → dead_after (xs ++ ys) es ds ≡ dead_after ys (pending_after xs es) (dead_after xs es ds)
dead_joined [] ys es ds = refl
dead_joined (x ∷ xs) ys es ds = dead_joined xs ys (pending_by x es) (dead_by x es ds)

trace_gone : (ttls : Ttls) (later upto : History) → IsLegal ttls (later ++ upto) → GivesUpAtOnce (later ++ upto) → dead_after (queue_trace later) (live (pending_of upto)) (gone upto) ≡ gone (later ++ upto)
trace_gone ttls [] upto l once = refl
trace_gone ttls (e ∷ later) upto l once =
    dead_joined (queue_trace later) (queue_part e) (live (pending_of upto)) (gone upto)
    ∙ (λ i. dead_after (queue_part e) (trace_replayed ttls later upto l.1 i) (trace_gone ttls later upto l.1 once.1 i))
    ∙ event_gone ttls e (later ++ upto) l once.0

-- ---- a checkpoint

abbrev pub DeadsRise : List Dead → Type 0
DeadsRise [] = Unit {0}
DeadsRise (d ∷ ds) = AllByRecursion (λ (f : Dead). d.receipt < f.receipt) ds × DeadsRise ds

rises_more : (r : ℕ) (own ds : List Dead) → IsOwn r own → AllByRecursion (λ (f : Dead). r < f.receipt) ds → DeadsRise ds → DeadsRise (own ++ ds)
rises_more r own ds (inl none) h g = rw none g
rises_more r own ds (inr one) h g = rw one.1 (subst (λ n. AllByRecursion (λ (f : Dead). n < f.receipt) ds) (sym one.2) h, g)

pub deads_rise : (history : History) (xs : List (ℕ × Command)) → SubmitsRise xs → DeadsRise (flat_map (dead_in history) xs)
deads_rise history [] h = tt
deads_rise history (x ∷ xs) h =
    rises_more x.0 (dead_in history x) (flat_map (dead_in history) xs) (dead_own x.0 x.1 (standing x.0 history))
    (above (dead_in history) (λ s. dead_own s.0 s.1 (standing s.0 history)) x.0 xs h.0) (deads_rise history xs h.1)

held_dead : (es fs : List Entry) (ds : List Dead) → dead_after (map held es) fs ds ≡ ds
held_dead [] fs ds = refl
held_dead (e ∷ es) fs ds = held_dead es (pending_by (held e) fs) ds

-- each of these is above the ones before
abbrev Follow : List Dead → List Dead → Type 0
Follow done ds = AllByRecursion (λ (d : Dead). AllByRecursion (λ (x : Dead). x.receipt < d.receipt) done) ds

follow_more : (done : List Dead) (d : Dead) (ds : List Dead) → AllByRecursion (λ (f : Dead). d.receipt < f.receipt) ds → Follow done ds → Follow (done ++ d ∷ []) ds
follow_more done d [] h g = tt
follow_more done d (f ∷ ds) h g = (joined done g.0, follow_more done d ds h.1 g.1)
  where
    joined : (xs : List Dead) → AllByRecursion (λ (x : Dead). x.receipt < f.receipt) xs → AllByRecursion (λ (x : Dead). x.receipt < f.receipt) (xs ++ d ∷ [])
    joined [] k = (h.0, tt)
    joined (x ∷ xs) k = (k.0, joined xs k.1)

deads_put : (ds done : List Dead) (fs : List Entry) → DeadsRise ds → Follow done ds → dead_after (map dead ds) fs done ≡ done ++ ds
deads_put [] done fs rise f = sym (append-nil done)
deads_put (d ∷ ds) done fs rise f =
    ap (dead_after (map dead ds) fs) (put_last d done f.0) ∙ deads_put ds (done ++ d ∷ []) fs rise.1 (follow_more done d ds rise.0 f.1) ∙ append_assoc done (d ∷ []) ds

nothing_before : (ds : List Dead) → Follow [] ds
nothing_before [] = tt
nothing_before (d ∷ ds) = (tt, nothing_before ds)

module _ (ttls : Ttls) (history : History) (l : IsLegal ttls history) (none : NoneIsWornOut (pending_of history)) where
  gone_plain : (r : ℕ) (c : Command) (s : Standing) → standing r history ≡ s → gone_if r c (fails r history) s ≡ dead_if r c s
  gone_plain r c unknown h = refl
  gone_plain r c queued h = not_worn r c (fails r history) (few_queued ttls r history l h none)
  gone_plain r c claimed h = not_worn r c (fails r history) (claimed_is_few ttls r history l h)
  gone_plain r c applied h = refl
  gone_plain r c (superseded p) h = refl
  gone_plain r c (discarded cause) h = refl

  -- where none is worn out, what is gone was discarded
  gone_is_dead : gone history ≡ dead_of history
  gone_is_dead =
      flat_map-same (gone_in history) (dead_in history) (submitted history)
      (every (λ s. gone_in history s ≡ dead_in history s) (submitted history) (λ s. gone_plain s.0 s.1 (standing s.0 history) refl))

  checkpoint_gone : dead_after (queue_checkpoint history) [] [] ≡ gone history
  checkpoint_gone =
      dead_joined (map held (pending_of history)) (map dead (dead_of history)) [] []
      ∙ ap (dead_after (map dead (dead_of history)) (pending_after (map held (pending_of history)) [])) (held_dead (pending_of history) [] [])
      ∙ deads_put (dead_of history) [] (pending_after (map held (pending_of history)) []) (deads_rise history (submitted history) (submitted_rise ttls history l)) (nothing_before (dead_of history))
      ∙ sym gone_is_dead

pub records_lead_to_the_discards : RecordsLeadToTheDiscards
records_lead_to_the_discards ttls records history l none once t =
    let legal : IsLegal ttls (t.later ++ t.upto) = subst (IsLegal ttls) t.whole l in
    let whole : GivesUpAtOnce (t.later ++ t.upto) = subst GivesUpAtOnce t.whole once in
    ap (λ (xs : List QueueRecord). dead_after xs [] []) t.says
    ∙ dead_joined (queue_checkpoint t.upto) (queue_trace t.later) [] []
    ∙ (λ i. dead_after (queue_trace t.later) (checkpoint_replayed t.upto i) (checkpoint_gone ttls t.upto (upto_legal ttls t.later t.upto legal) t.few i))
    ∙ trace_gone ttls t.later t.upto legal whole
    ∙ ap gone (sym t.whole)
    ∙ gone_is_dead ttls history l none
