-- Which commands are live: claimed, or queued and not worn out.
use Rattle.std.proofs.Common.{◌≡◌, ◌≢◌, ◌∙◌, inl, inr, ℕ, suc, ◌<◌, ◌==◌, [], ◌∷◌, arith, sym, ap, refl, subst, map, Bool, true, false, if◌then◌else◌}
use Rattle.std.specs.Prelude.{nat_lt}
use Rattle.core_machine.proofs.of_plain_laws.Booleans.{eq_is}
use Rattle.core_machine.specs.fleet_rows.declared.settings.Ttls.{Ttls}
use Rattle.checkpoint_spec.proofs.of_history_laws.Members.{Among, Among-map, Among-from_map, Among-flat_map, Among-from_flat_map, All-Among}
use Rattle.core_machine.specs.core_spec.declared.entry.Entry.{Entry}
use Rattle.core_machine.specs.core_spec.declared.event.Event.TheVariants.{Submit, Claim, Release, Apply, Supersede, Fail, Discard, Sweep, Restart}
use Rattle.core_machine.specs.core_spec.History.{History, Standing, unknown, queued, claimed, applied, superseded, discarded, requeued, standing, fails}
use Rattle.core_machine.specs.core_spec.Legal.{IsLegal}
use Rattle.core_machine.specs.core_spec.Pending.{pending_of, NoneIsWornOut}
use Rattle.core_laws.specs.Replay.{if_few}
use Rattle.core_laws.proofs.Entries.{standing_if, entry_is_of, has_entry}
use Rattle.core_laws.proofs.Live.{live}
use Rattle.core_laws.proofs.Waiting.{IsWaiting}

-- ---- a claimed command failed fewer than sixteen times

other_claimed : (b : Bool) (after s : Standing) (n : ℕ) → (if b then after else s) ≡ claimed → after ≢ claimed → (s ≡ claimed → n < 16) → n < 16
other_claimed true after s n h differ next = absurd (differ h)
other_claimed false after s n h differ next = next h

now_claimed : (b : Bool) (q r : ℕ) (s : Standing) (earlier : History) → (q == r) ≡ b → (if b then claimed else s) ≡ claimed → fails q earlier < 16 → (s ≡ claimed → fails r earlier < 16) → fails r earlier < 16
now_claimed true q r s earlier e h few next = subst (λ n. fails n earlier < 16) (eq_is q r e) few
now_claimed false q r s earlier e h few next = next h

not_failed : (b : Bool) (s : Standing) (n : ℕ) → (if b then queued else s) ≡ claimed → (s ≡ claimed → n < 16) → (if b then suc n else n) < 16
not_failed true s n h next = absurd (let apart : queued ≡ claimed = h in cc)
not_failed false s n h next = next h

requeued_none : (s : Standing) → requeued s ≡ claimed → ⊥
requeued_none unknown h = cc
requeued_none queued h = cc
requeued_none claimed h = cc
requeued_none applied h = cc
requeued_none (superseded p) h = cc
requeued_none (discarded cause) h = cc

pub claimed_is_few : (ttls : Ttls) (r : ℕ) (history : History) → IsLegal ttls history → standing r history ≡ claimed → fails r history < 16
claimed_is_few ttls r [] l h = absurd (let apart : unknown ≡ claimed = h in cc)
claimed_is_few ttls r (Submit q c ∷ earlier) l h = other_claimed (q == r) queued (standing r earlier) (fails r earlier) h (λ e. cc) (claimed_is_few ttls r earlier l.1)
claimed_is_few ttls r (Claim q ∷ earlier) l h = now_claimed (q == r) q r (standing r earlier) earlier refl h l.0.few (claimed_is_few ttls r earlier l.1)
claimed_is_few ttls r (Release q ∷ earlier) l h = other_claimed (q == r) queued (standing r earlier) (fails r earlier) h (λ e. cc) (claimed_is_few ttls r earlier l.1)
claimed_is_few ttls r (Apply q t ∷ earlier) l h = other_claimed (q == r) applied (standing r earlier) (fails r earlier) h (λ e. cc) (claimed_is_few ttls r earlier l.1)
claimed_is_few ttls r (Supersede q p ∷ earlier) l h = other_claimed (q == r) (superseded p) (standing r earlier) (fails r earlier) h (λ e. cc) (claimed_is_few ttls r earlier l.1)
claimed_is_few ttls r (Fail q before after ∷ earlier) l h = not_failed (q == r) (standing r earlier) (fails r earlier) h (claimed_is_few ttls r earlier l.1)
claimed_is_few ttls r (Discard q cause ∷ earlier) l h = other_claimed (q == r) (discarded cause) (standing r earlier) (fails r earlier) h (λ e. cc) (claimed_is_few ttls r earlier l.1)
claimed_is_few ttls r (Sweep kinds m ∷ earlier) l h = claimed_is_few ttls r earlier l.1 h
claimed_is_few ttls r (Restart ∷ earlier) l h = absurd (requeued_none (standing r earlier) h)

-- ---- what is live

abbrev pub receipt_of : Entry → ℕ
receipt_of e = e.receipt

few_receipt : (b : Bool) (e f : Entry) → nat_lt e.attempts 16 ≡ b → Among f (if_few e) → f.receipt ≡ e.receipt
few_receipt true e f h a = of (subst (λ (c : Bool). Among f (if c then record { receipt = e.receipt; command = e.command; group = e.group; attempts = e.attempts; claimed = false } ∷ [] else [])) h a)
  where
    of : Among f (record { receipt = e.receipt; command = e.command; group = e.group; attempts = e.attempts; claimed = false } ∷ []) → f.receipt ≡ e.receipt
    of (inl same) = ap receipt_of same
    of (inr none) = absurd none
few_receipt false e f h a = absurd (subst (λ (c : Bool). Among f (if c then record { receipt = e.receipt; command = e.command; group = e.group; attempts = e.attempts; claimed = false } ∷ [] else [])) h a)

pub lives : (ttls : Ttls) (r : ℕ) (history : History) → IsLegal ttls history → IsWaiting (standing r history) → fails r history < 16 → Among r (map receipt_of (live (pending_of history)))
lives ttls r history l w few =
    let has = has_entry ttls r history l w in
    let e = has.entry in
    let of = entry_is_of ttls history e l has.among in
    let attempts : e.attempts < 16 = omega (arith, few, of.attempts, ap (λ n. fails n history) has.receipt) in
    let unworn : nat_lt e.attempts 16 ≡ true = grind (arith, attempts) in
    let f : Entry = record { receipt = e.receipt; command = e.command; group = e.group; attempts = e.attempts; claimed = false } in
    let here : Among f (if_few e) = rw unworn (inl refl) in
    subst (λ n. Among n (map receipt_of (live (pending_of history)))) has.receipt (Among-map receipt_of (live (pending_of history)) f (Among-flat_map if_few (pending_of history) e f has.among here))

waiting_if : (b : Bool) → IsWaiting (standing_if b)
waiting_if true = tt
waiting_if false = tt

pub lives_only : (ttls : Ttls) (r : ℕ) (history : History) → IsLegal ttls history → Among r (map receipt_of (live (pending_of history))) → IsWaiting (standing r history)
lives_only ttls r history l a =
    let from = Among-from_map receipt_of (live (pending_of history)) r a in
    let entry = Among-from_flat_map if_few (pending_of history) from.0 from.1 in
    let e = entry.0 in
    let of = entry_is_of ttls history e l entry.1 in
    let same : r ≡ e.receipt = from.2 ∙ few_receipt (nat_lt e.attempts 16) e from.0 refl entry.2 in
    subst IsWaiting (sym (ap (λ n. standing n history) same ∙ of.stands)) (waiting_if e.claimed)

-- where none is worn out, a queued one failed fewer times too
pub few_queued : (ttls : Ttls) (q : ℕ) (history : History) → IsLegal ttls history → standing q history ≡ queued → NoneIsWornOut (pending_of history) → fails q history < 16
few_queued ttls q history l s none =
    let has = has_entry ttls q history l (subst IsWaiting (sym s) tt) in
    let of = entry_is_of ttls history has.entry l has.among in
    let few = All-Among (λ (e : Entry). e.attempts < 16) (pending_of history) has.entry none has.among in
    omega (arith, few, of.attempts, ap (λ n. fails n history) has.receipt)
