-- Claims are freed one after the other.
use Rattle.std.proofs.Common.{◌≡◌, ◌∙◌, ℕ, zero, suc, ◌+◌, ◌≤◌, ◌==◌, Bool, true, false, ◌&&◌, ◌||◌, if◌then◌else◌, List, [], ◌∷◌, ◌++◌, length, take, slice_get, Some, arith, add-one, refl, sym, ap, subst}
use Rattle.std.specs.List.{flat_map}
use Rattle.core_state.proofs.of_plain_laws.Options.{none_some, some_same}
use Rattle.core_state.specs.fleet_rows.declared.command.Command.{Command}
use Rattle.core_state.specs.core_spec.declared.entry.Entry.{Entry}
use Rattle.core_state.specs.core_spec.declared.event.Event.TheVariants.{Release}
use Rattle.core_state.specs.core_spec.History.{History}
use Rattle.core_state.specs.core_machine.Claims.{is_claimed}
use Rattle.core_state.specs.core_machine.Steps.{marked, at_receipt}
use Rattle.core_state.specs.queue_log.Queued.{queue_down}
use Rattle.core_state.specs.declared.state.CoreState.{CoreState}
use Rattle.core_state.specs.Changes.{OthersStay}
use Rattle.core_state.specs.Seen.{events_of, claimed_number, IsSubmitted}
use Rattle.core_state.proofs.Ports.{Ports}
use Rattle.core_state.proofs.SoundLists.{marked_length}
use Rattle.core_state.proofs.Standing.{CoreStands, IsSoundCore, is_down}
use Rattle.core_claims.specs.Frees.{Releases}
use Rattle.core_claims.specs.Releases.{HasReleased, did_release}
use Rattle.core_claims.proofs.ReleasedCommands.{release_sound, release_stands, release_submitted}

-- ---- the list

abbrev unmarked : ℕ → List Entry → List Entry
unmarked r = flat_map (at_receipt r (λ e. marked false e ∷ []))

abbrev one_if : Bool → ℕ
one_if b = if b then 1 else 0

next_step : (b : Bool) (x : Entry) (rest : List Entry) (n : ℕ) → one_if x.claimed ≡ 0 → claimed_number (take n rest) ≡ 0 → claimed_number (take (suc n) ((if b then marked false x ∷ [] else x ∷ []) ++ rest)) ≡ 0
next_step true x rest n h k = omega (arith, k)
next_step false x rest n h k = omega (arith, h, k)

here_step : (b : Bool) (r : ℕ) (e : Entry) (rest : List Entry) → (r == e.receipt) ≡ b → r ≡ e.receipt → claimed_number (take 1 ((if b then marked false e ∷ [] else e ∷ []) ++ rest)) ≡ 0
here_step true r e rest f same = refl
here_step false r e rest f same = absurd (let own : (r == e.receipt) ≡ true = grind (arith, same) in let apart : true ≡ false = sym own ∙ f in cc)

-- the entry at a place isn't claimed any more
freed_at : (r : ℕ) (es : List Entry) (i : ℕ) (e : Entry) → slice_get es i ≡ Some e → r ≡ e.receipt → claimed_number (take i es) ≡ 0 → claimed_number (take (suc i) (unmarked r es)) ≡ 0
freed_at r [] i e g same h = none_some e g
freed_at r (x ∷ es) zero e g same h = here_step (r == x.receipt) r x (unmarked r es) refl (same ∙ ap (λ (y : Entry). y.receipt) (some_same x e g))
freed_at r (x ∷ es) (suc i) e g same h = next_step (r == x.receipt) x (unmarked r es) (suc i) (omega (arith, h)) (freed_at r es i e g same (omega (arith, h)))

-- an entry that isn't claimed
passed_at : (es : List Entry) (i : ℕ) (e : Entry) → slice_get es i ≡ Some e → e.claimed ≡ false → claimed_number (take i es) ≡ 0 → claimed_number (take (suc i) es) ≡ 0
passed_at [] i e g free h = none_some e g
passed_at (x ∷ es) zero e g free h = let none : one_if x.claimed ≡ 0 = ap one_if (ap (λ (y : Entry). y.claimed) (sym (some_same x e g)) ∙ free) in omega (arith, none)
passed_at (x ∷ es) (suc i) e g free h = let rest = passed_at es i e g free (omega (arith, h)) in omega (arith, rest, h)

-- an entry that is
claimed_at : (es : List Entry) (i : ℕ) (e : Entry) → slice_get es i ≡ Some e → e.claimed ≡ true → is_claimed e.receipt es ≡ true
claimed_at [] i e g is = none_some e g
claimed_at (x ∷ es) zero e g is =
    let same : x ≡ e = sym (some_same x e g) in
    let own : (e.receipt == x.receipt) ≡ true = (let receipts = ap (λ (y : Entry). y.receipt) same in grind (arith, receipts)) in
    rw (own, ap (λ (y : Entry). y.claimed) same, is) refl
claimed_at (x ∷ es) (suc i) e g is = either (e.receipt == x.receipt && x.claimed) (is_claimed e.receipt es) (claimed_at es i e g is)
  where
    either : (a b : Bool) → b ≡ true → (a || b) ≡ true
    either true b h = refl
    either false b h = h

all_passed : (es : List Entry) (n : ℕ) → length es ≤ n → claimed_number (take n es) ≡ 0 → claimed_number es ≡ 0
all_passed [] n l h = refl
all_passed (x ∷ es) zero l h = absurd (omega (arith, l))
all_passed (x ∷ es) (suc n) l h = let rest = all_passed es n (omega (arith, l)) (omega (arith, h)) in omega (arith, rest, h)

pub none_is_left : (es : List Entry) (n : ℕ) → length es ≡ n → claimed_number (take n es) ≡ 0 → claimed_number es ≡ 0
none_is_left es n l h = all_passed es n (omega (arith, l)) h

pub is_claimed_at : (es : List Entry) (i : ℕ) (e : Entry) (r : ℕ) → slice_get es i ≡ Some e → r ≡ e.receipt → e.claimed ≡ true → is_claimed r es ≡ true
is_claimed_at es i e r g same is = subst (λ n. is_claimed n es ≡ true) (sym same) (claimed_at es i e g is)

-- ---- the core so far

module _ {D K : Type 0} (p : Ports D K) where
  pub record HasFreed (old new : CoreState D K) : Type 0 where
    pub up : is_down p new ≡ false
    pub sound : IsSoundCore p new
    pub others : OthersStay old new
    pub queue : new.queue ≡ old.queue
    pub store : new.store ≡ old.store
    pub releases : Releases (events_of old) (events_of new)
    pub submitted : (r : ℕ) (c : Command) → IsSubmitted r c old → IsSubmitted r c new
    pub stands : (start : History) → CoreStands p old start → CoreStands p new start
    pub length_is : length new.pending ≡ length old.pending
    pub last : new.last ≡ old.last

  pub none_freed : (old : CoreState D K) → IsSoundCore p old → is_down p old ≡ false → HasFreed old old
  none_freed old sound up = record {
    up = up;
    sound = sound;
    others = record { tables = refl; dead = refl; undone = refl; found = refl; opened_a = refl; opened_b = refl };
    queue = refl;
    store = refl;
    releases = record { more = []; only = tt; new_is = refl };
    submitted = λ r c s. s;
    stands = λ start s. s;
    length_is = refl;
    last = refl;
  }

  pub one_freed : (old mid new : CoreState D K) (r : ℕ) → HasFreed old mid → is_claimed r mid.pending ≡ true → HasReleased r mid new → HasFreed old new
  one_freed old mid new r so_far was h = record {
    up = (λ i. h.others.undone i || (queue_down (h.queue i) || p.store_down (h.store i))) ∙ so_far.up;
    sound = release_sound p r mid new so_far.sound (did_release so_far.up was h);
    others = record {
      tables = h.others.tables ∙ so_far.others.tables;
      dead = h.others.dead ∙ so_far.others.dead;
      undone = h.others.undone ∙ so_far.others.undone;
      found = h.others.found ∙ so_far.others.found;
      opened_a = h.others.opened_a ∙ so_far.others.opened_a;
      opened_b = h.others.opened_b ∙ so_far.others.opened_b;
    };
    queue = h.queue ∙ so_far.queue;
    store = h.store ∙ so_far.store;
    releases = record { more = Release r ∷ so_far.releases.more; only = so_far.releases.only; new_is = h.events ∙ ap (λ (g : History). Release r ∷ g) so_far.releases.new_is };
    submitted = λ q c s. release_submitted p r mid new (did_release so_far.up was h) q c (so_far.submitted q c s);
    stands = λ start s. release_stands p r mid new so_far.sound start (so_far.stands start s) (did_release so_far.up was h);
    last = h.last ∙ so_far.last;
    length_is = ap length h.pending ∙ marked_length r false mid.pending ∙ so_far.length_is;
  }

-- the entries up to a place are free
pub one_is_passed : (es : List Entry) (i : ℕ) (e : Entry) → slice_get es i ≡ Some e → e.claimed ≡ false → claimed_number (take i es) ≡ 0 → claimed_number (take (i + 1) es) ≡ 0
one_is_passed es i e g free h = subst (λ n. claimed_number (take n es) ≡ 0) (sym (add-one i)) (passed_at es i e g free h)

pub one_is_freed : (es new : List Entry) (i : ℕ) (e : Entry) (r : ℕ) → slice_get es i ≡ Some e → r ≡ e.receipt → new ≡ unmarked r es → claimed_number (take i es) ≡ 0 → claimed_number (take (i + 1) new) ≡ 0
one_is_freed es new i e r g same is h =
    subst (λ n. claimed_number (take n new) ≡ 0) (sym (add-one i)) (subst (λ (fs : List Entry). claimed_number (take (suc i) fs) ≡ 0) (sym is) (freed_at r es i e g same h))

-- where none is counted as claimed, none is
none_step : (a b x : Bool) (n : ℕ) → one_if b + n ≡ 0 → (n ≡ 0 → x ≡ false) → ((a && b) || x) ≡ false
none_step true true x n h next = absurd (omega (arith, h))
none_step true false x n h next = next (omega (arith, h))
none_step false b x n h next = next (omega (arith, h))

pub none_claimed : (es : List Entry) → claimed_number es ≡ 0 → (r : ℕ) → is_claimed r es ≡ false
none_claimed [] h r = refl
none_claimed (e ∷ es) h r = none_step (r == e.receipt) e.claimed (is_claimed r es) (claimed_number es) h (λ n. none_claimed es n r)
