-- The index stands after a command comes in, is claimed, is given back, has failed or goes.
use Rattle.std.proofs.Common.{◌≡◌, ◌∙◌, ℕ, ◌<◌, ◌==◌, List, [], ◌∷◌, ◌++◌, arith, refl, sym, ap, subst, Bool, true, false, not, ◌&&◌, ◌⊎◌, inl, inr, if◌then◌else◌, Option, Some, None}
use Rattle.entry_tree.proofs.of_plain_laws.Members.{Among, Among-append_cases, All-Among, All-from_Among}
use Rattle.entry_tree.specs.core_spec.declared.entry.Entry.{Entry}
use Rattle.entry_tree.specs.core_spec.Commands.{Key}
use Rattle.entry_tree.specs.core_machine.Claims.{holds_back, is_held, is_candidate}
use Rattle.entry_tree.specs.core_machine.Steps.{marked}
use Rattle.entry_tree.specs.declared.waiting.Change.TheVariants.{Claimed, Failed}
use Rattle.entry_tree.specs.declared.waiting.Waiting.{Waiting}
use Rattle.entry_tree.specs.Waits.{edited, changed_by}
use Rattle.supersede_core.specs.declared.handover.Handover.{Handover}
use Rattle.supersede_core.specs.declared.turns.Turns.{Turns}
use Rattle.supersede_core.specs.Waiting.{Rises, entry_of, counted, AreBelow}
use Rattle.supersede_core.specs.Turns.{members_at, IsHandover}
use Rattle.supersede_core.specs.Index.{key_text, key_parts, key_of_group, is_of, IsKey, is_ranked, entries, AreKeyed, Stands, IsIndex}
use Rattle.supersede_core.specs.Handover.{handed, EntersAs, ClaimsAs, ReleasesAs, LeavesAs}
use Rattle.supersede_core.proofs.ChangedEntries.{changed_rises, left_rises, more_rises}
use Rattle.supersede_core.proofs.KeyLaws.{text_is}
use Rattle.supersede_core.proofs.AnyLaws.{left, changed, any_own, any_changed, claims_own, claims_changed}
use Rattle.supersede_core.proofs.StandingTurns.{enters_stand, claims_stand, releases_stand, leaves_stand}
use Rattle.supersede_core.proofs.TurnLaws.{opt_is, IsGroup, alone, turn_is_candidate, turn_is_of, turn_is_among}
use Rattle.supersede_core.proofs.TreeEntries.{Keeps, claims_keep, failures_keep, comes_from, stayed, mark_after, entries_more, entries_marked, entries_counted, entries_left}
use Rattle.supersede_core.proofs.IndexLaws.{apart_none, apart_group, handed_index, mark_in_group, mark_elsewhere, candidate_same, same_changed, same_left, same_more, group_at, by_group, entry_among, was_marked}

-- the one of the receipt
pub record IsThere (r : ℕ) (ws : List Waiting) (x : Waiting) : Type 0 where
  pub rises : Rises (entries ws)
  pub among : Among x ws
  pub receipt : x.entry.receipt ≡ r
  pub entry : entry_of r (entries ws) ≡ Some x.entry

by_test : {P : Type 0} (b : Bool) → (b ≡ true → P) → (b ≡ false → P) → P
by_test true f g = f refl
by_test false f g = g refl

same_entry : (r : ℕ) (ws : List Waiting) (x v : Waiting) → IsThere r ws x → Among v ws → (r == v.entry.receipt) ≡ true → v.entry ≡ x.entry
same_entry r ws x v h a t = alone (entries ws) v.entry x.entry h.rises (entry_among ws v a) (entry_among ws x h.among) (let own = h.receipt in grind arith)

other_group : (r : ℕ) (ws : List Waiting) (x v : Waiting) (l : Key) → IsThere r ws x → x.entry.group ≡ Some l → Among v ws → is_of (key_text l.0) v.entry.group ≡ false → (r == v.entry.receipt) ≡ false
other_group r ws x v l h g a n = by_test (r == v.entry.receipt)
    (λ t. absurd (
    let one = same_entry r ws x v h a t in
    let of : is_of (key_text l.0) v.entry.group ≡ true = ap (λ (e : Entry). is_of (key_text l.0) e.group) one ∙ ap (is_of (key_text l.0)) g ∙ text_is (key_text l.0) (key_text l.0) refl in
    cc))
    (λ f. f)

keyed_from : (r : ℕ) (f : Waiting → Waiting) (ws : List Waiting) → Keeps f → AreKeyed ws → AreKeyed (edited r (λ w. f w ∷ []) ws)
keyed_from r f ws k h =
    All-from_Among (λ (w : Waiting). IsKey w.key w.entry.group) (edited r (λ w. f w ∷ []) ws) (λ w a.
    let from = comes_from r f ws w k a in
    ap key_parts from.2.key ∙ All-Among (λ (w : Waiting). IsKey w.key w.entry.group) ws from.0 h from.1 ∙ ap key_of_group (sym from.2.group))

-- ---- the mark of a claim is set or taken off

marked_group : (c : Bool) (r : ℕ) (ws : List Waiting) (x : Waiting) (l : Key) (t u : Turns) (h : Handover) → IsThere r ws x → x.entry.group ≡ Some l → IsIndex ws t
    → Stands u (changed r (marked c) (entries ws)) → IsHandover (members_at t (key_text l.0)) (members_at u (key_text l.0)) h → IsIndex (handed h (edited r (λ w. changed_by (Claimed c) w ∷ []) ws)) u
marked_group c r ws x l t u h there g i s turn =
    let es : List Entry = entries ws in
    let fs : List Entry = changed r (marked c) es in
    let k : List ℕ = key_text l.0 in
    let was : IsGroup es k (members_at t k) h.before = group_at es t k h.before there.rises i.stands turn.before in
    let now : IsGroup fs k (members_at u k) h.after = group_at fs u k h.after (changed_rises r (marked c) es (λ e. refl) there.rises) s turn.after in
    let ends : entries (edited r (λ w. changed_by (Claimed c) w ∷ []) ws) ≡ fs = entries_marked r c ws in
    handed_index h (edited r (λ w. changed_by (Claimed c) w ∷ []) ws) fs u ends (changed_rises r (marked c) es (λ e. refl) there.rises) (keyed_from r (changed_by (Claimed c)) ws (claims_keep c) i.keyed) s (λ w a.
    let from = comes_from r (changed_by (Claimed c)) ws w (claims_keep c) a in
    let v : Waiting = from.0 in
    let inside : Among w.entry fs = subst (Among w.entry) ends (entry_among (edited r (λ w. changed_by (Claimed c) w ∷ []) ws) w a) in
    by_group {P = mark_after h w ≡ is_candidate fs w.entry} k w.entry.group
    (λ m j text. mark_in_group h w fs
    (from.2.candidate ∙ was_marked ws t v i from.1 ∙ turn_is_candidate es k (members_at t k) h.before v.entry m was (entry_among ws v from.1) (sym from.2.group ∙ j) text ∙ ap (opt_is h.before) (sym from.2.receipt))
    (turn_is_candidate fs k (members_at u k) h.after w.entry m now inside j text))
    (λ n.
    let away : is_of k v.entry.group ≡ false = ap (is_of k) (sym from.2.group) ∙ n in
    let same : w ≡ v = from.2.same (other_group r ws x v l there g from.1 away) in
    mark_elsewhere h w (turn_is_of fs k (members_at u k) h.after w.entry now inside n)
    (ap (opt_is h.before) from.2.receipt ∙ turn_is_of es k (members_at t k) h.before v.entry was (entry_among ws v from.1) away)
    ∙ from.2.candidate ∙ was_marked ws t v i from.1
    ∙ sym (same_changed r (marked c) es x.entry v.entry (Some l) there.rises there.entry g (λ y. refl) (apart_group v.entry l away))
    ∙ ap (λ (y : Waiting). is_candidate fs y.entry) (sym same)))

-- what is handed on where the command has no group
record IsLone (c : Bool) (r : ℕ) (h : Handover) : Type 0 where
  own : (w : Waiting) → (r == w.entry.receipt) ≡ true → mark_after h w ≡ (not c && not false)
  after : (n : ℕ) → (r == n) ≡ false → opt_is h.after n ≡ false
  before : (n : ℕ) → (r == n) ≡ false → opt_is h.before n ≡ false

lone_entry : (es : List Entry) (e : Entry) (c : Bool) → e.group ≡ None → e.claimed ≡ c → is_candidate es e ≡ (not c && not false)
lone_entry es e c g f = λ i. not (f i) && not (is_held (g i) e.receipt es)

marked_lone : (c : Bool) (r : ℕ) (ws : List Waiting) (x : Waiting) (t u : Turns) (h : Handover) → IsThere r ws x → x.entry.group ≡ None → IsIndex ws t
    → Stands u (changed r (marked c) (entries ws)) → IsLone c r h → IsIndex (handed h (edited r (λ w. changed_by (Claimed c) w ∷ []) ws)) u
marked_lone c r ws x t u h there g i s lone =
    let es : List Entry = entries ws in
    let fs : List Entry = changed r (marked c) es in
    handed_index h (edited r (λ w. changed_by (Claimed c) w ∷ []) ws) fs u (entries_marked r c ws) (changed_rises r (marked c) es (λ e. refl) there.rises) (keyed_from r (changed_by (Claimed c)) ws (claims_keep c) i.keyed) s (λ w a.
    let from = comes_from r (changed_by (Claimed c)) ws w (claims_keep c) a in
    let v : Waiting = from.0 in
    by_test {P = mark_after h w ≡ is_candidate fs w.entry} (r == v.entry.receipt)
    (λ hit.
    let is : w ≡ changed_by (Claimed c) v = from.3 hit in
    let none : w.entry.group ≡ None = from.2.group ∙ ap (λ (e : Entry). e.group) (same_entry r ws x v there from.1 hit) ∙ g in
    lone.own w (ap (λ n. r == n) from.2.receipt ∙ hit) ∙ sym (lone_entry fs w.entry c none (ap (λ (y : Waiting). y.entry.claimed) is)))
    (λ miss.
    let same : w ≡ v = from.2.same miss in
    let other : (r == w.entry.receipt) ≡ false = ap (λ n. r == n) from.2.receipt ∙ miss in
    mark_elsewhere h w (lone.after w.entry.receipt other) (lone.before w.entry.receipt other)
    ∙ from.2.candidate ∙ was_marked ws t v i from.1
    ∙ sym (same_changed r (marked c) es x.entry v.entry None there.rises there.entry g (λ y. refl) (apart_none v.entry))
    ∙ ap (λ (y : Waiting). is_candidate fs y.entry) (sym same)))

hit_first : (r s n : ℕ) → s ≡ r → (r == n) ≡ true → (s == n) ≡ true
hit_first r s n e h = ap (λ m. m == n) e ∙ h

hit_none : (r s n : ℕ) → s ≡ r → (r == n) ≡ false → (s == n) ≡ false
hit_none r s n e h = ap (λ m. m == n) e ∙ h

claimed_lone : (r s : ℕ) (h : Handover) → s ≡ r → h.before ≡ Some s → h.after ≡ None → IsLone true r h
claimed_lone r s h e b a = record {
  own = λ w t. (λ i. if opt_is (a i) w.entry.receipt then true else (if opt_is (b i) w.entry.receipt then false else w.candidate)) ∙ ap (λ x. if x then false else w.candidate) (hit_first r s w.entry.receipt e t);
  after = λ n t. ap (λ o. opt_is o n) a;
  before = λ n t. ap (λ o. opt_is o n) b ∙ hit_none r s n e t;
}

released_lone : (r s : ℕ) (h : Handover) → s ≡ r → h.before ≡ None → h.after ≡ Some s → IsLone false r h
released_lone r s h e b a = record {
  own = λ w t. (λ i. if opt_is (a i) w.entry.receipt then true else (if opt_is (b i) w.entry.receipt then false else w.candidate)) ∙ ap (λ x. if x then true else w.candidate) (hit_first r s w.entry.receipt e t);
  after = λ n t. ap (λ o. opt_is o n) a ∙ hit_none r s n e t;
  before = λ n t. ap (λ o. opt_is o n) b;
}

claimed_as : (o : Option Key) (r : ℕ) (ws : List Waiting) (x : Waiting) (t u : Turns) (h : Handover) → x.entry.group ≡ o → IsThere r ws x → x.entry.claimed ≡ false → IsIndex ws t → ClaimsAs (key_of_group o) x.entry.receipt t u h
    → IsIndex (handed h (edited r (λ w. changed_by (Claimed true) w ∷ []) ws)) u
claimed_as None r ws x t u h g there c i e =
    marked_lone true r ws x t u h there g i (claims_stand None r x.entry (entries ws) t u h g c there.rises there.entry i.stands e) (claimed_lone r x.entry.receipt h there.receipt e.before e.after)
claimed_as (Some l) r ws x t u h g there c i e =
    marked_group true r ws x l t u h there g i (claims_stand (Some l) r x.entry (entries ws) t u h g c there.rises there.entry i.stands e) e.turn

released_as : (o : Option Key) (r : ℕ) (ws : List Waiting) (x : Waiting) (t u : Turns) (h : Handover) → x.entry.group ≡ o → IsThere r ws x → x.entry.claimed ≡ true → IsIndex ws t → ReleasesAs (key_of_group o) x.entry.receipt t u h
    → IsIndex (handed h (edited r (λ w. changed_by (Claimed false) w ∷ []) ws)) u
released_as None r ws x t u h g there c i e =
    marked_lone false r ws x t u h there g i (releases_stand None r x.entry (entries ws) t u h g c there.rises there.entry i.stands e) (released_lone r x.entry.receipt h there.receipt e.before e.after)
released_as (Some l) r ws x t u h g there c i e =
    marked_group false r ws x l t u h there g i (releases_stand (Some l) r x.entry (entries ws) t u h g c there.rises there.entry i.stands e) e.turn

-- ---- it goes

keyed_left : (r : ℕ) (ws : List Waiting) → AreKeyed ws → AreKeyed (edited r (λ w. []) ws)
keyed_left r ws h = All-from_Among (λ (w : Waiting). IsKey w.key w.entry.group) (edited r (λ w. []) ws) (λ w a. All-Among (λ (w : Waiting). IsKey w.key w.entry.group) ws w h (stayed r ws w a).0)

left_as : (o : Option Key) (r : ℕ) (ws : List Waiting) (x : Waiting) (t u : Turns) (h : Handover) → x.entry.group ≡ o → IsThere r ws x → IsIndex ws t → LeavesAs (key_of_group o) x.entry.receipt x.entry.claimed t u h
    → IsIndex (handed h (edited r (λ w. []) ws)) u
left_as None r ws x t u h g there i e =
    let s = leaves_stand None r x.entry (entries ws) t u h g there.receipt there.rises there.entry i.stands e in
    handed_index h (edited r (λ w. []) ws) (left r (entries ws)) u (entries_left r ws) (left_rises r (entries ws) there.rises) (keyed_left r ws i.keyed) s (λ w a.
    let stay = stayed r ws w a in
    mark_elsewhere h w (ap (λ o. opt_is o w.entry.receipt) e.after) (ap (λ o. opt_is o w.entry.receipt) e.before)
    ∙ was_marked ws t w i stay.0
    ∙ sym (same_left r (entries ws) x.entry w.entry None there.rises there.entry g (apart_none w.entry)))
left_as (Some l) r ws x t u h g there i e =
    let es : List Entry = entries ws in
    let fs : List Entry = left r es in
    let k : List ℕ = key_text l.0 in
    let s : Stands u fs = leaves_stand (Some l) r x.entry es t u h g there.receipt there.rises there.entry i.stands e in
    let was : IsGroup es k (members_at t k) h.before = group_at es t k h.before there.rises i.stands e.turn.before in
    let now : IsGroup fs k (members_at u k) h.after = group_at fs u k h.after (left_rises r es there.rises) s e.turn.after in
    let ends : entries (edited r (λ w. []) ws) ≡ fs = entries_left r ws in
    handed_index h (edited r (λ w. []) ws) fs u ends (left_rises r es there.rises) (keyed_left r ws i.keyed) s (λ w a.
    let stay = stayed r ws w a in
    let inside : Among w.entry fs = subst (Among w.entry) ends (entry_among (edited r (λ w. []) ws) w a) in
    by_group {P = mark_after h w ≡ is_candidate fs w.entry} k w.entry.group
    (λ m j text. mark_in_group h w fs
    (was_marked ws t w i stay.0 ∙ turn_is_candidate es k (members_at t k) h.before w.entry m was (entry_among ws w stay.0) j text)
    (turn_is_candidate fs k (members_at u k) h.after w.entry m now inside j text))
    (λ n.
    mark_elsewhere h w (turn_is_of fs k (members_at u k) h.after w.entry now inside n) (turn_is_of es k (members_at t k) h.before w.entry was (entry_among ws w stay.0) n)
    ∙ was_marked ws t w i stay.0
    ∙ sym (same_left r es x.entry w.entry (Some l) there.rises there.entry g (apart_group w.entry l n))))

-- ---- it comes in

keyed_more : (ws : List Waiting) (x : Waiting) → AreKeyed ws → IsKey x.key x.entry.group → AreKeyed (ws ++ x ∷ [])
keyed_more [] x h k = (k, tt)
keyed_more (w ∷ ws) x h k = (h.0, keyed_more ws x h.1 k)

pub record IsNew (ws : List Waiting) (x : Waiting) : Type 0 where
  pub rises : Rises (entries ws)
  pub above : AreBelow x.entry.receipt (entries ws)
  pub key : IsKey x.key x.entry.group
  pub claimed : x.entry.claimed ≡ false
  pub candidate : x.candidate ≡ false

below_other : (es : List Entry) (n : ℕ) (e : Entry) → AreBelow n es → Among e es → (n == e.receipt) ≡ false
below_other es n e h a = let less : e.receipt < n = All-Among (λ (e : Entry). e.receipt < n) es e h a in grind arith

old_or_new : {P : Type 0} (ws : List Waiting) (x w : Waiting) → Among w (ws ++ x ∷ []) → (Among w ws → P) → (w ≡ x → P) → P
old_or_new {P} ws x w a f g = by_place (Among-append_cases ws (x ∷ []) w a)
  where
    by_place : Among w ws ⊎ Among w (x ∷ []) → P
    by_place (inl b) = f b
    by_place (inr (inl e)) = g e
    by_place (inr (inr n)) = absurd n

before_below : (es : List Entry) (k : List ℕ) (t : Turns) (turn : Option ℕ) (n : ℕ) → IsGroup es k (members_at t k) turn → AreBelow n es → opt_is turn n ≡ false
before_below es k t None n h b = refl
before_below es k t (Some s) n h b =
    let one = turn_is_among es k (members_at t k) s h in
    let less : one.0.receipt < n = All-Among (λ (e : Entry). e.receipt < n) es one.0 b one.1 in
    let own = one.2 in grind arith

entered_as : (o : Option Key) (ws : List Waiting) (x : Waiting) (t u : Turns) (h : Handover) → x.entry.group ≡ o → IsNew ws x → IsIndex ws t → EntersAs (key_of_group o) x.entry.receipt t u h → IsIndex (handed h (ws ++ x ∷ [])) u
entered_as None ws x t u h g new i e =
    let es : List Entry = entries ws in
    let fs : List Entry = es ++ x.entry ∷ [] in
    let s = enters_stand None x.entry es t u h g new.claimed i.stands e in
    let lone : IsLone false x.entry.receipt h = released_lone x.entry.receipt x.entry.receipt h refl e.before e.after in
    handed_index h (ws ++ x ∷ []) fs u (entries_more ws x) (more_rises es x.entry new.rises new.above) (keyed_more ws x i.keyed new.key) s (λ w a.
    old_or_new {P = mark_after h w ≡ is_candidate fs w.entry} ws x w a
    (λ b.
    let other : (x.entry.receipt == w.entry.receipt) ≡ false = below_other es x.entry.receipt w.entry new.above (entry_among ws w b) in
    mark_elsewhere h w (lone.after w.entry.receipt other) (lone.before w.entry.receipt other)
    ∙ was_marked ws t w i b ∙ sym (same_more es x.entry w.entry None g (apart_none w.entry)))
    (λ same.
    let n : w.entry.receipt ≡ x.entry.receipt = ap (λ (y : Waiting). y.entry.receipt) same in
    lone.own w (grind arith) ∙ sym (lone_entry fs w.entry false (ap (λ (y : Waiting). y.entry.group) same ∙ g) (ap (λ (y : Waiting). y.entry.claimed) same ∙ new.claimed))))
entered_as (Some l) ws x t u h g new i e =
    let es : List Entry = entries ws in
    let fs : List Entry = es ++ x.entry ∷ [] in
    let k : List ℕ = key_text l.0 in
    let s : Stands u fs = enters_stand (Some l) x.entry es t u h g new.claimed i.stands e in
    let was : IsGroup es k (members_at t k) h.before = group_at es t k h.before new.rises i.stands e.turn.before in
    let now : IsGroup fs k (members_at u k) h.after = group_at fs u k h.after (more_rises es x.entry new.rises new.above) s e.turn.after in
    let ends : entries (ws ++ x ∷ []) ≡ fs = entries_more ws x in
    handed_index h (ws ++ x ∷ []) fs u ends (more_rises es x.entry new.rises new.above) (keyed_more ws x i.keyed new.key) s (λ w a.
    let inside : Among w.entry fs = subst (Among w.entry) ends (entry_among (ws ++ x ∷ []) w a) in
    old_or_new {P = mark_after h w ≡ is_candidate fs w.entry} ws x w a
    (λ b. by_group {P = mark_after h w ≡ is_candidate fs w.entry} k w.entry.group
    (λ m j text. mark_in_group h w fs
    (was_marked ws t w i b ∙ turn_is_candidate es k (members_at t k) h.before w.entry m was (entry_among ws w b) j text)
    (turn_is_candidate fs k (members_at u k) h.after w.entry m now inside j text))
    (λ n.
    mark_elsewhere h w (turn_is_of fs k (members_at u k) h.after w.entry now inside n) (turn_is_of es k (members_at t k) h.before w.entry was (entry_among ws w b) n)
    ∙ was_marked ws t w i b ∙ sym (same_more es x.entry w.entry (Some l) g (apart_group w.entry l n))))
    (λ same. mark_in_group h w fs
    (ap (λ (y : Waiting). y.candidate) same ∙ new.candidate ∙ sym (before_below es k t h.before x.entry.receipt was new.above) ∙ ap (λ (y : Waiting). opt_is h.before y.entry.receipt) (sym same))
    (turn_is_candidate fs k (members_at u k) h.after w.entry l now inside (ap (λ (y : Waiting). y.entry.group) same ∙ g) refl)))

-- ---- as the code does it, for the text that is kept beside the entry

pub claimed_index : (r : ℕ) (ws : List Waiting) (x : Waiting) (t u : Turns) (h : Handover) → IsThere r ws x → x.entry.claimed ≡ false → IsIndex ws t → ClaimsAs (key_parts x.key) x.entry.receipt t u h
    → IsIndex (handed h (edited r (λ w. changed_by (Claimed true) w ∷ []) ws)) u
claimed_index r ws x t u h there c i e = claimed_as x.entry.group r ws x t u h refl there c i (subst (λ o. ClaimsAs o x.entry.receipt t u h) (All-Among (λ (w : Waiting). IsKey w.key w.entry.group) ws x i.keyed there.among) e)

pub released_index : (r : ℕ) (ws : List Waiting) (x : Waiting) (t u : Turns) (h : Handover) → IsThere r ws x → x.entry.claimed ≡ true → IsIndex ws t → ReleasesAs (key_parts x.key) x.entry.receipt t u h
    → IsIndex (handed h (edited r (λ w. changed_by (Claimed false) w ∷ []) ws)) u
released_index r ws x t u h there c i e = released_as x.entry.group r ws x t u h refl there c i (subst (λ o. ReleasesAs o x.entry.receipt t u h) (All-Among (λ (w : Waiting). IsKey w.key w.entry.group) ws x i.keyed there.among) e)

pub left_index : (r : ℕ) (ws : List Waiting) (x : Waiting) (t u : Turns) (h : Handover) → IsThere r ws x → IsIndex ws t → LeavesAs (key_parts x.key) x.entry.receipt x.entry.claimed t u h → IsIndex (handed h (edited r (λ w. []) ws)) u
left_index r ws x t u h there i e = left_as x.entry.group r ws x t u h refl there i (subst (λ o. LeavesAs o x.entry.receipt x.entry.claimed t u h) (All-Among (λ (w : Waiting). IsKey w.key w.entry.group) ws x i.keyed there.among) e)

pub entered_index : (ws : List Waiting) (x : Waiting) (t u : Turns) (h : Handover) → IsNew ws x → IsIndex ws t → EntersAs (key_parts x.key) x.entry.receipt t u h → IsIndex (handed h (ws ++ x ∷ [])) u
entered_index ws x t u h new i e = entered_as x.entry.group ws x t u h refl new i (subst (λ o. EntersAs o x.entry.receipt t u h) new.key e)

-- ---- it failed once more

counted_stand : (r : ℕ) (es : List Entry) (x : Entry) (t : Turns) → Rises es → entry_of r es ≡ Some x → Stands t es → Stands t (changed r counted es)
counted_stand r es x t up there s = record {
  ranks = λ k q. s.ranks k q ∙ any_own (λ (f : Entry). is_ranked k q f.receipt f.group) r es x up there ∙ sym (any_changed (λ (f : Entry). is_ranked k q f.receipt f.group) r counted es x up there);
  claims = λ k. s.claims k ∙ claims_own k r es x up there ∙ sym (claims_changed k r counted es x up there);
}

counted_held : (r : ℕ) (es : List Entry) (x e : Entry) → Rises es → entry_of r es ≡ Some x → is_candidate (changed r counted es) e ≡ is_candidate es e
counted_held r es x e up there = candidate_same e es (changed r counted es) (λ m i.
    any_changed (λ (y : Entry). holds_back m e.receipt y y.group) r counted es x up there ∙ sym (any_own (λ (y : Entry). holds_back m e.receipt y y.group) r es x up there))

pub counted_index : (r : ℕ) (ws : List Waiting) (x : Waiting) (t : Turns) → IsThere r ws x → IsIndex ws t → IsIndex (edited r (λ w. changed_by Failed w ∷ []) ws) t
counted_index r ws x t there i =
    let es : List Entry = entries ws in
    let vs : List Waiting = edited r (λ w. changed_by Failed w ∷ []) ws in
    let ends : entries vs ≡ changed r counted es = entries_counted r ws in
    record {
      rises = subst Rises (sym ends) (changed_rises r counted es (λ e. refl) there.rises);
      keyed = keyed_from r (changed_by Failed) ws failures_keep i.keyed;
      stands = subst (Stands t) (sym ends) (counted_stand r es x.entry t there.rises there.entry i.stands);
      marked = All-from_Among (λ (w : Waiting). w.candidate ≡ is_candidate (entries vs) w.entry) vs (λ w a.
          let from = comes_from r (changed_by Failed) ws w failures_keep a in
          let v : Waiting = from.0 in
          by_test {P = w.candidate ≡ is_candidate (entries vs) w.entry} (r == v.entry.receipt)
          (λ hit.
          let is : w ≡ changed_by Failed v = from.3 hit in
          from.2.candidate ∙ was_marked ws t v i from.1 ∙ sym (counted_held r es x.entry v.entry there.rises there.entry)
          ∙ ap (λ gs. is_candidate gs v.entry) (sym ends) ∙ ap (λ (y : Waiting). is_candidate (entries vs) y.entry) (sym is))
          (λ miss.
          let same : w ≡ v = from.2.same miss in
          from.2.candidate ∙ was_marked ws t v i from.1 ∙ sym (counted_held r es x.entry v.entry there.rises there.entry)
          ∙ ap (λ gs. is_candidate gs v.entry) (sym ends) ∙ ap (λ (y : Waiting). is_candidate (entries vs) y.entry) (sym same)));
    }
