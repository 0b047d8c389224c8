-- Whose turn it is in a group is its candidate, and in no other group.
use Rattle.std.proofs.Common.{◌≡◌, ◌≢◌, ◌∙◌, ℕ, ℤ, zero, suc, ◌<◌, ◌+◌, ◌==◌, List, [], ◌∷◌, arith, refl, sym, ap, subst, Bool, true, false, not, cond, ◌&&◌, ◌||◌, ◌⊎◌, inl, inr, if◌then◌else◌, Option, Some, None, int_lt, nat_cmp, int_cmp}
use Rattle.std.specs.List.{list_any}
use Rattle.std.specs.declared.cmp.Ordering.{Ordering}
use Rattle.std.specs.declared.cmp.Ordering.TheVariants.{Less, Equal, Greater}
use Rattle.std.specs.Ordering.{ordering_then, is_eq, is_lt}
use Rattle.std.specs.Str.{bytes_eq}
use Rattle.std.specs.Cmp.{IsTotalOrder, Equal-is}
use Rattle.std.proofs.lemmas.Cmp.{nat_cmp_total, int_cmp_total, on_total, then_total, tied_itself, alike_right}
use Rattle.entry_tree.proofs.of_plain_laws.Lists.{one_text}
use Rattle.entry_tree.proofs.of_plain_laws.Booleans.{both_true, or_falses, or_right, or_left}
use Rattle.entry_tree.proofs.of_plain_laws.Members.{Among, All-Among}
use Rattle.entry_tree.specs.core_spec.declared.entry.Entry.{Entry}
use Rattle.entry_tree.specs.core_spec.Commands.{Key}
use Rattle.entry_tree.specs.core_machine.Claims.{same_group, holds_back, is_held, is_candidate}
use Rattle.supersede_core.specs.declared.members.Members.{Members}
use Rattle.supersede_core.specs.Waiting.{Rises}
use Rattle.supersede_core.specs.Turns.{rank_order, has, claims, IsGreatest, IsTurn}
use Rattle.supersede_core.specs.Index.{key_text, is_of, is_ranked, has_rank, claimed_number}
use Rattle.supersede_core.proofs.KeyLaws.{same_text, text_is}

abbrev pub opt_is : Option ℕ → ℕ → Bool
opt_is None r = false
opt_is (Some s) r = s == r

-- ---- ranks

rank_total : IsTotalOrder rank_order
rank_total = then_total (on_total (λ (x : ℤ × ℕ). x.0) int_cmp_total) (on_total (λ (x : ℤ × ℕ). x.1) nat_cmp_total)

other_step : (a b : Bool) (r n : ℕ) → (r == n) ≡ false → is_lt (ordering_then (cond a Less (cond b Greater Equal)) (nat_cmp r n)) ≡ false → is_lt (ordering_then (cond b Less (cond a Greater Equal)) (nat_cmp n r)) ≡ true
other_step true b r n d e = absurd (cc)
other_step false true r n d e = refl
other_step false false r n d e = grind arith

-- of two ranks with other receipts, one is below the other
other_way : (x y : ℤ × ℕ) → (x.1 == y.1) ≡ false → is_lt (rank_order x y) ≡ false → is_lt (rank_order y x) ≡ true
other_way x y d e = other_step (int_lt x.0 y.0) (int_lt y.0 x.0) x.1 y.1 d e

-- ---- tests

pub not_true : (b : Bool) → (b ≡ true → ⊥) → b ≡ false
not_true true h = absurd (h refl)
not_true false h = refl

any_there : (p : Entry → Bool) (es : List Entry) (e : Entry) → Among e es → p e ≡ true → list_any p es ≡ true
any_there p [] e a t = absurd a
any_there p (f ∷ es) e (inl same) t = rw (sym (ap p same) ∙ t) refl
any_there p (f ∷ es) e (inr a) t = or_true (p f) (list_any p es) (any_there p es e a t)
  where
    or_true : (a b : Bool) → b ≡ true → (a || b) ≡ true
    or_true true b e = refl
    or_true false b e = e

none_there : (p : Entry → Bool) (es : List Entry) → ((e : Entry) → Among e es → p e ≡ false) → list_any p es ≡ false
none_there p [] h = refl
none_there p (f ∷ es) h = rw (h f (inl refl)) (none_there p es (λ e a. h e (inr a)))

found_step : (p : Entry → Bool) (f : Entry) (es : List Entry) (b : Bool) → p f ≡ b → (b || list_any p es) ≡ true → (list_any p es ≡ true → (e : Entry) × Among e es × (p e ≡ true)) → (e : Entry) × Among e (f ∷ es) × (p e ≡ true)
found_step p f es true g h next = (f, inl refl, g)
found_step p f es false g h next = let rest = next h in (rest.0, inr rest.1, rest.2)

pub one_passes : (p : Entry → Bool) (es : List Entry) → list_any p es ≡ true → (e : Entry) × Among e es × (p e ≡ true)
one_passes p [] h = absurd (cc)
one_passes p (f ∷ es) h = found_step p f es (p f) refl h (one_passes p es)

-- ---- no two entries have one receipt

pub alone : (es : List Entry) (e f : Entry) → Rises es → Among e es → Among f es → e.receipt ≡ f.receipt → e ≡ f
alone [] e f h a b same = absurd a
alone (g ∷ es) e f h (inl a) (inl b) same = a ∙ sym b
alone (g ∷ es) e f h (inl a) (inr b) same =
    let above : g.receipt < f.receipt = All-Among (λ (x : Entry). g.receipt < x.receipt) es f h.0 b in
    let own : e.receipt ≡ g.receipt = ap (λ (x : Entry). x.receipt) a in absurd (omega (arith, above, own, same))
alone (g ∷ es) e f h (inr a) (inl b) same =
    let above : g.receipt < e.receipt = All-Among (λ (x : Entry). g.receipt < x.receipt) es e h.0 a in
    let own : f.receipt ≡ g.receipt = ap (λ (x : Entry). x.receipt) b in absurd (omega (arith, above, own, same))
alone (g ∷ es) e f h (inr a) (inr b) same = alone es e f h.1 a b same

-- ---- those that are claimed

claim_step : (k : List ℕ) (f : Entry) (es : List Entry) (a b : Bool) → is_of k f.group ≡ a → f.claimed ≡ b → 0 < (if a && b then 1 else 0) + claimed_number k es
    → (0 < claimed_number k es → (e : Entry) × Among e es × (is_of k e.group ≡ true) × (e.claimed ≡ true)) → (e : Entry) × Among e (f ∷ es) × (is_of k e.group ≡ true) × (e.claimed ≡ true)
claim_step k f es true true g h l next = (f, inl refl, g, h)
claim_step k f es true false g h l next = let rest = next (omega (arith, l)) in (rest.0, inr rest.1, rest.2, rest.3)
claim_step k f es false b g h l next = let rest = next (omega (arith, l)) in (rest.0, inr rest.1, rest.2, rest.3)

one_claimed : (k : List ℕ) (es : List Entry) → 0 < claimed_number k es → (e : Entry) × Among e es × (is_of k e.group ≡ true) × (e.claimed ≡ true)
one_claimed k [] l = absurd (omega (arith, l))
one_claimed k (f ∷ es) l = claim_step k f es (is_of k f.group) f.claimed refl refl l (one_claimed k es)

idle_step : (a b : Bool) (n : ℕ) → (if a && b then 1 else 0) + n ≡ 0 → a ≡ true → (b ≡ false)
idle_step true true n z e = absurd (omega (arith, z))
idle_step true false n z e = refl
idle_step false b n z e = absurd (cc)

none_claimed : (k : List ℕ) (es : List Entry) (e : Entry) → claimed_number k es ≡ 0 → Among e es → is_of k e.group ≡ true → e.claimed ≡ false
none_claimed k [] e z a g = absurd a
none_claimed k (f ∷ es) e z (inl same) g =
    ap (λ (x : Entry). x.claimed) same ∙ idle_step (is_of k f.group) f.claimed (claimed_number k es) z (sym (ap (λ (x : Entry). is_of k x.group) same) ∙ g)
none_claimed k (f ∷ es) e z (inr a) g = none_claimed k es e (omega (arith, z)) a g

-- ---- one holds back another

held_by : (m : Key) (r : ℕ) (k : List ℕ) (f : Entry) (o : Option Key) → f.group ≡ o → key_text m.0 ≡ k → is_of k o ≡ true
    → ((l : Key) → o ≡ Some l → (f.claimed || is_lt (rank_order (m.1, r) (l.1, f.receipt))) ≡ true) → holds_back m r f f.group ≡ true
held_by m r k f None g t i h = absurd (cc)
held_by m r k f (Some l) g t i h =
    let same : same_group m.0 l.0 ≡ true = sym (same_text m.0 l.0) ∙ text_is (key_text m.0) (key_text l.0) (t ∙ sym (one_text (key_text l.0) k i)) in
    ap (holds_back m r f) g ∙ rw same (h l refl)

free_step : (k : List ℕ) (m l : Key) (b c : Bool) → same_group m.0 l.0 ≡ b → key_text m.0 ≡ k → (is_of k (Some l) ≡ true → c ≡ false) → (b && c) ≡ false
free_step k m l true c e t h = h (text_is (key_text l.0) k (sym (one_text (key_text m.0) (key_text l.0) (same_text m.0 l.0 ∙ e)) ∙ t))
free_step k m l false c e t h = refl

free_of : (m : Key) (r : ℕ) (k : List ℕ) (f : Entry) (o : Option Key) → f.group ≡ o → key_text m.0 ≡ k
    → ((l : Key) → o ≡ Some l → is_of k o ≡ true → (f.claimed || is_lt (rank_order (m.1, r) (l.1, f.receipt))) ≡ false) → holds_back m r f f.group ≡ false
free_of m r k f None g t h = ap (holds_back m r f) g
free_of m r k f (Some l) g t h = ap (holds_back m r f) g ∙ free_step k m l (same_group m.0 l.0) (f.claimed || is_lt (rank_order (m.1, r) (l.1, f.receipt))) refl t (λ i. h l refl i)

-- ---- a group in which it is someone's turn

pub record IsGroup (es : List Entry) (k : List ℕ) (o : Option Members) (next : Option ℕ) : Type 0 where
  pub rises : Rises es
  pub ranks : (q : ℤ × ℕ) → has o q ≡ has_rank k q es
  pub claims : claims o ≡ claimed_number k es
  pub turn : IsTurn o next

-- the one of the greatest rank
record IsBest (es : List Entry) (k : List ℕ) (z : ℤ) (r : ℕ) : Type 0 where
  entry : Entry
  key : Key
  among : Among entry es
  group : entry.group ≡ Some key
  of : is_of k (Some key) ≡ true
  tied : rank_order (key.1, entry.receipt) (z, r) ≡ Equal
  receipt : entry.receipt ≡ r

best_of : (es : List Entry) (k : List ℕ) (z : ℤ) (r : ℕ) (f : Entry) (o : Option Key) → Among f es → f.group ≡ o → is_ranked k (z, r) f.receipt o ≡ true → IsBest es k z r
best_of es k z r f None a g e = absurd (cc)
best_of es k z r f (Some l) a g e =
    let parts = both_true (bytes_eq (key_text l.0) k) (is_eq (rank_order (l.1, f.receipt) (z, r))) e in
    let tied = (Equal-is (rank_order (l.1, f.receipt) (z, r))).0 parts.1 in
    record { entry = f; key = l; among = a; group = g; of = parts.0; tied = tied; receipt = tie_step (int_cmp l.1 z) f.receipt r tied }
  where
    tie_step : (o : Ordering) (m n : ℕ) → ordering_then o (nat_cmp m n) ≡ Equal → m ≡ n
    tie_step Less m n e = absurd (cc)
    tie_step Equal m n e = let t : is_eq (nat_cmp m n) ≡ true = ap is_eq e in grind arith
    tie_step Greater m n e = absurd (cc)

best : (es : List Entry) (k : List ℕ) (o : Option Members) (r : ℕ) → ((q : ℤ × ℕ) → has o q ≡ has_rank k q es) → (g : IsGreatest o r) → IsBest es k g.stamp r
best es k o r ranks g =
    let one = one_passes (λ (f : Entry). is_ranked k (g.stamp, r) f.receipt f.group) es (sym (ranks (g.stamp, r)) ∙ g.there) in
    best_of es k g.stamp r one.0 one.0.group one.1 refl one.2

own_rank : (k : List ℕ) (e : Entry) (m : Key) → e.group ≡ Some m → key_text m.0 ≡ k → is_ranked k (m.1, e.receipt) e.receipt e.group ≡ true
own_rank k e m g t =
    ap (is_ranked k (m.1, e.receipt) e.receipt) g
    ∙ (λ i. text_is (key_text m.0) k t i && is_eq (tied_itself rank_total (m.1, e.receipt) i))

pub of_key : (k : List ℕ) (f : Entry) (l : Key) (es : List Entry) → Among f es → f.group ≡ Some l → is_of k (Some l) ≡ true → has_rank k (l.1, f.receipt) es ≡ true
of_key k f l es a g i = any_there (λ (x : Entry). is_ranked k (l.1, f.receipt) x.receipt x.group) es f a (own_rank k f l g (one_text (key_text l.0) k i))

candidate_by : (es : List Entry) (e : Entry) (m : Key) (c h : Bool) → e.group ≡ Some m → e.claimed ≡ c → is_held (Some m) e.receipt es ≡ h → is_candidate es e ≡ (not c && not h)
candidate_by es e m c h g f i = (λ j. not (f j) && not (is_held (g j) e.receipt es)) ∙ ap (λ b. not c && not b) i

not_held : (c : Bool) → (not c && not true) ≡ false
not_held true = refl
not_held false = refl

-- one of the group is claimed
busy : (es : List Entry) (k : List ℕ) (e : Entry) (m : Key) → e.group ≡ Some m → key_text m.0 ≡ k → 0 < claimed_number k es → is_candidate es e ≡ false
busy es k e m g t l =
    let one = one_claimed k es l in
    let held : is_held (Some m) e.receipt es ≡ true =
    any_there (λ (f : Entry). holds_back m e.receipt f f.group) es one.0 one.1 (held_by m e.receipt k one.0 one.0.group refl t one.2 (λ l' s. or_left one.0.claimed (is_lt (rank_order (m.1, e.receipt) (l'.1, one.0.receipt))) one.3)) in
    candidate_by es e m e.claimed true g refl held ∙ not_held e.claimed

-- the greatest one of those that wait
greatest : (es : List Entry) (k : List ℕ) (o : Option Members) (r : ℕ) (e : Entry) (m : Key) → Rises es → ((q : ℤ × ℕ) → has o q ≡ has_rank k q es) → claimed_number k es ≡ 0 → (g : IsGreatest o r)
    → Among e es → e.group ≡ Some m → key_text m.0 ≡ k → (r == e.receipt) ≡ true → is_candidate es e ≡ true
greatest es k o r e m up ranks z g a i t same =
    let b = best es k o r ranks g in
    let own : b.entry ≡ e = alone es b.entry e up b.among a (let n = b.receipt in grind arith) in
    let keys : Some b.key ≡ Some m = sym b.group ∙ ap (λ (x : Entry). x.group) own ∙ i in
    let key : b.key ≡ m = cc in
    let tied : rank_order (m.1, e.receipt) (g.stamp, r) ≡ Equal = subst (λ (l : Key). rank_order (l.1, e.receipt) (g.stamp, r) ≡ Equal) key (ap (λ (x : Entry). rank_order (b.key.1, x.receipt) (g.stamp, r)) (sym own) ∙ b.tied) in
    let free : is_held (Some m) e.receipt es ≡ false =
    none_there (λ (f : Entry). holds_back m e.receipt f f.group) es (λ f c.
    free_of m e.receipt k f f.group refl t (λ l s j.
    or_falses f.claimed (is_lt (rank_order (m.1, e.receipt) (l.1, f.receipt)))
    (none_claimed k es f z c j)
    (ap is_lt (rank_total.congr (m.1, e.receipt) (g.stamp, r) (l.1, f.receipt) tied) ∙ g.greatest (l.1, f.receipt) (ranks (l.1, f.receipt) ∙ of_key k f l es c s (subst (λ x. is_of k x ≡ true) s j))))) in
    candidate_by es e m false false i (none_claimed k es e z a (ap (is_of k) i ∙ text_is (key_text m.0) k t)) free

-- another one of those that wait
lower : (es : List Entry) (k : List ℕ) (o : Option Members) (r : ℕ) (e : Entry) (m : Key) → ((q : ℤ × ℕ) → has o q ≡ has_rank k q es) → (g : IsGreatest o r)
    → Among e es → e.group ≡ Some m → key_text m.0 ≡ k → (r == e.receipt) ≡ false → is_candidate es e ≡ false
lower es k o r e m ranks g a i t other =
    let b = best es k o r ranks g in
    let below : is_lt (rank_order (m.1, e.receipt) (g.stamp, r)) ≡ true =
    other_way (g.stamp, r) (m.1, e.receipt) other (g.greatest (m.1, e.receipt) (ranks (m.1, e.receipt) ∙ any_there (λ (f : Entry). is_ranked k (m.1, e.receipt) f.receipt f.group) es e a (own_rank k e m i t))) in
    let under : is_lt (rank_order (m.1, e.receipt) (b.key.1, b.entry.receipt)) ≡ true =
    ap is_lt (alike_right rank_total (b.key.1, b.entry.receipt) (g.stamp, r) (m.1, e.receipt) b.tied) ∙ below in
    let held : is_held (Some m) e.receipt es ≡ true =
    any_there (λ (f : Entry). holds_back m e.receipt f f.group) es b.entry b.among
    (held_by m e.receipt k b.entry (Some b.key) b.group t b.of (λ l s. or_right b.entry.claimed (is_lt (rank_order (m.1, e.receipt) (l.1, b.entry.receipt))) (let one : b.key ≡ l = cc in subst (λ (x : Key). is_lt (rank_order (m.1, e.receipt) (x.1, b.entry.receipt)) ≡ true) one under))) in
    candidate_by es e m e.claimed true i refl held ∙ not_held e.claimed

nobody : (es : List Entry) (k : List ℕ) (o : Option Members) (e : Entry) (m : Key) → ((q : ℤ × ℕ) → has o q ≡ has_rank k q es) → ((q : ℤ × ℕ) → has o q ≡ false) → Among e es → e.group ≡ Some m → key_text m.0 ≡ k → ⊥
nobody es k o e m ranks none a i t =
    let one : has_rank k (m.1, e.receipt) es ≡ true = any_there (λ (f : Entry). is_ranked k (m.1, e.receipt) f.receipt f.group) es e a (own_rank k e m i t) in
    let no : has_rank k (m.1, e.receipt) es ≡ false = sym (ranks (m.1, e.receipt)) ∙ none (m.1, e.receipt) in
    cc

waits_step : (es : List Entry) (k : List ℕ) (o : Option Members) (e : Entry) (m : Key) (turn : Option ℕ) → IsGroup es k o turn → claims o ≡ 0 → Among e es → e.group ≡ Some m → key_text m.0 ≡ k → is_candidate es e ≡ opt_is turn e.receipt
waits_step es k o e m None h z a i t = absurd (nobody es k o e m h.ranks (h.turn.unclaimed z) a i t)
waits_step es k o e m (Some r) h z a i t = by_receipt (r == e.receipt) refl
  where
    by_receipt : (b : Bool) → (r == e.receipt) ≡ b → is_candidate es e ≡ (r == e.receipt)
    by_receipt true s = greatest es k o r e m h.rises h.ranks (sym h.claims ∙ z) (h.turn.unclaimed z) a i t s ∙ sym s
    by_receipt false s = lower es k o r e m h.ranks (h.turn.unclaimed z) a i t s ∙ sym s

zero_or_more : (n : ℕ) → (n ≡ 0) ⊎ (n ≢ 0)
zero_or_more zero = inl refl
zero_or_more (suc n) = inr (λ e. absurd (omega (arith, e)))

-- the candidate among those of the group
pub turn_is_candidate : (es : List Entry) (k : List ℕ) (o : Option Members) (turn : Option ℕ) (e : Entry) (m : Key) → IsGroup es k o turn → Among e es → e.group ≡ Some m → key_text m.0 ≡ k → is_candidate es e ≡ opt_is turn e.receipt
turn_is_candidate es k o turn e m h a i t = by_claims (zero_or_more (claims o))
  where
    by_claims : (claims o ≡ 0) ⊎ (claims o ≢ 0) → is_candidate es e ≡ opt_is turn e.receipt
    by_claims (inl z) = waits_step es k o e m turn h z a i t
    by_claims (inr n) =
        let some : 0 < claimed_number k es = positive (claims o) (claimed_number k es) n h.claims in
        busy es k e m i t some ∙ sym (ap (λ (x : Option ℕ). opt_is x e.receipt) (h.turn.claimed n))
      where
        positive : (c n : ℕ) → c ≢ 0 → c ≡ n → 0 < n
        positive zero n h e = absurd (h refl)
        positive (suc c) n h e = omega (arith, e)

-- and none of another group
pub turn_is_of : (es : List Entry) (k : List ℕ) (o : Option Members) (turn : Option ℕ) (e : Entry) → IsGroup es k o turn → Among e es → is_of k e.group ≡ false → opt_is turn e.receipt ≡ false
turn_is_of es k o None e h a i = refl
turn_is_of es k o (Some r) e h a i = not_true (r == e.receipt) (λ s.
    let z : claims o ≡ 0 = idle (claims o) (zero_or_more (claims o)) (λ n. h.turn.claimed n) in
    let g : IsGreatest o r = h.turn.unclaimed z in
    let b = best es k o r h.ranks g in
    let own : b.entry ≡ e = alone es b.entry e h.rises b.among a (let n = b.receipt in grind arith) in
    let of : is_of k e.group ≡ true = ap (λ (x : Entry). is_of k x.group) (sym own) ∙ ap (is_of k) b.group ∙ b.of in
    cc)
  where
    idle : (c : ℕ) → (c ≡ 0) ⊎ (c ≢ 0) → (c ≢ 0 → Some r ≡ None) → c ≡ 0
    idle c (inl z) f = z
    idle c (inr n) f = absurd (let never : Some r ≡ None = f n in cc)

-- it is the turn of one that waits
pub turn_is_among : (es : List Entry) (k : List ℕ) (o : Option Members) (r : ℕ) → IsGroup es k o (Some r) → (e : Entry) × Among e es × (e.receipt ≡ r)
turn_is_among es k o r h =
    let z : claims o ≡ 0 = idle (claims o) (zero_or_more (claims o)) (λ n. h.turn.claimed n) in
    let b = best es k o r h.ranks (h.turn.unclaimed z) in
    (b.entry, b.among, b.receipt)
  where
    idle : (c : ℕ) → (c ≡ 0) ⊎ (c ≢ 0) → (c ≢ 0 → Some r ≡ None) → c ≡ 0
    idle c (inl z) f = z
    idle c (inr n) f = absurd (let never : Some r ≡ None = f n in cc)
