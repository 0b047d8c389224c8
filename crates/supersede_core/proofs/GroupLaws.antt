-- What holds of all groups after one of them was changed.
use Rattle.std.proofs.Common.{◌≡◌, ◌∙◌, ℕ, ℤ, suc, ◌-◌, List, refl, sym, ap, subst, Bool, true, false, cond, ◌&&◌, if◌then◌else◌, Option, Some, None, is_some, MatchOption}
use Rattle.std.specs.Ordering.{is_eq}
use Rattle.std.specs.Result.{IfOk, OnOk, OnErr}
use Rattle.std.specs.declared.result.Result.{Result}
use Rattle.std.specs.declared.result.Result.TheVariants.{Ok, Err}
use Rattle.std.specs.Str.{bytes_eq}
use Rattle.std.proofs.lemmas.Slice.Eq.{bytes_eq-Decides}
use Rattle.entry_tree.proofs.of_plain_laws.Lists.{one_text}
use Rattle.supersede_core.specs.declared.handover.Handover.{Handover}
use Rattle.supersede_core.specs.declared.members.Members.{Members}
use Rattle.supersede_core.specs.declared.turns.Turns.{Turns}
use Rattle.supersede_core.specs.Turns.{rank_order, has, claims, members_at, IsGreatest, IsTurn, IsHandover}
use Rattle.supersede_core.specs.Handover.{AreSame, EntersGroup, ClaimsGroup, ReleasesGroup, LeavesGroup}

abbrev pub Groups : Type 0
Groups = List ℕ → Option Members

-- h is f with o at the text
abbrev pub Puts : Groups → List ℕ → Option Members → Groups → Type 0
Puts f bs o h = (k : List ℕ) → h k ≡ cond (bytes_eq bs k) o (f k)

ranks_step : (b : Bool) (f : Groups) (bs k : List ℕ) (o : Option Members) (g v : Bool) (q : ℤ × ℕ) → bytes_eq bs k ≡ b → has o q ≡ cond g v (has (f bs) q) → has (cond b o (f k)) q ≡ cond (b && g) v (has (f k) q)
ranks_step true f bs k o g v q e h = h ∙ ap (λ ds. cond g v (has (f ds) q)) (one_text bs k e)
ranks_step false f bs k o g v q e h = refl

ranks_put : (f h : Groups) (bs : List ℕ) (o : Option Members) (g : ℤ × ℕ → Bool) (v : Bool) → Puts f bs o h → ((q : ℤ × ℕ) → has o q ≡ cond (g q) v (has (f bs) q))
    → (k : List ℕ) → (q : ℤ × ℕ) → has (h k) q ≡ cond (bytes_eq bs k && g q) v (has (f k) q)
ranks_put f h bs o g v p r k q = ap (λ x. has x q) (p k) ∙ ranks_step (bytes_eq bs k) f bs k o (g q) v q refl (r q)

same_ranks_step : (b : Bool) (f : Groups) (bs k : List ℕ) (o : Option Members) (q : ℤ × ℕ) → bytes_eq bs k ≡ b → has o q ≡ has (f bs) q → has (cond b o (f k)) q ≡ has (f k) q
same_ranks_step true f bs k o q e h = h ∙ ap (λ ds. has (f ds) q) (one_text bs k e)
same_ranks_step false f bs k o q e h = refl

same_ranks : (f h : Groups) (bs : List ℕ) (o : Option Members) → Puts f bs o h → ((q : ℤ × ℕ) → has o q ≡ has (f bs) q) → (k : List ℕ) → (q : ℤ × ℕ) → has (h k) q ≡ has (f k) q
same_ranks f h bs o p r k q = ap (λ x. has x q) (p k) ∙ same_ranks_step (bytes_eq bs k) f bs k o q refl (r q)

claims_step : (b : Bool) (f : Groups) (bs k : List ℕ) (o : Option Members) (u : ℕ → ℕ) → bytes_eq bs k ≡ b → claims o ≡ u (claims (f bs)) → claims (cond b o (f k)) ≡ (if b then u (claims (f k)) else claims (f k))
claims_step true f bs k o u e h = h ∙ ap (λ ds. u (claims (f ds))) (one_text bs k e)
claims_step false f bs k o u e h = refl

claims_put : (f h : Groups) (bs : List ℕ) (o : Option Members) (u : ℕ → ℕ) → Puts f bs o h → claims o ≡ u (claims (f bs)) → (k : List ℕ) → claims (h k) ≡ (if bytes_eq bs k then u (claims (f k)) else claims (f k))
claims_put f h bs o u p r k = ap claims (p k) ∙ claims_step (bytes_eq bs k) f bs k o u refl r

same_claims_step : (b : Bool) (f : Groups) (bs k : List ℕ) (o : Option Members) → bytes_eq bs k ≡ b → claims o ≡ claims (f bs) → claims (cond b o (f k)) ≡ claims (f k)
same_claims_step true f bs k o e h = h ∙ ap (λ ds. claims (f ds)) (one_text bs k e)
same_claims_step false f bs k o e h = refl

same_claims : (f h : Groups) (bs : List ℕ) (o : Option Members) → Puts f bs o h → claims o ≡ claims (f bs) → (k : List ℕ) → claims (h k) ≡ claims (f k)
same_claims f h bs o p r k = ap claims (p k) ∙ same_claims_step (bytes_eq bs k) f bs k o refl r

pub put_there : (f h : Groups) (bs : List ℕ) (o : Option Members) → Puts f bs o h → h bs ≡ o
put_there f h bs o p = p bs ∙ ap (λ b. cond b o (f bs)) ((bytes_eq-Decides bs bs).1 refl)

-- ---- where there is none

none_there : (o : Option Members) → is_some o ≡ false → o ≡ None
none_there None e = refl
none_there (Some m) e = absurd (cc)

has_none : (o : Option Members) (q : ℤ × ℕ) → is_some o ≡ false → has o q ≡ false
has_none o q e = ap (λ x. has x q) (none_there o e)

none_claimed : (o : Option Members) → is_some o ≡ false → claims o ≡ 0
none_claimed o e = ap claims (none_there o e)

-- ---- whose turn it is goes by the ranks and the claims alone

greatest_alike : (o p : Option Members) (turn : Option ℕ) → ((q : ℤ × ℕ) → has p q ≡ has o q) → MatchOption turn ((q : ℤ × ℕ) → has o q ≡ false) (IsGreatest o) → MatchOption turn ((q : ℤ × ℕ) → has p q ≡ false) (IsGreatest p)
greatest_alike o p None r h = λ q. r q ∙ h q
greatest_alike o p (Some n) r h = record { stamp = h.stamp; there = r (h.stamp, n) ∙ h.there; greatest = λ q a. h.greatest q (sym (r q) ∙ a) }

turn_alike : (o p : Option Members) (turn : Option ℕ) → ((q : ℤ × ℕ) → has p q ≡ has o q) → claims p ≡ claims o → IsTurn o turn → IsTurn p turn
turn_alike o p turn r c h = record { claimed = λ n. h.claimed (λ z. n (c ∙ z)); unclaimed = λ z. greatest_alike o p turn r (h.unclaimed (sym c ∙ z)) }

handed_over : (t u : Turns) (bs : List ℕ) (o p : Option Members) (h : Handover) → o ≡ members_at t bs → Puts (members_at t) bs p (members_at u) → IsHandover o p h → IsHandover (members_at t bs) (members_at u bs) h
handed_over t u bs o p h i put turn = record {
  before = subst (λ x. IsTurn x h.before) i turn.before;
  after = subst (λ x. IsTurn x h.after) (sym (put_there (members_at t) (members_at u) bs p put)) turn.after;
}

-- ---- a command of a group comes in, is claimed, is given back or goes

pub enters_in : (t u : Turns) (bs : List ℕ) (z : ℤ) (r : ℕ) (m n : Members) (h : Handover) → Some m ≡ members_at t bs → Puts (members_at t) bs (Some n) (members_at u)
    → ((q : ℤ × ℕ) → has (Some n) q ≡ cond (is_eq (rank_order (z, r) q)) true (has (Some m) q)) → claims (Some n) ≡ claims (Some m) → IsHandover (Some m) (Some n) h → EntersGroup (bs, z) r t u h
enters_in t u bs z r m n h i put ranks c turn = record {
  ranks = ranks_put (members_at t) (members_at u) bs (Some n) (λ q. is_eq (rank_order (z, r) q)) true put (λ q. ranks q ∙ ap (λ o. cond (is_eq (rank_order (z, r) q)) true (has o q)) i);
  claims = same_claims (members_at t) (members_at u) bs (Some n) put (c ∙ ap claims i);
  turn = handed_over t u bs (Some m) (Some n) h i put turn;
}

pub first_in : (t u : Turns) (bs : List ℕ) (z : ℤ) (r : ℕ) (m n : Members) (h : Handover) → is_some (members_at t bs) ≡ false → Puts (members_at t) bs (Some n) (members_at u)
    → ((q : ℤ × ℕ) → has (Some m) q ≡ false) → claims (Some m) ≡ 0
    → ((q : ℤ × ℕ) → has (Some n) q ≡ cond (is_eq (rank_order (z, r) q)) true (has (Some m) q)) → claims (Some n) ≡ claims (Some m) → IsHandover (Some m) (Some n) h → EntersGroup (bs, z) r t u h
first_in t u bs z r m n h i put none idle ranks c turn =
    let alike : (q : ℤ × ℕ) → has (members_at t bs) q ≡ has (Some m) q = λ q. has_none (members_at t bs) q i ∙ sym (none q) in
    let same : claims (members_at t bs) ≡ claims (Some m) = none_claimed (members_at t bs) i ∙ sym idle in
    record {
      ranks = ranks_put (members_at t) (members_at u) bs (Some n) (λ q. is_eq (rank_order (z, r) q)) true put (λ q. ranks q ∙ ap (cond (is_eq (rank_order (z, r) q)) true) (sym (alike q)));
      claims = same_claims (members_at t) (members_at u) bs (Some n) put (c ∙ sym same);
      turn = record {
        before = turn_alike (Some m) (members_at t bs) h.before alike same turn.before;
        after = subst (λ x. IsTurn x h.after) (sym (put_there (members_at t) (members_at u) bs (Some n) put)) turn.after;
      };
    }

-- no memory for it
pub stays_in : (t u : Turns) (bs : List ℕ) (m n : Members) → Some m ≡ members_at t bs → Puts (members_at t) bs (Some n) (members_at u) → ((q : ℤ × ℕ) → has (Some n) q ≡ has (Some m) q) → claims (Some n) ≡ claims (Some m) → AreSame t u
stays_in t u bs m n i put ranks c = record {
  ranks = same_ranks (members_at t) (members_at u) bs (Some n) put (λ q. ranks q ∙ ap (λ o. has o q) i);
  claims = same_claims (members_at t) (members_at u) bs (Some n) put (c ∙ ap claims i);
}

pub claims_in : (t u : Turns) (bs : List ℕ) (m n : Members) (h : Handover) → Some m ≡ members_at t bs → Puts (members_at t) bs (Some n) (members_at u)
    → ((q : ℤ × ℕ) → has (Some n) q ≡ has (Some m) q) → claims (Some n) ≡ suc (claims (Some m)) → IsHandover (Some m) (Some n) h → ClaimsGroup bs t u h
claims_in t u bs m n h i put ranks c turn = record {
  ranks = same_ranks (members_at t) (members_at u) bs (Some n) put (λ q. ranks q ∙ ap (λ o. has o q) i);
  claims = claims_put (members_at t) (members_at u) bs (Some n) suc put (c ∙ ap (λ o. suc (claims o)) i);
  turn = handed_over t u bs (Some m) (Some n) h i put turn;
}

pub releases_in : (t u : Turns) (bs : List ℕ) (m n : Members) (h : Handover) → Some m ≡ members_at t bs → Puts (members_at t) bs (Some n) (members_at u)
    → ((q : ℤ × ℕ) → has (Some n) q ≡ has (Some m) q) → claims (Some n) ≡ claims (Some m) - 1 → IsHandover (Some m) (Some n) h → ReleasesGroup bs t u h
releases_in t u bs m n h i put ranks c turn = record {
  ranks = same_ranks (members_at t) (members_at u) bs (Some n) put (λ q. ranks q ∙ ap (λ o. has o q) i);
  claims = claims_put (members_at t) (members_at u) bs (Some n) (λ k. k - 1) put (c ∙ ap (λ o. claims o - 1) i);
  turn = handed_over t u bs (Some m) (Some n) h i put turn;
}

if_both : (a b : Bool) (n m : ℕ) → (if a then (if b then n else m) else m) ≡ (if a && b then n else m)
if_both true b n m = refl
if_both false b n m = refl

pub leaves_in : (t u : Turns) (bs : List ℕ) (z : ℤ) (r : ℕ) (b : Bool) (m n : Members) (h : Handover) → Some m ≡ members_at t bs → Puts (members_at t) bs (Some n) (members_at u)
    → ((q : ℤ × ℕ) → has (Some n) q ≡ cond (is_eq (rank_order (z, r) q)) false (has (Some m) q)) → claims (Some n) ≡ (if b then claims (Some m) - 1 else claims (Some m)) → IsHandover (Some m) (Some n) h → LeavesGroup (bs, z) r b t u h
leaves_in t u bs z r b m n h i put ranks c turn = record {
  ranks = ranks_put (members_at t) (members_at u) bs (Some n) (λ q. is_eq (rank_order (z, r) q)) false put (λ q. ranks q ∙ ap (λ o. cond (is_eq (rank_order (z, r) q)) false (has o q)) i);
  claims = λ k. claims_put (members_at t) (members_at u) bs (Some n) (λ k. if b then k - 1 else k) put (c ∙ ap (λ o. if b then claims o - 1 else claims o) i) k
      ∙ if_both (bytes_eq bs k) b (claims (members_at t k) - 1) (claims (members_at t k));
  turn = handed_over t u bs (Some m) (Some n) h i put turn;
}

-- and the group, where it has no command any more
pub group_goes : (t u v : Turns) (bs : List ℕ) (z : ℤ) (r : ℕ) (b : Bool) (h : Handover) → LeavesGroup (bs, z) r b t u h → Puts (members_at u) bs None (members_at v)
    → ((q : ℤ × ℕ) → has (members_at u bs) q ≡ false) → claims (members_at u bs) ≡ 0 → LeavesGroup (bs, z) r b t v h
group_goes t u v bs z r b h l put none idle =
    let gone : members_at v bs ≡ None = put_there (members_at u) (members_at v) bs None put in
    record {
      ranks = λ k q. same_ranks (members_at u) (members_at v) bs None put (λ p. sym (none p)) k q ∙ l.ranks k q;
      claims = λ k. same_claims (members_at u) (members_at v) bs None put (sym idle) k ∙ l.claims k;
      turn = record {
        before = l.turn.before;
        after = turn_alike (members_at u bs) (members_at v bs) h.after (λ q. ap (λ o. has o q) gone ∙ sym (none q)) (ap claims gone ∙ sym idle) l.turn.after;
      };
    }

-- ---- by the answer

pub if_ok : {E R : Type 0} (a : Result Handover E) (P Q : Handover → Type 0) → OnOk a R → IfOk a P → ((h : Handover) → R → P h → Q h) → IfOk a Q
if_ok (Ok h) P Q r p f = f h r p
if_ok (Err e) P Q r p f = p

pub on_err : {E P Q : Type 0} (a : Result Handover E) → OnErr a P → (P → Q) → OnErr a Q
on_err (Ok h) p f = p
on_err (Err e) p f = f p
