-- What is kept of the groups stands for the list after each step.
use Rattle.std.proofs.Common.{◌≡◌, ◌∙◌, ℕ, ℤ, suc, ◌+◌, ◌-◌, ◌==◌, List, [], ◌∷◌, ◌++◌, arith, refl, sym, ap, Bool, true, false, cond, ◌&&◌, ◌||◌, if◌then◌else◌, Option, Some, None, nat_cmp, int_cmp}
use Rattle.std.specs.List.{AllByRecursion}
use Rattle.std.specs.declared.cmp.Ordering.{Ordering}
use Rattle.std.specs.declared.cmp.Ordering.TheVariants.{Less, Equal, Greater}
use Rattle.std.specs.Ordering.{ordering_then, is_eq}
use Rattle.std.specs.Str.{bytes_eq}
use Rattle.entry_tree.proofs.of_plain_laws.Booleans.{both_true}
use Rattle.entry_tree.specs.core_spec.declared.entry.Entry.{Entry}
use Rattle.entry_tree.specs.core_spec.Commands.{Key}
use Rattle.entry_tree.specs.core_machine.Steps.{marked}
use Rattle.supersede_core.specs.declared.handover.Handover.{Handover}
use Rattle.supersede_core.specs.declared.turns.Turns.{Turns}
use Rattle.supersede_core.specs.Waiting.{Rises, entry_of}
use Rattle.supersede_core.specs.Turns.{rank_order, claims, members_at}
use Rattle.supersede_core.specs.Index.{key_text, key_of_group, is_of, is_ranked, has_rank, own_claim, claimed_number, Stands}
use Rattle.supersede_core.specs.Handover.{EntersAs, ClaimsAs, ReleasesAs, LeavesAs}
use Rattle.supersede_core.proofs.TurnLaws.{not_true}
use Rattle.supersede_core.proofs.AnyLaws.{left, changed, any_more, any_own, any_changed, claims_more, claims_own, claims_changed}

-- ---- a command comes in

more_step : (g b : Bool) → cond g true b ≡ (b || g)
more_step true true = refl
more_step true false = refl
more_step false true = refl
more_step false false = refl

or_false : (b : Bool) → b ≡ (b || false)
or_false true = refl
or_false false = refl

unclaimed : (text : List ℕ) (x : Entry) → x.claimed ≡ false → own_claim text x ≡ 0
unclaimed text x e = unclaimed_step (is_of text x.group) x.claimed e
  where
    unclaimed_step : (a b : Bool) → b ≡ false → ◌≡◌ {A = ℕ} (if a && b then 1 else 0) 0
    unclaimed_step true true e = absurd (cc)
    unclaimed_step true false e = refl
    unclaimed_step false b e = refl

more_claims : (text : List ℕ) (es : List Entry) (x : Entry) (n : ℕ) → x.claimed ≡ false → n ≡ claimed_number text es → n ≡ claimed_number text (es ++ x ∷ [])
more_claims text es x n c e = let own = unclaimed text x c in let all = claims_more text es x in omega (arith, own, all, e)

pub enters_stand : (o : Option Key) (x : Entry) (es : List Entry) (t u : Turns) (h : Handover) → x.group ≡ o → x.claimed ≡ false → Stands t es → EntersAs (key_of_group o) x.receipt t u h → Stands u (es ++ x ∷ [])
enters_stand None x es t u h g c s e = record {
  ranks = λ k q. e.same.ranks k q ∙ s.ranks k q ∙ or_false (has_rank k q es) ∙ ap (λ o. has_rank k q es || is_ranked k q x.receipt o) (sym g) ∙ sym (any_more (λ (f : Entry). is_ranked k q f.receipt f.group) es x);
  claims = λ k. more_claims k es x (claims (members_at u k)) c (e.same.claims k ∙ s.claims k);
}
enters_stand (Some m) x es t u h g c s e = record {
  ranks = λ k q. e.ranks k q ∙ ap (cond (bytes_eq (key_text m.0) k && is_eq (rank_order (m.1, x.receipt) q)) true) (s.ranks k q) ∙ more_step (bytes_eq (key_text m.0) k && is_eq (rank_order (m.1, x.receipt) q)) (has_rank k q es)
      ∙ ap (λ o. has_rank k q es || is_ranked k q x.receipt o) (sym g) ∙ sym (any_more (λ (f : Entry). is_ranked k q f.receipt f.group) es x);
  claims = λ k. more_claims k es x (claims (members_at u k)) c (e.claims k ∙ s.claims k);
}

-- ---- a mark changes no rank

ranks_stay : (b : Bool) (r : ℕ) (es : List Entry) (x : Entry) (k : List ℕ) (q : ℤ × ℕ) → Rises es → entry_of r es ≡ Some x → has_rank k q es ≡ has_rank k q (changed r (marked b) es)
ranks_stay b r es x k q h o = any_own (λ (f : Entry). is_ranked k q f.receipt f.group) r es x h o ∙ sym (any_changed (λ (f : Entry). is_ranked k q f.receipt f.group) r (marked b) es x h o)

-- ---- it is claimed

up_step : (a b : Bool) (n m l : ℕ) → b ≡ false → m ≡ (if a then suc n else n) → n ≡ (if a && b then 1 else 0) + l → m ≡ (if a && true then 1 else 0) + l
up_step a true n m l e f g = absurd (cc)
up_step true false n m l e f g = omega (arith, f, g)
up_step false false n m l e f g = omega (arith, f, g)

lone_up : (b c : Bool) (n m l : ℕ) → m ≡ n → n ≡ (if false && b then 1 else 0) + l → m ≡ (if false && c then 1 else 0) + l
lone_up b c n m l f g = omega (arith, f, g)

pub claims_stand : (o : Option Key) (r : ℕ) (x : Entry) (es : List Entry) (t u : Turns) (h : Handover) → x.group ≡ o → x.claimed ≡ false → Rises es → entry_of r es ≡ Some x → Stands t es
    → ClaimsAs (key_of_group o) x.receipt t u h → Stands u (changed r (marked true) es)
claims_stand None r x es t u h g c up there s e = record {
  ranks = λ k q. e.same.ranks k q ∙ s.ranks k q ∙ ranks_stay true r es x k q up there;
  claims = λ k.
      lone_up x.claimed true (claims (members_at t k)) (claims (members_at u k)) (claimed_number k (left r es)) (e.same.claims k)
      (s.claims k ∙ claims_own k r es x up there ∙ ap (λ o. (if is_of k o && x.claimed then 1 else 0) + claimed_number k (left r es)) g)
      ∙ ap (λ o. (if is_of k o && true then 1 else 0) + claimed_number k (left r es)) (sym g) ∙ sym (claims_changed k r (marked true) es x up there);
}
claims_stand (Some m) r x es t u h g c up there s e = record {
  ranks = λ k q. e.ranks k q ∙ s.ranks k q ∙ ranks_stay true r es x k q up there;
  claims = λ k.
      up_step (bytes_eq (key_text m.0) k) x.claimed (claims (members_at t k)) (claims (members_at u k)) (claimed_number k (left r es)) c (e.claims k)
      (s.claims k ∙ claims_own k r es x up there ∙ ap (λ o. (if is_of k o && x.claimed then 1 else 0) + claimed_number k (left r es)) g)
      ∙ ap (λ o. (if is_of k o && true then 1 else 0) + claimed_number k (left r es)) (sym g) ∙ sym (claims_changed k r (marked true) es x up there);
}

-- ---- it is given back

down_step : (a b : Bool) (n m l : ℕ) → b ≡ true → m ≡ (if a then n - 1 else n) → n ≡ (if a && b then 1 else 0) + l → m ≡ (if a && false then 1 else 0) + l
down_step a false n m l e f g = absurd (cc)
down_step true true n m l e f g = omega (arith, f, g)
down_step false true n m l e f g = omega (arith, f, g)

pub releases_stand : (o : Option Key) (r : ℕ) (x : Entry) (es : List Entry) (t u : Turns) (h : Handover) → x.group ≡ o → x.claimed ≡ true → Rises es → entry_of r es ≡ Some x → Stands t es
    → ReleasesAs (key_of_group o) x.receipt t u h → Stands u (changed r (marked false) es)
releases_stand None r x es t u h g c up there s e = record {
  ranks = λ k q. e.same.ranks k q ∙ s.ranks k q ∙ ranks_stay false r es x k q up there;
  claims = λ k.
      lone_up x.claimed false (claims (members_at t k)) (claims (members_at u k)) (claimed_number k (left r es)) (e.same.claims k)
      (s.claims k ∙ claims_own k r es x up there ∙ ap (λ o. (if is_of k o && x.claimed then 1 else 0) + claimed_number k (left r es)) g)
      ∙ ap (λ o. (if is_of k o && false then 1 else 0) + claimed_number k (left r es)) (sym g) ∙ sym (claims_changed k r (marked false) es x up there);
}
releases_stand (Some m) r x es t u h g c up there s e = record {
  ranks = λ k q. e.ranks k q ∙ s.ranks k q ∙ ranks_stay false r es x k q up there;
  claims = λ k.
      down_step (bytes_eq (key_text m.0) k) x.claimed (claims (members_at t k)) (claims (members_at u k)) (claimed_number k (left r es)) c (e.claims k)
      (s.claims k ∙ claims_own k r es x up there ∙ ap (λ o. (if is_of k o && x.claimed then 1 else 0) + claimed_number k (left r es)) g)
      ∙ ap (λ o. (if is_of k o && false then 1 else 0) + claimed_number k (left r es)) (sym g) ∙ sym (claims_changed k r (marked false) es x up there);
}

-- ---- it goes

-- what is of a rank has its receipt
same_receipt : (z : ℤ) (r : ℕ) (q : ℤ × ℕ) → is_eq (rank_order (z, r) q) ≡ true → r ≡ q.1
same_receipt z r q e = receipt_step (int_cmp z q.0) r q.1 e
  where
    receipt_step : (o : Ordering) (r n : ℕ) → is_eq (ordering_then o (nat_cmp r n)) ≡ true → r ≡ n
    receipt_step Less r n e = absurd (cc)
    receipt_step Equal r n e = grind arith
    receipt_step Greater r n e = absurd (cc)

ranked_receipt : (o : Option Key) (k : List ℕ) (q : ℤ × ℕ) (r : ℕ) → is_ranked k q r o ≡ true → r ≡ q.1
ranked_receipt None k q r e = absurd (cc)
ranked_receipt (Some m) k q r e = same_receipt m.1 r q (both_true (bytes_eq (key_text m.0) k) (is_eq (rank_order (m.1, r) q)) e).1

apart_step : (r : ℕ) (e : Entry) (es : List Entry) (b : Bool) → (r == e.receipt) ≡ b → AllByRecursion (λ (f : Entry). (r == f.receipt) ≡ false) (left r es) → AllByRecursion (λ (f : Entry). (r == f.receipt) ≡ false) ((if b then [] else e ∷ []) ++ left r es)
apart_step r e es true g h = h
apart_step r e es false g h = (g, h)

apart : (r : ℕ) (es : List Entry) → AllByRecursion (λ (f : Entry). (r == f.receipt) ≡ false) (left r es)
apart r [] = tt
apart r (e ∷ es) = apart_step r e es (r == e.receipt) refl (apart r es)

none_ranked : (k : List ℕ) (q : ℤ × ℕ) (r : ℕ) (es : List Entry) → r ≡ q.1 → AllByRecursion (λ (f : Entry). (r == f.receipt) ≡ false) es → has_rank k q es ≡ false
none_ranked k q r [] e h = refl
none_ranked k q r (f ∷ es) e h =
    let own : is_ranked k q f.receipt f.group ≡ false = not_true (is_ranked k q f.receipt f.group) (λ p. let same = ranked_receipt f.group k q f.receipt p in let one : r ≡ f.receipt = omega (arith, same, e) in let hit : (r == f.receipt) ≡ true = grind arith in let miss = h.0 in cc) in
    rw own (none_ranked k q r es e h.1)

goes_step : (g b c : Bool) → c ≡ (g || b) → (g ≡ true → b ≡ false) → cond g false c ≡ b
goes_step true b c e h = sym (h refl)
goes_step false b c e h = e

ranks_go : (o : Option Key) (k : List ℕ) (q : ℤ × ℕ) (r : ℕ) (es : List Entry) (x : Entry) → x.group ≡ o → Rises es → entry_of r es ≡ Some x → x.receipt ≡ r
    → cond (is_ranked k q x.receipt o) false (has_rank k q es) ≡ has_rank k q (left r es)
ranks_go o k q r es x g up there own =
    goes_step (is_ranked k q x.receipt o) (has_rank k q (left r es)) (has_rank k q es) (any_own (λ (f : Entry). is_ranked k q f.receipt f.group) r es x up there ∙ ap (λ o. is_ranked k q x.receipt o || has_rank k q (left r es)) g)
    (λ p. none_ranked k q r (left r es) (sym own ∙ ranked_receipt o k q x.receipt p) (apart r es))

out_step : (a b : Bool) (n m l : ℕ) → m ≡ (if a && b then n - 1 else n) → n ≡ (if a && b then 1 else 0) + l → m ≡ l
out_step true true n m l f g = omega (arith, f, g)
out_step true false n m l f g = omega (arith, f, g)
out_step false b n m l f g = omega (arith, f, g)

lone_out : (b : Bool) (n m l : ℕ) → m ≡ n → n ≡ (if false && b then 1 else 0) + l → m ≡ l
lone_out b n m l f g = omega (arith, f, g)

pub leaves_stand : (o : Option Key) (r : ℕ) (x : Entry) (es : List Entry) (t u : Turns) (h : Handover) → x.group ≡ o → x.receipt ≡ r → Rises es → entry_of r es ≡ Some x → Stands t es
    → LeavesAs (key_of_group o) x.receipt x.claimed t u h → Stands u (left r es)
leaves_stand None r x es t u h g own up there s e = record {
  ranks = λ k q. e.same.ranks k q ∙ s.ranks k q ∙ ranks_go None k q r es x g up there own;
  claims = λ k. lone_out x.claimed (claims (members_at t k)) (claims (members_at u k)) (claimed_number k (left r es)) (e.same.claims k) (s.claims k ∙ claims_own k r es x up there ∙ ap (λ o. (if is_of k o && x.claimed then 1 else 0) + claimed_number k (left r es)) g);
}
leaves_stand (Some m) r x es t u h g own up there s e = record {
  ranks = λ k q. e.ranks k q ∙ ap (cond (is_ranked k q x.receipt (Some m)) false) (s.ranks k q) ∙ ranks_go (Some m) k q r es x g up there own;
  claims = λ k. out_step (bytes_eq (key_text m.0) k) x.claimed (claims (members_at t k)) (claims (members_at u k)) (claimed_number k (left r es)) (e.claims k) (s.claims k ∙ claims_own k r es x up there ∙ ap (λ o. (if is_of k o && x.claimed then 1 else 0) + claimed_number k (left r es)) g);
}
