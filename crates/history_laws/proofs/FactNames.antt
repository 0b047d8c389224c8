-- The facts of a command by name: its members, each behind those of smaller names.
use Rattle.std.proofs.Common.{◌≡◌, ◌≢◌, ◌∙◌, ℕ, List, [], ◌∷◌, refl, ap, Bool, true, false, if◌then◌else◌, Option, Some, None, ◌⊎◌, inl, inr}
use Rattle.std.specs.Str.{bytes_eq}
use Rattle.std.proofs.lemmas.Slice.Eq.{bytes_eq-Decides}
use Rattle.std.specs.List.Sorted.{IsStrictlySortedBy}
use Rattle.std.specs.Ordering.{is_gt}
use Rattle.std.specs.declared.cmp.Ordering.{Ordering}
use Rattle.std.specs.declared.cmp.Ordering.TheVariants.{Less, Equal, Greater}
use Rattle.spool_spec.proofs.of_plain_laws.Orderings.{greater_is}
use Rattle.spool_spec.specs.text_spec.Json.{Json, Members, no_members, member, members_list, find_member, HasDistinctKeys}
use Rattle.spool_spec.specs.text_spec.Compact.{text_cmp, insert_member}
use Rattle.spool_spec.specs.history_spec.Facts.{by_name}
use Rattle.history_laws.proofs.Members.{Among}
use Rattle.history_laws.proofs.StrictlySorted.{sorted-nil, sorted-cons, sorted-below, sorted-rest}
use Rattle.history_laws.proofs.SortedTexts.{text_cmp_total, text_tied, turned_less}

abbrev pub Pair : Type 0
Pair = List ℕ × Json

-- by the names alone
abbrev pub pair_cmp : Pair → Pair → Ordering
pair_cmp a b = text_cmp a.0 b.0

-- ---- membership

module _ (k : List ℕ) (j : Json) where
  into : (b : Bool) (m : Pair) (l : List ℕ) (i : Json) (ms : Members) → (m ≡ (k, j)) ⊎ Among m (members_list (member l i ms)) → ((m ≡ (k, j)) ⊎ Among m (members_list ms) → Among m (members_list (insert_member k j ms))) → Among m (members_list (if b then member l i (insert_member k j ms) else member k j (member l i ms)))
  into true m l i ms (inl e) h = inr (h (inl e))
  into true m l i ms (inr (inl e)) h = inl e
  into true m l i ms (inr (inr a)) h = inr (h (inr a))
  into false m l i ms a h = a

  Among-insert_member : (m : Pair) (ms : Members) → (m ≡ (k, j)) ⊎ Among m (members_list ms) → Among m (members_list (insert_member k j ms))
  Among-insert_member m no_members a = a
  Among-insert_member m (member l i ms) a = into (is_gt (text_cmp k l)) m l i ms a (Among-insert_member m ms)

  out : (b : Bool) (m : Pair) (l : List ℕ) (i : Json) (ms : Members) → Among m (members_list (if b then member l i (insert_member k j ms) else member k j (member l i ms))) → (Among m (members_list (insert_member k j ms)) → (m ≡ (k, j)) ⊎ Among m (members_list ms)) → (m ≡ (k, j)) ⊎ Among m (members_list (member l i ms))
  out true m l i ms (inl e) h = inr (inl e)
  out true m l i ms (inr a) h = elim (h a) [ inl e ↦ inl e | inr b ↦ inr (inr b) ]
  out false m l i ms a h = a

  Among-from_insert_member : (m : Pair) (ms : Members) → Among m (members_list (insert_member k j ms)) → (m ≡ (k, j)) ⊎ Among m (members_list ms)
  Among-from_insert_member m no_members a = a
  Among-from_insert_member m (member l i ms) a = out (is_gt (text_cmp k l)) m l i ms a (Among-from_insert_member m ms)

pub Among-by_name : (m : Pair) (ms : List Pair) → Among m ms → Among m (members_list (by_name ms))
Among-by_name m [] a = a
Among-by_name m (n ∷ ms) (inl e) = Among-insert_member n.0 n.1 m (by_name ms) (inl e)
Among-by_name m (n ∷ ms) (inr a) = Among-insert_member n.0 n.1 m (by_name ms) (inr (Among-by_name m ms a))

was_there : (m n : Pair) (ms : List Pair) → (m ≡ n) ⊎ Among m (members_list (by_name ms)) → (Among m (members_list (by_name ms)) → Among m ms) → Among m (n ∷ ms)
was_there m n ms (inl e) h = inl e
was_there m n ms (inr a) h = inr (h a)

pub Among-from_by_name : (m : Pair) (ms : List Pair) → Among m (members_list (by_name ms)) → Among m ms
Among-from_by_name m [] a = a
Among-from_by_name m (n ∷ ms) a = was_there m n ms (Among-from_insert_member n.0 n.1 m (by_name ms) a) (Among-from_by_name m ms)

-- ---- order

absent_step : (k : List ℕ) (b : Bool) (m n : Pair) (ms : List Pair) → bytes_eq k n.0 ≡ b → (if b then Some n.1 else find_member k ms) ≡ None → Among m (n ∷ ms) → (find_member k ms ≡ None → Among m ms → text_cmp k m.0 ≢ Equal) → text_cmp k m.0 ≢ Equal
absent_step k true m n ms e h a next = absurd (let none : ◌≡◌ {A = Option Json} (Some n.1) None = h in cc)
absent_step k false m n ms e h (inl same) next =
    λ equal. let keys : k ≡ n.0 = text_tied k m.0 equal ∙ ap (λ (p : Pair). p.0) same in let there : bytes_eq k n.0 ≡ true = (bytes_eq-Decides k n.0).1 keys in cc
absent_step k false m n ms e h (inr a) next = next h a

-- where no member has the key, each has another
other_key : (k : List ℕ) (m : Pair) (ms : List Pair) → find_member k ms ≡ None → Among m ms → text_cmp k m.0 ≢ Equal
other_key k m [] h a = absurd a
other_key k m (n ∷ ms) h a = absent_step k (bytes_eq k n.0) m n ms refl h a (other_key k m ms)

before : (o : Ordering) → is_gt o ≡ false → o ≢ Equal → o ≡ Less
before Less h other = refl
before Equal h other = absurd (other refl)
before Greater h other = cc

module _ (k : List ℕ) (j : Json) where
  below_inserted : (l : List ℕ) (i : Json) (ms : Members) (m : Pair) → text_cmp k l ≡ Greater → IsStrictlySortedBy pair_cmp (members_list (member l i ms)) → (m ≡ (k, j)) ⊎ Among m (members_list ms) → text_cmp l m.0 ≡ Less
  below_inserted l i ms m e s (inl same) = ap (λ (p : Pair). text_cmp l p.0) same ∙ turned_less k l e
  below_inserted l i ms m e s (inr a) = sorted-below pair_cmp (l, i) (members_list ms) s m a

  below_all : (l : List ℕ) (i : Json) (ms : Members) (m : Pair) → text_cmp k l ≡ Less → IsStrictlySortedBy pair_cmp (members_list (member l i ms)) → Among m (members_list (member l i ms)) → text_cmp k m.0 ≡ Less
  below_all l i ms m e s (inl same) = ap (λ (p : Pair). text_cmp k p.0) same ∙ e
  below_all l i ms m e s (inr a) = text_cmp_total.trans k l m.0 e (sorted-below pair_cmp (l, i) (members_list ms) s m a)

  sorted_step : (b : Bool) (l : List ℕ) (i : Json) (ms : Members) → is_gt (text_cmp k l) ≡ b → text_cmp k l ≢ Equal → IsStrictlySortedBy pair_cmp (members_list (member l i ms)) → (IsStrictlySortedBy pair_cmp (members_list ms) → IsStrictlySortedBy pair_cmp (members_list (insert_member k j ms))) → IsStrictlySortedBy pair_cmp (members_list (if b then member l i (insert_member k j ms) else member k j (member l i ms)))
  sorted_step true l i ms e other s h =
      sorted-cons pair_cmp (l, i) (members_list (insert_member k j ms)) (λ m a. below_inserted l i ms m (greater_is (text_cmp k l) e) s (Among-from_insert_member k j m ms a)) (h (sorted-rest pair_cmp (l, i) (members_list ms) s))
  sorted_step false l i ms e other s h =
      sorted-cons pair_cmp (k, j) (members_list (member l i ms)) (λ m a. below_all l i ms m (before (text_cmp k l) e other) s a) s

  sorted-insert_member : (ms : Members) → ((m : Pair) → Among m (members_list ms) → text_cmp k m.0 ≢ Equal) → IsStrictlySortedBy pair_cmp (members_list ms) → IsStrictlySortedBy pair_cmp (members_list (insert_member k j ms))
  sorted-insert_member no_members apart s = sorted-cons pair_cmp (k, j) [] (λ m a. absurd a) s
  sorted-insert_member (member l i ms) apart s =
      sorted_step (is_gt (text_cmp k l)) l i ms refl (apart (l, i) (inl refl)) s (sorted-insert_member ms (λ m a. apart m (inr a)))

-- facts of distinct names are strictly sorted by name
pub by_name_is_sorted : (ms : List Pair) → HasDistinctKeys ms → IsStrictlySortedBy pair_cmp (members_list (by_name ms))
by_name_is_sorted [] h = sorted-nil pair_cmp
by_name_is_sorted (m ∷ ms) h =
    sorted-insert_member m.0 m.1 (by_name ms) (λ n a. other_key m.0 n ms h.0 (Among-from_by_name n ms a)) (by_name_is_sorted ms h.1)
