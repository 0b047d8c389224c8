-- A spool has one reading.
use Rattle.std.proofs.Common.{◌≡◌, ◌≢◌, ◌∙◌, ℕ, ◌+◌, ℤ, List, [], ◌∷◌, ◌++◌, length, refl, sym, ap, subst, Option, Some, None, zero, suc, ◌<◌, ◌≤◌, arith, length-append, inl, inr}
use Rattle.std.proofs.lemmas.Bool.{cases_lt}
use Rattle.std.proofs.lemmas.List.{append_cancel_right}
use Rattle.spool_spec.specs.history_spec.Thread.{Item}
use Rattle.spool_spec.specs.Spool.{IsItemText, End, whole, bad_at, BeginsWithItem, ItemsFrom}
use Rattle.history_laws.specs.Reading.{kind_at, item_at}
use Rattle.history_laws.specs.SpoolLaws.{SpoolsHaveOneReading, BytesHaveSomeReading}
use Rattle.spool_spec.proofs.of_plain_laws.Options.{none_some}
use Rattle.history_laws.proofs.ReadingItems.{item_texts_are_read}
use Rattle.history_laws.proofs.ReadingStands.{what_is_read_is_an_item_text}
use Rattle.spool_spec.specs.Limits.{most_spool}

-- two texts of items at the front of the same bytes
pub record SameItem (a b : Item) (s t u v : List ℕ) : Type 0 where
  pub item : a ≡ b
  pub text : s ≡ t
  pub rest : u ≡ v

pub item_texts_are_one : (received : ℤ) (item other : Item) (text more rest behind : List ℕ) → IsItemText received item text → IsItemText received other more → text ++ rest ≡ more ++ behind → SameItem item other text more rest behind
item_texts_are_one received item other text more rest behind h k e =
    let both : ◌≡◌ {A = Option (Item × List ℕ)} (Some (item, rest)) (Some (other, behind)) = sym (item_texts_are_read received item text rest h) ∙ ap (item_at received) e ∙ item_texts_are_read received other more behind k in
    let pair : ◌≡◌ {A = Item × List ℕ} (item, rest) (other, behind) = cc in
    let same : rest ≡ behind = ap (λ p. p.1) pair in
    record {
      item = ap (λ p. p.0) pair;
      text = append_cancel_right text more behind (ap (λ r. text ++ r) (sym same) ∙ e);
      rest = same;
    }

item_text_is_some : (received : ℤ) (item : Item) (text : List ℕ) → IsItemText received item text → (rest : List ℕ) → text ++ rest ≢ []
unfolding item_at kind_at
item_text_is_some received item text h rest e =
    absurd (none_some (item, rest) (ap (item_at received) (sym e) ∙ item_texts_are_read received item text rest h))

pub one_reading : (received : ℤ) (p : ℕ) (bytes : List ℕ) (items others : List Item) (end other : End) → ItemsFrom received p bytes items end → ItemsFrom received p bytes others other → (items ≡ others) × (end ≡ other)
one_reading received p bytes [] [] whole whole h k = (refl, refl)
one_reading received p bytes [] [] whole (bad_at at) h k = absurd (k.1 h)
one_reading received p bytes [] [] (bad_at at) whole h k = absurd (h.1 k)
one_reading received p bytes [] [] (bad_at at) (bad_at place) h k = (refl, ap bad_at (h.0 ∙ sym k.0))
one_reading received p bytes [] (item ∷ others) whole other h k = absurd (item_text_is_some received item k.0 k.2 k.1 (sym k.3 ∙ h))
one_reading received p bytes [] (item ∷ others) (bad_at at) other h k =
    absurd (h.2 (record { item = item; text = k.0; rest = k.1; is_item = k.2; bytes_are = k.3; ends = k.4 }))
one_reading received p bytes (item ∷ items) [] end whole h k = absurd (item_text_is_some received item h.0 h.2 h.1 (sym h.3 ∙ k))
one_reading received p bytes (item ∷ items) [] end (bad_at at) h k =
    absurd (k.2 (record { item = item; text = h.0; rest = h.1; is_item = h.2; bytes_are = h.3; ends = h.4 }))
one_reading received p bytes (item ∷ items) (i ∷ others) end other h k =
    let same = item_texts_are_one received item i h.0 k.0 h.1 k.1 h.2 k.2 (sym h.3 ∙ k.3) in
    let moved : ItemsFrom received (p + length h.0) h.1 others other = subst (λ (t : List ℕ × List ℕ). ItemsFrom received (p + length t.0) t.1 others other) (λ j. (sym same.text j, sym same.rest j)) k.5 in
    let rest = one_reading received (p + length h.0) h.1 items others end other h.5 moved in
    (λ j. same.item j ∷ rest.0 j, rest.1)

pub spools_have_one_reading : SpoolsHaveOneReading
spools_have_one_reading received bytes items others end other h k = one_reading received 0 bytes items others end other h k

-- ---- bytes have some reading

record Reading (received : ℤ) (p : ℕ) (bytes : List ℕ) : Type 0 where
  items : List Item
  end : End
  from : ItemsFrom received p bytes items end

some_length : (text : List ℕ) → text ≢ [] → 0 < length text
some_length [] h = absurd (h refl)
some_length (x ∷ text) h = omega arith

module _ (received : ℤ) (p : ℕ) (bytes : List ℕ) where
  -- no item's text, or one that reaches too far: the spool ends here
  ends_here : bytes ≢ [] → (BeginsWithItem received p bytes → ⊥) → Reading received p bytes
  ends_here some none = record { items = []; end = bad_at p; from = (refl, some, none) }

  unread : item_at received bytes ≡ None → BeginsWithItem received p bytes → ⊥
  unread h b = none_some (b.item, b.rest) (sym h ∙ ap (item_at received) b.bytes_are ∙ item_texts_are_read received b.item b.text b.rest b.is_item)

  too_far : (item : Item) (text rest : List ℕ) → IsItemText received item text → bytes ≡ text ++ rest → most_spool < p + length text → BeginsWithItem received p bytes → ⊥
  too_far item text rest h e far b =
      let same = item_texts_are_one received item b.item text b.text rest b.rest h b.is_item (sym e ∙ b.bytes_are) in
      omega (arith, ap length same.text, b.ends, far)

one_more : (received : ℤ) (p : ℕ) (bytes : List ℕ) (item : Item) (text rest : List ℕ) → IsItemText received item text → bytes ≡ text ++ rest → p + length text ≤ most_spool → Reading received (p + length text) rest → Reading received p bytes
one_more received p bytes item text rest h e ends r = record { items = item ∷ r.items; end = r.end; from = (text, rest, h, e, ends, r.from) }

shorter : (received : ℤ) (item : Item) (bytes text rest : List ℕ) → IsItemText received item text → bytes ≡ text ++ rest → length rest < length bytes
shorter received item bytes text rest h e =
    let some : 0 < length text = some_length text (λ empty. item_text_is_some received item text h [] (ap (λ t. t ++ []) empty)) in
    omega (arith, some, ap length e, length-append text rest)

read_on : (received : ℤ) (fuel p x : ℕ) (xs : List ℕ) (o : Option (Item × List ℕ)) → item_at received (x ∷ xs) ≡ o → length (x ∷ xs) ≤ suc fuel → ((next : ℕ) (bytes : List ℕ) → length bytes ≤ fuel → Reading received next bytes) → Reading received p (x ∷ xs)
read_on received fuel p x xs None h few more = ends_here received p (x ∷ xs) (λ e. cc) (unread received p (x ∷ xs) h)
read_on received fuel p x xs (Some q) h few more =
    let w = what_is_read_is_an_item_text received (x ∷ xs) q.0 q.1 h in
    let less : length q.1 < length (x ∷ xs) = shorter received q.0 (x ∷ xs) w.0 q.1 w.1 w.2 in
    elim (cases_lt most_spool (p + length w.0)) [
      | inl far ↦ ends_here received p (x ∷ xs) (λ e. cc) (too_far received p (x ∷ xs) q.0 w.0 q.1 w.1 w.2 far)
      | inr ends ↦ one_more received p (x ∷ xs) q.0 w.0 q.1 w.1 w.2 ends (more (p + length w.0) q.1 (omega (arith, less, few)))
    ]

-- with enough fuel all bytes are read
readings : (received : ℤ) (fuel p : ℕ) (bytes : List ℕ) → length bytes ≤ fuel → Reading received p bytes
readings received fuel p [] few = record { items = []; end = whole; from = refl }
readings received zero p (x ∷ xs) few = absurd (omega (arith, few))
readings received (suc fuel) p (x ∷ xs) few = read_on received fuel p x xs (item_at received (x ∷ xs)) refl few (readings received fuel)

pub bytes_have_some_reading : BytesHaveSomeReading
bytes_have_some_reading received bytes = let r = readings received (length bytes) 0 bytes (omega arith) in (r.items, r.end, r.from)
