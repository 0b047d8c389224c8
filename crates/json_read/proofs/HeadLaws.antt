-- What is kept of the outermost object's members, and the head of what was read.
use Rattle.std.proofs.Common.{◌≡◌, ◌∙◌, ℕ, ℤ, ◌+◌, ◌<◌, List, [], ◌∷◌, ◌++◌, length, drop, get_or, refl, sym, ap, Bool, true, false, Option, Some, None, if◌then◌else◌}
use Rattle.std.specs.Prelude.{codes}
use Rattle.std.specs.Str.{bytes_eq}
use Rattle.std.proofs.lemmas.Slice.Eq.{bytes_eq-Decides}
use Rattle.std.proofs.lemmas.List.{drop_more}
use Rattle.json_machine.proofs.of_plain_laws.Lists.{same_first}
use Rattle.json_machine.proofs.of_plain_laws.Booleans.{both_ways}
use Rattle.json_machine.proofs.of_text_spec.JsonLemmas.{members_list-of}
use Rattle.json_machine.specs.text_spec.Json as spec
use Rattle.json_machine.specs.text_spec.Json.{Json, members_of, members_list, find_member, set_member, settled}
use Rattle.json_machine.specs.text_spec.JsonText as grammar
use Rattle.json_machine.specs.text_spec.JsonText.{Tree, text, IsSpace, SpellsWithin, element}
use Rattle.json_machine.specs.Machine.{Frame, value, next_key, owed, inside, is_space, text_verdict, Verdict, spelled, not_json, too_deep, next, verdict}
use Rattle.json_machine.proofs.Law.{Says, verdict-says}
use Rattle.json_machine.proofs.Sound.{read_spells}
use Rattle.json_machine.proofs.Verdicts.{verdict-string, by_string, verdict-key, by_key}
use Rattle.json_tree.proofs.PlaceLaws.{settled-more}
use Rattle.json_read.specs.Heads.{head_of, head_told, both, nonempty, stamp_in, text_in}
use Rattle.json_read.specs.HeadSteps.{last_of, Watches}

-- ---- the last value of a name

module _ (q k : List ℕ) (j : Json) where
  find_cases : (a b c : Bool) (m : List ℕ × Json) (ms set : List (List ℕ × Json)) → bytes_eq k m.0 ≡ a → bytes_eq q m.0 ≡ b → bytes_eq q k ≡ c → find_member q set ≡ (if c then Some j else find_member q ms) → find_member q (if a then (m.0, j) ∷ ms else m ∷ set) ≡ (if c then Some j else (if b then Some m.1 else find_member q ms))
  find_cases true true true m ms set ea eb ec next = rw eb refl
  find_cases true true false m ms set ea eb ec next = absurd (both_ways (bytes_eq q k) ((bytes_eq-Decides q k).1 ((bytes_eq-Decides q m.0).0 eb ∙ sym ((bytes_eq-Decides k m.0).0 ea))) ec)
  find_cases true false true m ms set ea eb ec next = absurd (both_ways (bytes_eq q m.0) ((bytes_eq-Decides q m.0).1 ((bytes_eq-Decides q k).0 ec ∙ (bytes_eq-Decides k m.0).0 ea)) eb)
  find_cases true false false m ms set ea eb ec next = rw eb refl
  find_cases false true true m ms set ea eb ec next = absurd (both_ways (bytes_eq k m.0) ((bytes_eq-Decides k m.0).1 (sym ((bytes_eq-Decides q k).0 ec) ∙ (bytes_eq-Decides q m.0).0 eb)) ea)
  find_cases false true false m ms set ea eb ec next = rw eb refl
  find_cases false false true m ms set ea eb ec next = rw eb next
  find_cases false false false m ms set ea eb ec next = rw eb next

  find-set : (ms : List (List ℕ × Json)) → find_member q (set_member k j ms) ≡ (if bytes_eq q k then Some j else find_member q ms)
  find-set [] = refl
  find-set (m ∷ ms) = find_cases (bytes_eq k m.0) (bytes_eq q m.0) (bytes_eq q k) m ms (set_member k j ms) refl refl refl (find-set ms)

  last-push : (ms : List (List ℕ × Json)) → last_of q (ms ++ (k, j) ∷ []) ≡ (if bytes_eq q k then Some j else last_of q ms)
  last-push ms = ap (find_member q) (settled-more ms [] (k, j)) ∙ find-set (settled [] ms)

-- ---- what is kept

kept_name : (c : Bool) (o : Option Json) (j : Json) (words name : Option (List ℕ)) → words ≡ text_in (Some j) → name ≡ nonempty (text_in o) → (if c then nonempty words else name) ≡ nonempty (text_in (if c then Some j else o))
kept_name true o j words name t h = ap nonempty t
kept_name false o j words name t h = h

kept_moment : (c : Bool) (o : Option Json) (j : Json) (words : Option (List ℕ)) (moment : Option ℤ) → words ≡ text_in (Some j) → moment ≡ stamp_in (text_in o) → (if c then stamp_in words else moment) ≡ stamp_in (text_in (if c then Some j else o))
kept_moment true o j words moment t h = ap stamp_in t
kept_moment false o j words moment t h = h

pub watches-push : (ms : List (List ℕ × Json)) (k : List ℕ) (j : Json) (words name name' : Option (List ℕ)) (moment moment' : Option ℤ) → Watches ms name moment → words ≡ text_in (Some j) → name' ≡ (if bytes_eq (codes "certname") k then nonempty words else name) → moment' ≡ (if bytes_eq (codes "producer_timestamp") k then stamp_in words else moment) → Watches (ms ++ (k, j) ∷ []) name' moment'
watches-push ms k j words name name' moment moment' w t n m = (
  n ∙ kept_name (bytes_eq (codes "certname") k) (last_of (codes "certname") ms) j words name t w.0 ∙ sym (ap (λ o. nonempty (text_in o)) (last-push (codes "certname") k j ms)),
  m ∙ kept_moment (bytes_eq (codes "producer_timestamp") k) (last_of (codes "producer_timestamp") ms) j words moment t w.1 ∙ sym (ap (λ o. stamp_in (text_in o)) (last-push (codes "producer_timestamp") k j ms)),
)

pub watched_head : (ms : List (List ℕ × Json)) (name : Option (List ℕ)) (moment : Option ℤ) → Watches ms name moment → both name moment ≡ head_of (spec.object (members_of (settled [] ms)))
watched_head ms name moment w =
    (λ i. both (w.0 i) (w.1 i))
    ∙ sym (ap (λ xs. both (nonempty (text_in (find_member (codes "certname") xs))) (stamp_in (text_in (find_member (codes "producer_timestamp") xs)))) (members_list-of (settled [] ms)))

-- the two names differ
pub names_apart : (k : List ℕ) → bytes_eq (codes "certname") k ≡ true → bytes_eq (codes "producer_timestamp") k ≡ false
names_apart k h = ap (bytes_eq (codes "producer_timestamp")) (sym ((bytes_eq-Decides (codes "certname") k).0 h))

-- ---- a complete value without a head

owed_step : (c : Bool) (j : Json) (b at : ℕ) (bs : List ℕ) → is_space b ≡ c → head_told (verdict 127 [] (owed [] j) (at + 1) bs) ≡ None → head_told (verdict 127 [] (owed [] j) at (b ∷ bs)) ≡ None
owed_step true j b at bs e next = rw e next
owed_step false j b at bs e next = rw e refl

pub headless-owed : (j : Json) (bs : List ℕ) (at : ℕ) → head_of j ≡ None → head_told (verdict 127 [] (owed [] j) at bs) ≡ None
headless-owed j [] at h = h
headless-owed j (b ∷ bs) at h = owed_step (is_space b) j b at bs refl (headless-owed j bs (at + 1) h)

-- ---- a text that does not begin with a brace

spaced_first : (b x : ℕ) → b ≡ x → is_space b ≡ false → is_space x ≡ true → ⊥
spaced_first b x e h g = both_ways (is_space b) (ap is_space e ∙ g) h

headless_tree : (b : ℕ) (bs before : List ℕ) (t : Tree) (after : List ℕ) → is_space b ≡ false → ¬ (b ≡ 123) → IsSpace before → b ∷ bs ≡ before ++ text t ++ after → head_of (grammar.value t) ≡ None
headless_tree b bs (x ∷ xs) t after black other s e = absurd (spaced_first b x (same_first b x bs (xs ++ text t ++ after) e) black s.0)
headless_tree b bs [] grammar.null after black other s e = refl
headless_tree b bs [] (grammar.boolean c) after black other s e = refl
headless_tree b bs [] (grammar.number n) after black other s e = refl
headless_tree b bs [] (grammar.string ps) after black other s e = refl
headless_tree b bs [] (grammar.empty_array space) after black other s e = refl
headless_tree b bs [] (grammar.array x xs) after black other s e = refl
headless_tree b bs [] (grammar.empty_object space) after black other s e = absurd (other (same_first b 123 bs _ e))
headless_tree b bs [] (grammar.object m ms) after black other s e = absurd (other (same_first b 123 bs _ e))

headless_spelled : (b : ℕ) (bs : List ℕ) (v : Json) → is_space b ≡ false → ¬ (b ≡ 123) → SpellsWithin 127 (b ∷ bs) v → head_of v ≡ None
headless_spelled b bs v black other s = ap head_of s.value_is ∙ by_tree s.tree s.is_tree s.bytes_are
  where
    by_tree : (e : grammar.Element) → grammar.IsElement e → b ∷ bs ≡ grammar.element_text e → head_of (grammar.element_value e) ≡ None
    by_tree (element before t after) h e = headless_tree b bs before t after black other h.0 e

headless_told : (b at : ℕ) (bs : List ℕ) (w : Verdict) → is_space b ≡ false → ¬ (b ≡ 123) → Says 127 [] value at (b ∷ bs) w → head_told w ≡ None
headless_told b at bs (spelled v) black other h = headless_spelled b bs v black other (read_spells 127 v (b ∷ bs) h)
headless_told b at bs (not_json k) black other h = refl
headless_told b at bs (too_deep k) black other h = refl

pub headless : (bytes : List ℕ) (at : ℕ) → at < length bytes → is_space (get_or bytes at 0) ≡ false → ¬ (get_or bytes at 0 ≡ 123) → head_told (verdict 127 [] value at (drop at bytes)) ≡ None
headless bytes at lt black other =
    ap (λ bs. head_told (verdict 127 [] value at bs)) (drop_more bytes at 0 lt)
    ∙ headless_told (get_or bytes at 0) at (drop (at + 1) bytes) _ black other (verdict-says 127 (get_or bytes at 0 ∷ drop (at + 1) bytes) [] value at)

-- ---- a quote

pub quoted_value : (bytes : List ℕ) (fs : List Frame) (at : ℕ) → at < length bytes → get_or bytes at 0 ≡ 34 → verdict 127 fs value at (drop at bytes) ≡ by_string 127 fs (text_verdict inside [] (at + 1) (drop (at + 1) bytes))
quoted_value bytes fs at lt e =
    ap (verdict 127 fs value at) (drop_more bytes at 0 lt) ∙ rw e (verdict-string 127 fs (drop (at + 1) bytes) (at + 1) inside [])

pub quoted_key : (bytes : List ℕ) (fs : List Frame) (ms : List (List ℕ × Json)) (at : ℕ) → at < length bytes → get_or bytes at 0 ≡ 34 → verdict 127 fs (next_key ms) at (drop at bytes) ≡ by_key 127 fs ms (text_verdict inside [] (at + 1) (drop (at + 1) bytes))
quoted_key bytes fs ms at lt e =
    ap (verdict 127 fs (next_key ms) at) (drop_more bytes at 0 lt) ∙ rw e (verdict-key 127 fs ms (drop (at + 1) bytes) (at + 1) inside [])
