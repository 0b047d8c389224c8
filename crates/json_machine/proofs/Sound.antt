-- Law 3: what the machine reads has a tree. `Rest` says what is left of a text behind each state: the rest of a tree's
-- text, with the value of the whole; a step of the machine keeps it, one lemma a mode.
use Rattle.std.proofs.Common.{◌≡◌, ◌∙◌, ◌⊎◌, inl, inr, ℕ, suc, ◌-◌, ◌<◌, ◌≤◌, List, [], ◌∷◌, ◌++◌, length, refl, sym, ap, subst, Bool, true, false, Option, Some, None, arith, append_assoc, ◌==◌, nat_lt, if◌then◌else◌}
use Rattle.std.specs.Prelude.{option_map, codes}
use Rattle.std.specs.Char.{is_ascii_digit}
use Rattle.text_spec.specs.Json as spec
use Rattle.text_spec.specs.Json.{Json, items_of, members_of, settled}
use Rattle.text_spec.specs.JsonText as grammar
use Rattle.text_spec.specs.Number.{IsNumber}
use Rattle.text_spec.specs.JsonText.{piece_text, string_text, string_bytes, IsSpace, Tree, Element, element, Elements, last_element, next_element, Member, member, Members, last_member, next_member, text, element_text, elements_text, member_text, members_text, member_pairs, IsTree, AreElements, AreMembers, depth, elements_depth, members_depth, SpellsWithin}
use Rattle.json_machine.specs.Machine.{NumberState, after_minus, after_zero, in_whole, number_step, number_on, may_end, TextState, Reading, within, closed, inside, text_step, Frame, in_array, in_object, Mode, value, first_item, first_key, next_key, key, colon, owed, number, string, State, is_space, begin, close, after, open_key, as_string, as_key, step, finish, and_then, read}
use Rattle.std.proofs.lemmas.List.{append-nil}
use Rattle.text_spec.proofs.of_plain_laws.Lists.{regroup}
use Rattle.text_spec.proofs.of_plain_laws.Booleans.{eq_is}
use Rattle.text_spec.proofs.of_plain_laws.Options.{choose, none_some, some_same}
use Rattle.json_machine.proofs.Trees.{elements_list, elements_list-value, member_regroup}
use Rattle.json_machine.proofs.Cases.{below}
use Rattle.json_machine.proofs.NumberSound.{NumberRest, number-sound, number-ended, minus_number, zero_number, digit_number}
use Rattle.json_machine.proofs.TextSound.{TextRest, text-sound, text-closed}

-- ---- what is left behind a state, where the value of the whole text is v

abbrev After : ℕ → List Frame → Json → List ℕ → Json → Type 0
After n [] j r v = IsSpace r × (v ≡ j)
After n (in_array js ∷ fs) j r v = (xs : List ℕ) × (es : Elements) × (rest : List ℕ) × IsSpace xs × AreElements es × (elements_depth es ≤ n - suc (length fs)) × (r ≡ xs ++ (elements_text es ++ rest)) × After n fs (spec.array (items_of (js ++ j ∷ elements_list es))) rest v
After n (in_object ms k ∷ fs) j r v = (xs : List ℕ) × (others : Members) × (rest : List ℕ) × IsSpace xs × AreMembers others × (members_depth others ≤ n - suc (length fs)) × (r ≡ xs ++ (members_text others ++ rest)) × After n fs (spec.object (members_of (settled [] (ms ++ (k, j) ∷ member_pairs others)))) rest v

abbrev Begun : ℕ → List Frame → List ℕ → Json → Type 0
Begun n fs r v = (t : Tree) × (rest : List ℕ) × IsTree t × (depth t ≤ n - length fs) × (r ≡ text t ++ rest) × After n fs (grammar.value t) rest v

abbrev Spaced : (List ℕ → Type 0) → List ℕ → Type 0
Spaced P r = (xs : List ℕ) × (rest : List ℕ) × IsSpace xs × (r ≡ xs ++ rest) × P rest

abbrev Valued : ℕ → List Frame → List ℕ → Json → Type 0
Valued n fs r v = Spaced (λ x. Begun n fs x v) r

abbrev Byte : ℕ → (List ℕ → Type 0) → List ℕ → Type 0
Byte b P r = (rest : List ℕ) × (r ≡ b ∷ rest) × P rest

abbrev Coloned : ℕ → List Frame → List (List ℕ × Json) → List ℕ → List ℕ → Json → Type 0
Coloned n fs ms k r v = Spaced (Byte 58 (λ x. Valued n (in_object ms k ∷ fs) x v)) r

abbrev Keyed : ℕ → List Frame → List (List ℕ × Json) → TextState → List ℕ → List ℕ → Json → Type 0
Keyed n fs ms t s r v = (ds : List ℕ) × (f : List ℕ) × (rest : List ℕ) × TextRest t s ds f × (r ≡ ds ++ rest) × Coloned n fs ms f rest v

abbrev NextKey : ℕ → List Frame → List (List ℕ × Json) → List ℕ → Json → Type 0
NextKey n fs ms r v = Spaced (Byte 34 (λ x. Keyed n fs ms inside [] x v)) r

abbrev Rest : ℕ → List Frame → Mode → List ℕ → Json → Type 0
Rest n fs value r v = Valued n fs r v
Rest n fs first_item r v = Spaced (Byte 93 (λ x. After n fs (spec.array spec.no_items) x v)) r ⊎ Valued n (in_array [] ∷ fs) r v
Rest n fs first_key r v = Spaced (Byte 125 (λ x. After n fs (spec.object spec.no_members) x v)) r ⊎ NextKey n fs [] r v
Rest n fs (next_key ms) r v = NextKey n fs ms r v
Rest n fs (key ms t s) r v = Keyed n fs ms t s r v
Rest n fs (colon ms k) r v = Coloned n fs ms k r v
Rest n fs (owed cs j) r v = (rest : List ℕ) × (r ≡ cs ++ rest) × After n fs j rest v
Rest n fs (number t s) r v = (ds : List ℕ) × (rest : List ℕ) × NumberRest t ds × (r ≡ ds ++ rest) × After n fs (spec.number (s ++ ds)) rest v
Rest n fs (string t s) r v = (ds : List ℕ) × (f : List ℕ) × (rest : List ℕ) × TextRest t s ds f × (r ≡ ds ++ rest) × After n fs (spec.string f) rest v

-- ---- tools

spaced : (P : List ℕ → Type 0) (b : ℕ) (r : List ℕ) → is_space b ≡ true → Spaced P r → Spaced P (b ∷ r)
spaced P b r e h = (b ∷ h.0, h.1, (e, h.2), ap (λ x. b ∷ x) h.3, h.4)

unspaced : (P : List ℕ → Type 0) (r : List ℕ) → P r → Spaced P r
unspaced P r h = ([], r, tt, refl, h)

byte : (P : List ℕ → Type 0) (b c : ℕ) (r : List ℕ) → (b == c) ≡ true → P r → Spaced (Byte c P) (b ∷ r)
byte P b c r e h = ([], b ∷ r, tt, refl, (r, ap (λ x. x ∷ r) (eq_is b c e), h))

module _ (n : ℕ) (v : Json) where
  arrive : (p q : State) (r : List ℕ) → Some p ≡ Some q → Rest n q.0 q.1 r v → Rest n p.0 p.1 r v
  arrive p q r e h = subst (λ s. Rest n s.0 s.1 r v) (some_same p q e) h

  after_owed : (fs : List Frame) (j : Json) (r : List ℕ) → Rest n fs (owed [] j) r v → After n fs j r v
  after_owed fs j r h = subst (λ x. After n fs j x v) (sym h.1) h.2

  after_space : (fs : List Frame) (j : Json) (b : ℕ) (r : List ℕ) → is_space b ≡ true → After n fs j r v → After n fs j (b ∷ r) v
  after_space [] j b r e h = ((e, h.0), h.1)
  after_space (in_array js ∷ fs) j b r e h = (b ∷ h.0, h.1, h.2, (e, h.3), h.4, h.5, ap (λ x. b ∷ x) h.6, h.7)
  after_space (in_object ms k ∷ fs) j b r e h = (b ∷ h.0, h.1, h.2, (e, h.3), h.4, h.5, ap (λ x. b ∷ x) h.6, h.7)

  array_next : (fs : List Frame) (js : List Json) (j : Json) (b : ℕ) (r : List ℕ) → b ≡ 44 → Valued n (in_array (js ++ j ∷ []) ∷ fs) r v → After n (in_array js ∷ fs) j (b ∷ r) v
  array_next fs js j b r e h =
      let t = h.4.0 in
      let a = h.4.5 in
      let whole : r ≡ element_text (element h.0 t a.0) ++ elements_text a.1 ++ a.2 =
      h.3 ∙ ap (λ x. h.0 ++ x) (h.4.4 ∙ ap (λ x. text t ++ x) a.6) ∙ sym (member_regroup h.0 (text t) a.0 (elements_text a.1) a.2) in (
        [],
        next_element (element h.0 t a.0) a.1,
        a.2,
        tt,
        ((h.2, h.4.2, a.3), a.4),
        omega (arith, h.4.3, a.5),
        λ i. e i ∷ whole i,
        subst (λ xs. After n fs (spec.array (items_of xs)) a.2 v) (append_assoc js (j ∷ []) (grammar.value t ∷ elements_list a.1)) a.7,
      )

  array_end : (fs : List Frame) (js : List Json) (j : Json) (b : ℕ) (r : List ℕ) → b ≡ 93 → After n fs (spec.array (items_of (js ++ j ∷ []))) r v → After n (in_array js ∷ fs) j (b ∷ r) v
  array_end fs js j b r e h = ([], last_element, r, tt, tt, omega arith, λ i. e i ∷ r, h)

  object_next : (fs : List Frame) (ms : List (List ℕ × Json)) (k : List ℕ) (j : Json) (b : ℕ) (r : List ℕ) → b ≡ 44 → NextKey n fs (ms ++ (k, j) ∷ []) r v → After n (in_object ms k ∷ fs) j (b ∷ r) v
  object_next fs ms k j b r e h =
      let quote = h.4 in
      let q = quote.2 in
      let ps = q.3.0 in
      let c = q.5 in
      let w = c.4.2 in
      let t = w.4.0 in
      let a = w.4.5 in
      let m = member h.0 ps c.0 (element w.0 t a.0) in
      let last : w.1 ≡ text t ++ (a.0 ++ (members_text a.1 ++ a.2)) = w.4.4 ∙ ap (λ x. text t ++ x) a.6 in
      let behind : c.4.0 ≡ element_text (element w.0 t a.0) ++ (members_text a.1 ++ a.2) = w.3 ∙ ap (λ x. w.0 ++ x) last ∙ sym (regroup w.0 (text t) a.0 (members_text a.1 ++ a.2)) in
      let from_key : q.2 ≡ c.0 ++ 58 ∷ (element_text (element w.0 t a.0) ++ (members_text a.1 ++ a.2)) = c.3 ∙ ap (λ x. c.0 ++ x) (c.4.1 ∙ ap (λ x. 58 ∷ x) behind) in
      let from_quote : h.1 ≡ string_text ps ++ (c.0 ++ 58 ∷ (element_text (element w.0 t a.0) ++ (members_text a.1 ++ a.2))) = quote.1 ∙ ap (λ x. 34 ∷ x) (q.4 ∙ (λ i. q.3.2 i ++ from_key i)) in
      let whole : r ≡ member_text m ++ members_text a.1 ++ a.2 =
      h.3 ∙ ap (λ x. h.0 ++ x) from_quote
      ∙ sym (member_regroup h.0 (string_text ps) c.0 (58 ∷ element_text (element w.0 t a.0)) (members_text a.1 ++ a.2))
      ∙ sym (append_assoc (member_text m) (members_text a.1) a.2) in (
        [],
        next_member m a.1,
        a.2,
        tt,
        ((h.2, q.3.1, c.2, (w.2, w.4.2, a.3)), a.4),
        omega (arith, w.4.3, a.5),
        λ i. e i ∷ whole i,
        subst (λ xs. After n fs (spec.object (members_of (settled [] xs))) a.2 v)
            (ap (λ f. ms ++ (k, j) ∷ [] ++ (f, grammar.value t) ∷ member_pairs a.1) q.3.3 ∙ append_assoc ms ((k, j) ∷ []) ((string_bytes ps, grammar.value t) ∷ member_pairs a.1)) a.7,
      )

  object_end : (fs : List Frame) (ms : List (List ℕ × Json)) (k : List ℕ) (j : Json) (b : ℕ) (r : List ℕ) → b ≡ 125 → After n fs (spec.object (members_of (settled [] (ms ++ (k, j) ∷ [])))) r v → After n (in_object ms k ∷ fs) j (b ∷ r) v
  object_end fs ms k j b r e h = ([], last_member, r, tt, tt, omega arith, λ i. e i ∷ r, h)

  close-sound : (fs : List Frame) (j : Json) (b : ℕ) (q : State) (r : List ℕ) → close fs j b ≡ Some q → Rest n q.0 q.1 r v → After n fs j (b ∷ r) v
  close-sound [] j b q r h x = none_some q h
  close-sound (in_array js ∷ fs) j b q r h x = choose (b == 44) _ _ (Some q) (After n (in_array js ∷ fs) j (b ∷ r) v) h
      (λ e g. array_next fs js j b r (eq_is b 44 e) (arrive (in_array (js ++ j ∷ []) ∷ fs, value) q r g x))
      (λ e g. choose (b == 93) _ _ (Some q) (After n (in_array js ∷ fs) j (b ∷ r) v) g
      (λ e g. array_end fs js j b r (eq_is b 93 e) (after_owed fs _ r (arrive (fs, owed [] (spec.array (items_of (js ++ j ∷ [])))) q r g x)))
      (λ e g. none_some q g))
  close-sound (in_object ms k ∷ fs) j b q r h x = choose (b == 44) _ _ (Some q) (After n (in_object ms k ∷ fs) j (b ∷ r) v) h
      (λ e g. object_next fs ms k j b r (eq_is b 44 e) (arrive (fs, next_key (ms ++ (k, j) ∷ [])) q r g x))
      (λ e g. choose (b == 125) _ _ (Some q) (After n (in_object ms k ∷ fs) j (b ∷ r) v) g
      (λ e g. object_end fs ms k j b r (eq_is b 125 e) (after_owed fs _ r (arrive (fs, owed [] (spec.object (members_of (settled [] (ms ++ (k, j) ∷ []))))) q r g x)))
      (λ e g. none_some q g))

  after-sound : (fs : List Frame) (j : Json) (b : ℕ) (q : State) (r : List ℕ) → after fs j b ≡ Some q → Rest n q.0 q.1 r v → After n fs j (b ∷ r) v
  after-sound fs j b q r h x = choose (is_space b) (Some (fs, owed [] j)) (close fs j b) (Some q) (After n fs j (b ∷ r) v) h
      (λ e g. after_space fs j b r e (after_owed fs j r (arrive (fs, owed [] j) q r g x)))
      (λ e g. close-sound fs j b q r g x)

  -- ---- a value begins

  leaf : (fs : List Frame) (t : Tree) (b c : ℕ) (cs : List ℕ) (r : List ℕ) → (b == c) ≡ true → IsTree t → depth t ≡ 0 → text t ≡ c ∷ cs → Rest n fs (owed cs (grammar.value t)) r v → Begun n fs (b ∷ r) v
  leaf fs t b c cs r e is flat spells h = (t, h.0, is, omega (arith, flat), (λ i. eq_is b c e i ∷ h.1 i) ∙ ap (λ x. x ++ h.0) (sym spells), h.2)

  open_array : (fs : List Frame) (b : ℕ) (r : List ℕ) → (b == 91) ≡ true → length fs < n → Rest n fs first_item r v → Begun n fs (b ∷ r) v
  open_array fs b r e room (inl h) = (
    grammar.empty_array h.0,
    h.4.0,
    h.2,
    omega arith,
    (λ i. eq_is b 91 e i ∷ (h.3 ∙ ap (λ x. h.0 ++ x) h.4.1 ∙ sym (append_assoc h.0 (93 ∷ []) h.4.0)) i),
    h.4.2,
  )
  open_array fs b r e room (inr h) =
      let t = h.4.0 in
      let a = h.4.5 in (
        grammar.array (element h.0 t a.0) a.1,
        a.2,
        ((h.2, h.4.2, a.3), a.4),
        omega (arith, room, h.4.3, a.5),
        (λ i. eq_is b 91 e i ∷ (h.3 ∙ ap (λ x. h.0 ++ x) (h.4.4 ∙ ap (λ x. text t ++ x) a.6) ∙ sym (member_regroup h.0 (text t) a.0 (elements_text a.1) a.2)) i),
        subst (λ js. After n fs (spec.array (spec.item (grammar.value t) js)) a.2 v) (elements_list-value a.1) a.7,
      )

  open_object : (fs : List Frame) (b : ℕ) (r : List ℕ) → (b == 123) ≡ true → length fs < n → Rest n fs first_key r v → Begun n fs (b ∷ r) v
  open_object fs b r e room (inl h) = (
    grammar.empty_object h.0,
    h.4.0,
    h.2,
    omega arith,
    (λ i. eq_is b 123 e i ∷ (h.3 ∙ ap (λ x. h.0 ++ x) h.4.1 ∙ sym (append_assoc h.0 (125 ∷ []) h.4.0)) i),
    h.4.2,
  )
  open_object fs b r e room (inr h) =
      let quote = h.4 in
      let q = quote.2 in
      let ps = q.3.0 in
      let c = q.5 in
      let w = c.4.2 in
      let t = w.4.0 in
      let a = w.4.5 in
      let m = member h.0 ps c.0 (element w.0 t a.0) in
      let last : w.1 ≡ text t ++ (a.0 ++ (members_text a.1 ++ a.2)) = w.4.4 ∙ ap (λ x. text t ++ x) a.6 in
      let behind : c.4.0 ≡ element_text (element w.0 t a.0) ++ (members_text a.1 ++ a.2) = w.3 ∙ ap (λ x. w.0 ++ x) last ∙ sym (regroup w.0 (text t) a.0 (members_text a.1 ++ a.2)) in
      let from_key : q.2 ≡ c.0 ++ 58 ∷ (element_text (element w.0 t a.0) ++ (members_text a.1 ++ a.2)) = c.3 ∙ ap (λ x. c.0 ++ x) (c.4.1 ∙ ap (λ x. 58 ∷ x) behind) in
      let from_quote : h.1 ≡ string_text ps ++ (c.0 ++ 58 ∷ (element_text (element w.0 t a.0) ++ (members_text a.1 ++ a.2))) = quote.1 ∙ ap (λ x. 34 ∷ x) (q.4 ∙ (λ i. q.3.2 i ++ from_key i)) in
      let whole : r ≡ member_text m ++ members_text a.1 ++ a.2 =
      h.3 ∙ ap (λ x. h.0 ++ x) from_quote
      ∙ sym (member_regroup h.0 (string_text ps) c.0 (58 ∷ element_text (element w.0 t a.0)) (members_text a.1 ++ a.2))
      ∙ sym (append_assoc (member_text m) (members_text a.1) a.2) in (
        grammar.object m a.1,
        a.2,
        ((h.2, q.3.1, c.2, (w.2, w.4.2, a.3)), a.4),
        omega (arith, room, w.4.3, a.5),
        (λ i. eq_is b 123 e i ∷ whole i),
        subst (λ f. After n fs (spec.object (members_of (settled [] ((f, grammar.value t) ∷ member_pairs a.1)))) a.2 v) q.3.3 a.7,
      )

  number_begun : (fs : List Frame) (t : NumberState) (b : ℕ) (r : List ℕ) → ((ds : List ℕ) → NumberRest t ds → IsNumber (b ∷ ds)) → Rest n fs (number t (b ∷ [])) r v → Begun n fs (b ∷ r) v
  number_begun fs t b r is h = (grammar.number (b ∷ h.0), h.1, is h.0 h.2, omega arith, ap (λ x. b ∷ x) h.3, h.4)

  begin-sound : (fs : List Frame) (b : ℕ) (q : State) (r : List ℕ) → begin n fs b ≡ Some q → Rest n q.0 q.1 r v → Begun n fs (b ∷ r) v
  begin-sound fs b q r h x = choose (b == 91) _ _ (Some q) P h
      (λ e g. choose (nat_lt (length fs) n) _ _ (Some q) P g (λ l g. open_array fs b r e (below _ _ l) (arrive (fs, first_item) q r g x)) (λ l g. none_some q g))
      (λ e g. choose (b == 123) _ _ (Some q) P g
      (λ e g. choose (nat_lt (length fs) n) _ _ (Some q) P g (λ l g. open_object fs b r e (below _ _ l) (arrive (fs, first_key) q r g x)) (λ l g. none_some q g))
      (λ e g. choose (b == 34) _ _ (Some q) P g
      (λ e g. string_begun e (arrive (fs, string inside []) q r g x))
      (λ e g. choose (b == 110) _ _ (Some q) P g
      (λ e g. leaf fs grammar.null b 110 (codes "ull") r e tt refl refl (arrive (fs, owed (codes "ull") spec.null) q r g x))
      (λ e g. choose (b == 116) _ _ (Some q) P g
      (λ e g. leaf fs (grammar.boolean true) b 116 (codes "rue") r e tt refl refl (arrive (fs, owed (codes "rue") (spec.boolean true)) q r g x))
      (λ e g. choose (b == 102) _ _ (Some q) P g
      (λ e g. leaf fs (grammar.boolean false) b 102 (codes "alse") r e tt refl refl (arrive (fs, owed (codes "alse") (spec.boolean false)) q r g x))
      (λ e g. choose (b == 45) _ _ (Some q) P g
      (λ e g. number_begun fs after_minus b r (λ ds d. subst (λ c. IsNumber (c ∷ ds)) (sym (eq_is b 45 e)) (minus_number ds d)) (arrive (fs, number after_minus (b ∷ [])) q r g x))
      (λ e g. choose (b == 48) _ _ (Some q) P g
      (λ e g. number_begun fs after_zero b r (λ ds d. zero_number b ds (eq_is b 48 e) d) (arrive (fs, number after_zero (b ∷ [])) q r g x))
      (λ zero g. choose (is_ascii_digit b) _ _ (Some q) P g
      (λ e g. number_begun fs in_whole b r (λ ds d. digit_number b ds zero e d) (arrive (fs, number in_whole (b ∷ [])) q r g x))
      (λ e g. none_some q g)))))))))
    where
      P : Type 0
      P = Begun n fs (b ∷ r) v

      string_begun : (b == 34) ≡ true → Rest n fs (string inside []) r v → Begun n fs (b ∷ r) v
      string_begun e h = (
        grammar.string h.3.0,
        h.2,
        h.3.1,
        omega arith,
        (λ i. eq_is b 34 e i ∷ (h.4 ∙ ap (λ x. x ++ h.2) h.3.2) i),
        subst (λ f. After n fs (spec.string f) h.2 v) h.3.3 h.5,
      )

  -- ---- a step

  owed_on : (fs : List Frame) (j : Json) (b c : ℕ) (cs r : List ℕ) → (b == c) ≡ true → Rest n fs (owed cs j) r v → Rest n fs (owed (c ∷ cs) j) (b ∷ r) v
  owed_on fs j b c cs r e h = (h.0, (λ i. eq_is b c e i ∷ h.1 i), h.2)

  number_goes : (fs : List Frame) (t : NumberState) (s : List ℕ) (b : ℕ) (q : State) (r : List ℕ) (o : Option NumberState) (may : Bool) → number_step t b ≡ o → may_end t ≡ may → number_on fs may s b o ≡ Some q → Rest n q.0 q.1 r v → Rest n fs (number t s) (b ∷ r) v
  number_goes fs t s b q r (Some u) may e m h x =
      let y : Rest n fs (number u (s ++ b ∷ [])) r v = arrive (fs, number u (s ++ b ∷ [])) q r h x in
      (b ∷ y.0, y.1, number-sound t u b y.0 e y.2, ap (λ z. b ∷ z) y.3, subst (λ z. After n fs (spec.number z) y.1 v) (append_assoc s (b ∷ []) y.0) y.4)
  number_goes fs t s b q r None true e m h x =
      ([], b ∷ r, number-ended t m, refl, subst (λ z. After n fs (spec.number z) (b ∷ r) v) (sym (append-nil s)) (after-sound fs (spec.number s) b q r h x))
  number_goes fs t s b q r None false e m h x = none_some q h

  string_goes : (fs : List Frame) (t : TextState) (s : List ℕ) (b : ℕ) (q : State) (r : List ℕ) (o : Option Reading) → text_step t s b ≡ o → option_map (as_string fs) o ≡ Some q → Rest n q.0 q.1 r v → Rest n fs (string t s) (b ∷ r) v
  string_goes fs t s b q r None e h x = none_some q h
  string_goes fs t s b q r (Some (within u z)) e h x =
      let y : Rest n fs (string u z) r v = arrive (fs, string u z) q r h x in
      (b ∷ y.0, y.1, y.2, text-sound t u b s z y.0 y.1 e y.3, ap (λ w. b ∷ w) y.4, y.5)
  string_goes fs t s b q r (Some (closed f)) e h x =
      let y : Rest n fs (owed [] (spec.string f)) r v = arrive (fs, owed [] (spec.string f)) q r h x in
      (b ∷ [], f, y.0, text-closed t b s f e, ap (λ w. b ∷ w) y.1, y.2)

  key_goes : (fs : List Frame) (ms : List (List ℕ × Json)) (t : TextState) (s : List ℕ) (b : ℕ) (q : State) (r : List ℕ) (o : Option Reading) → text_step t s b ≡ o → option_map (as_key fs ms) o ≡ Some q → Rest n q.0 q.1 r v → Keyed n fs ms t s (b ∷ r) v
  key_goes fs ms t s b q r None e h x = none_some q h
  key_goes fs ms t s b q r (Some (within u z)) e h x =
      let y : Keyed n fs ms u z r v = arrive (fs, key ms u z) q r h x in
      (b ∷ y.0, y.1, y.2, text-sound t u b s z y.0 y.1 e y.3, ap (λ w. b ∷ w) y.4, y.5)
  key_goes fs ms t s b q r (Some (closed f)) e h x =
      let y : Coloned n fs ms f r v = arrive (fs, colon ms f) q r h x in
      (b ∷ [], f, r, text-closed t b s f e, refl, y)

  key_opens : (fs : List Frame) (ms : List (List ℕ × Json)) (b : ℕ) (q : State) (r : List ℕ) → open_key fs ms b ≡ Some q → Rest n q.0 q.1 r v → NextKey n fs ms (b ∷ r) v
  key_opens fs ms b q r h x = choose (b == 34) _ _ (Some q) (NextKey n fs ms (b ∷ r) v) h
      (λ e g. byte (λ y. Keyed n fs ms inside [] y v) b 34 r e (arrive (fs, key ms inside []) q r g x))
      (λ e g. none_some q g)

  pub step-sound : (fs : List Frame) (m : Mode) (b : ℕ) (q : State) (r : List ℕ) → step n fs m b ≡ Some q → Rest n q.0 q.1 r v → Rest n fs m (b ∷ r) v
  step-sound fs value b q r h x = choose (is_space b) _ _ (Some q) (Valued n fs (b ∷ r) v) h
      (λ e g. spaced (λ y. Begun n fs y v) b r e (arrive (fs, value) q r g x))
      (λ e g. unspaced (λ y. Begun n fs y v) (b ∷ r) (begin-sound fs b q r g x))
  step-sound fs first_item b q r h x = choose (is_space b) _ _ (Some q) (Rest n fs first_item (b ∷ r) v) h
      (λ e g. elim (arrive (fs, first_item) q r g x) [
        | inl y ↦ inl (spaced (Byte 93 (λ z. After n fs (spec.array spec.no_items) z v)) b r e y)
        | inr y ↦ inr (spaced (λ z. Begun n (in_array [] ∷ fs) z v) b r e y)
      ])
      (λ e g. choose (b == 93) _ _ (Some q) (Rest n fs first_item (b ∷ r) v) g
      (λ e g. inl (byte (λ z. After n fs (spec.array spec.no_items) z v) b 93 r e (after_owed fs _ r (arrive (fs, owed [] (spec.array spec.no_items)) q r g x))))
      (λ e g. inr (unspaced (λ z. Begun n (in_array [] ∷ fs) z v) (b ∷ r) (begin-sound (in_array [] ∷ fs) b q r g x))))
  step-sound fs first_key b q r h x = choose (is_space b) _ _ (Some q) (Rest n fs first_key (b ∷ r) v) h
      (λ e g. elim (arrive (fs, first_key) q r g x) [
        | inl y ↦ inl (spaced (Byte 125 (λ z. After n fs (spec.object spec.no_members) z v)) b r e y)
        | inr y ↦ inr (spaced (Byte 34 (λ z. Keyed n fs [] inside [] z v)) b r e y)
      ])
      (λ e g. choose (b == 125) _ _ (Some q) (Rest n fs first_key (b ∷ r) v) g
      (λ e g. inl (byte (λ z. After n fs (spec.object spec.no_members) z v) b 125 r e (after_owed fs _ r (arrive (fs, owed [] (spec.object spec.no_members)) q r g x))))
      (λ e g. inr (key_opens fs [] b q r g x)))
  step-sound fs (next_key ms) b q r h x = choose (is_space b) _ _ (Some q) (NextKey n fs ms (b ∷ r) v) h
      (λ e g. spaced (Byte 34 (λ z. Keyed n fs ms inside [] z v)) b r e (arrive (fs, next_key ms) q r g x))
      (λ e g. key_opens fs ms b q r g x)
  step-sound fs (key ms t s) b q r h x = key_goes fs ms t s b q r (text_step t s b) refl h x
  step-sound fs (colon ms k) b q r h x = choose (is_space b) _ _ (Some q) (Coloned n fs ms k (b ∷ r) v) h
      (λ e g. spaced (Byte 58 (λ z. Valued n (in_object ms k ∷ fs) z v)) b r e (arrive (fs, colon ms k) q r g x))
      (λ e g. choose (b == 58) _ _ (Some q) (Coloned n fs ms k (b ∷ r) v) g
      (λ e g. byte (λ z. Valued n (in_object ms k ∷ fs) z v) b 58 r e (arrive (in_object ms k ∷ fs, value) q r g x))
      (λ e g. none_some q g))
  step-sound fs (owed [] j) b q r h x = (b ∷ r, refl, after-sound fs j b q r h x)
  step-sound fs (owed (c ∷ cs) j) b q r h x = choose (b == c) _ _ (Some q) (Rest n fs (owed (c ∷ cs) j) (b ∷ r) v) h
      (λ e g. owed_on fs j b c cs r e (arrive (fs, owed cs j) q r g x))
      (λ e g. none_some q g)
  step-sound fs (number t s) b q r h x = number_goes fs t s b q r (number_step t b) (may_end t) refl refl h x
  step-sound fs (string t s) b q r h x = string_goes fs t s b q r (text_step t s b) refl h x

  -- ---- the end, and the whole

  number_final : (t : NumberState) (s : List ℕ) (may : Bool) → may_end t ≡ may → (if may then Some (spec.number s) else None) ≡ Some v → Rest n [] (number t s) [] v
  number_final t s true m h = ([], [], number-ended t m, refl, (tt, some_same (spec.number s) v h ∙ ap spec.number (sym (append-nil s))))
  number_final t s false m h = none_some v h

  final-sound : (fs : List Frame) (m : Mode) → finish fs m ≡ Some v → Rest n fs m [] v
  final-sound (f ∷ fs) m h = none_some v h
  final-sound [] value h = none_some v h
  final-sound [] first_item h = none_some v h
  final-sound [] first_key h = none_some v h
  final-sound [] (next_key ms) h = none_some v h
  final-sound [] (key ms t s) h = none_some v h
  final-sound [] (colon ms k) h = none_some v h
  final-sound [] (owed [] j) h = ([], refl, (tt, some_same j v h))
  final-sound [] (owed (c ∷ cs) j) h = none_some v h
  final-sound [] (number t s) h = number_final t s (may_end t) refl h
  final-sound [] (string t s) h = none_some v h

  goes : (fs : List Frame) (m : Mode) (b : ℕ) (r : List ℕ) (o : Option State) → step n fs m b ≡ o → and_then o (λ q. read n q.0 q.1 r) ≡ Some v → ((gs : List Frame) (l : Mode) → read n gs l r ≡ Some v → Rest n gs l r v) → Rest n fs m (b ∷ r) v
  goes fs m b r None e h next = none_some v h
  goes fs m b r (Some q) e h next = step-sound fs m b q r e (next q.0 q.1 h)

  pub read-sound : (r : List ℕ) (fs : List Frame) (m : Mode) → read n fs m r ≡ Some v → Rest n fs m r v
  read-sound [] fs m h = final-sound fs m h
  read-sound (b ∷ r) fs m h = goes fs m b r (step n fs m b) refl h (read-sound r)

  -- ---- law 3
  pub read_spells : (bytes : List ℕ) → read n [] value bytes ≡ Some v → SpellsWithin n bytes v
  read_spells bytes h =
      let x = read-sound bytes [] value h in
      let y = x.4 in
      record {
        tree = element x.0 y.0 y.1;
        is_tree = (x.2, y.2, y.5.0);
        bytes_are = x.3 ∙ ap (λ r. x.0 ++ r) y.4 ∙ sym (append_assoc x.0 (text y.0) y.1);
        value_is = y.5.1;
        levels = omega (arith, y.3);
      }
