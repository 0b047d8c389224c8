-- Orders, one by one, and what members they have.
use Rattle.std.proofs.Common.{◌≡◌, ◌∙◌, ℕ, ◌+◌, ◌<◌, List, [], ◌∷◌, ◌++◌, length, drop, get_or, refl, sym, ap, subst, Bool, true, false, Option, Some, None, Result, Ok, Err, append_assoc}
use Rattle.std.specs.Prelude.{◌&&◌, slice_get, IfOk}
use Rattle.std.specs.Option.{option_map}
use Rattle.std.proofs.lemmas.List.{drop_more}
use Rattle.std.proofs.lemmas.Option.{slice_get_within, get_or_from_slice_get}
use Rattle.json_read.specs.text_spec.Json as json
use Rattle.json_read.proofs.of_text_spec.JsonLemmas.{items_list-of, members_list-of}
use Rattle.json_read.specs.text_spec.JsonText.{Spells}
use Rattle.json_read.specs.json_tree.Tree.{json_of, jsons}
use Rattle.json_read.specs.json_tree.declared.tree.Json.{Json}
use Rattle.json_read.specs.json_tree.declared.tree.Json.TheVariants.{Map, List as Array}
use Rattle.json_read.specs.Found.{IsReadOf}
use Rattle.json_read.specs.declared.fault.ReadFault.{ReadFault}
use Rattle.json_read.specs.declared.fault.ReadFault.TheVariants.{NotJson, TooDeep, Memory}
use Rattle.ast_tree.specs.query_spec.declared.parts.Order.{Order}
use Rattle.paging_params.specs.Told.{spells_nothing}
use Rattle.paging_params.specs.Params.{ParamValue, url, body}
use Rattle.paging_params.specs.Paging.{is_of_order, has_no_other, order_of_members, order_of, in_front, orders_among, orders_of, AreOrders}

-- ---- members

module _ (ms : List (List ℕ × json.Json)) (at : ℕ) (m : List ℕ × json.Json) (is : slice_get ms at ≡ Some m) where
  from_here : has_no_other (drop at ms) ≡ (is_of_order m.0 && has_no_other (drop (at + 1) ms))
  from_here =
      ap has_no_other (drop_more ms at m (slice_get_within ms at m is) ∙ ap (λ x. x ∷ drop (at + 1) ms) (get_or_from_slice_get ms at m m is))

  pub other_here : is_of_order m.0 ≡ false → has_no_other (drop at ms) ≡ false
  other_here e = from_here ∙ ap (λ (b : Bool). b && has_no_other (drop (at + 1) ms)) e

  pub no_other_here : is_of_order m.0 ≡ true → has_no_other (drop at ms) ≡ has_no_other (drop (at + 1) ms)
  no_other_here e = from_here ∙ ap (λ (b : Bool). b && has_no_other (drop (at + 1) ms)) e

-- ---- an order, and a list of them

pub of_map : {E : Type 0} (names : List (List ℕ)) (ms : List (List ℕ × json.Json)) (j : Json) (r : Result (Option Order) E) → j ≡ Map ms
    → IfOk r (λ order. order ≡ order_of_members names ms) → IfOk r (λ order. order ≡ order_of names (json_of j))
of_map names ms j (Ok order) is h = h ∙ ap (order_of_members names) (sym (members_list-of ms)) ∙ ap (λ k. order_of names (json_of k)) (sym is)
of_map names ms j (Err e) is h = tt

pub of_list : {E : Type 0} (names : List (List ℕ)) (js found : List json.Json) (j : Json) (r : Result (Option (List Order)) E) → j ≡ Array js → found ≡ js
    → IfOk r (λ orders. orders ≡ orders_among names found) → IfOk r (λ orders. orders ≡ orders_of names (json_of j))
of_list names js found j (Ok orders) is same h =
    h ∙ ap (orders_among names) same ∙ ap (orders_among names) (sym (items_list-of js)) ∙ ap (λ k. orders_of names (json_of k)) (sym is)
of_list names js found j (Err e) is same h = tt

front : (found : List Order) (o : Order) (rest : Option (List Order)) → option_map (λ os. (found ++ o ∷ []) ++ os) rest ≡ option_map (λ os. found ++ os) (in_front (Some o) rest)
front found o None = refl
front found o (Some os) = ap Some (append_assoc found (o ∷ []) os)

pub order_on : (names : List (List ℕ)) (found : List Order) (o : Order) (i : ℕ) (list : List Json) (item : Json) → i < length list → item ≡ get_or list i item
    → Some o ≡ order_of names (json_of item)
    → option_map (λ os. (found ++ o ∷ []) ++ os) (orders_among names (jsons (drop (i + 1) list))) ≡ option_map (λ os. found ++ os) (orders_among names (jsons (drop i list)))
order_on names found o i list item inside is h =
    let rest = orders_among names (jsons (drop (i + 1) list)) in
    let more : drop i list ≡ item ∷ drop (i + 1) list = drop_more list i item inside ∙ ap (λ x. x ∷ drop (i + 1) list) (sym is) in
    front found o rest
    ∙ ap (λ first. option_map (λ os. found ++ os) (in_front first rest)) h
    ∙ ap (λ js. option_map (λ os. found ++ os) (orders_among names (jsons js))) (sym more)

-- ---- a text that spells no value

pub not_spelt : (names : List (List ℕ)) (text bytes : List ℕ) (r : Result Json ReadFault) (fault : ReadFault) → r ≡ Err fault → spells_nothing fault ≡ true → bytes ≡ text
    → ((v : json.Json) → Spells bytes v → IsReadOf v r) → AreOrders names (Some (url text)) None
not_spelt names text bytes r fault is nothing same only = (None, (λ v spells. none fault nothing v (subst (IsReadOf v) is (only v (subst (λ b. Spells b v) (sym same) spells)))), refl)
  where
    none : (fault : ReadFault) → spells_nothing fault ≡ true → (v : json.Json) → IsReadOf v (Err fault) → ⊥
    none (NotJson at) nothing v h = h
    none (TooDeep at) nothing v h = h
    none Memory nothing v h = let apart : false ≡ true = nothing in cc

-- ---- a parameter of a body

pub of_body : {E : Type 0} (names : List (List ℕ)) (value : Option ParamValue) (v : json.Json) (r : Result (Option (List Order)) E) → value ≡ Some (body v)
    → IfOk r (λ orders. orders ≡ orders_of names v) → IfOk r (AreOrders names value)
of_body names value v r is h = subst (λ p. IfOk r (AreOrders names p)) (sym is) (given r h)
  where
    given : {E : Type 0} (r : Result (Option (List Order)) E) → IfOk r (λ orders. orders ≡ orders_of names v) → IfOk r (AreOrders names (Some (body v)))
    given (Ok orders) h = (Some v, refl, h)
    given (Err e) h = tt
