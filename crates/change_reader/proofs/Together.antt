-- What the elements of a list must be together: edges and names of resources are distinct, and the wire format takes each
-- element of a report's lists.
use Rattle.std.proofs.Common.{◌≡◌, ℕ, Bool, true, false, List, [], ◌∷◌, ◌++◌, Ok, Err, refl, ap}
use Rattle.std.specs.Prelude.{not, ◌&&◌, ◌||◌}
use Rattle.std.specs.List.{AllByRecursion, IsDistinct, list_any}
use Rattle.json_read.proofs.of_plain_laws.Booleans.{neither, both_true}
use Rattle.json_read.specs.text_spec.Json.{Json}
use Rattle.wire_catalog.specs.fleet_rows.declared.catalog.Edge.{Edge}
use Rattle.wire_catalog.specs.fleet_rows.declared.catalog.Resource.{Resource}
use Rattle.wire_catalog.specs.wire_spec.Table.{Checked, each_from, is_edge, has_name_of}
use Rattle.wire_catalog.specs.wire_fields.Checks.{checked}
use Rattle.wire_report.proofs.KeptLaws.{Keeps, kept_ok}
use Rattle.record_fields.specs.history_spec.Lawful.{AreDistinctEdges, AreDistinctResources}
use Rattle.record_values.proofs.Rising.{all_map}
use Rattle.change_reader.specs.Together.{are_new, is_taken}

-- ---- none stands twice

unlike : (b : Bool) → not b ≡ true → b ≡ false
unlike true e = absurd cc
unlike false e = refl

none_before : {A : Type 0} (p : A → Bool) (before : List A) (x : A) → list_any p (before ++ x ∷ []) ≡ false → (list_any p before ≡ false) × (p x ≡ false)
none_before p [] x e = (refl, (neither (p x) false e).0)
none_before p (y ∷ ys) x e =
    let two = neither (p y) (list_any p (ys ++ x ∷ [])) e in
    let rest = none_before p ys x two.1 in
    ((λ i. two.0 i || rest.0 i), rest.1)

none_more : {A : Type 0} (p : A → Bool) (before : List A) (x : A) → list_any p before ≡ false → p x ≡ false → list_any p (before ++ x ∷ []) ≡ false
none_more p [] x e last = λ i. last i || false
none_more p (y ∷ ys) x e last =
    let two = neither (p y) (list_any p ys) e in
    let rest = none_more p ys x two.1 last in
    λ i. two.0 i || rest i

module _ {A : Type 0} (meets : A → A → Bool) where
  abbrev pub AreDistinct : List A → Type 0
  AreDistinct [] = Unit {0}
  AreDistinct (x ∷ xs) = AllByRecursion (λ y. meets x y ≡ false) xs × AreDistinct xs

  abbrev AreNewTo : List A → List A → Type 0
  AreNewTo before xs = AllByRecursion (λ x. list_any (λ f. meets f x) before ≡ false) xs

  new_takes : (before xs : List A) → are_new meets before xs ≡ true → AreNewTo before xs × AreDistinct xs
  new_takes before [] e = (tt, tt)
  new_takes before (x ∷ xs) e =
      let two = both_true (not (list_any (λ f. meets f x) before)) (are_new meets (before ++ x ∷ []) xs) e in
      let rest = new_takes (before ++ x ∷ []) xs two.1 in (
        (
          unlike _ two.0,
          all_map (λ y. list_any (λ f. meets f y) (before ++ x ∷ []) ≡ false) (λ y. list_any (λ f. meets f y) before ≡ false) (λ y none. (none_before (λ f. meets f y) before x none).0) xs rest.0,
        ),
        (
          all_map (λ y. list_any (λ f. meets f y) (before ++ x ∷ []) ≡ false) (λ y. meets x y ≡ false) (λ y none. (none_before (λ f. meets f y) before x none).1) xs rest.0,
          rest.1,
        ),
      )

  all_more : (before : List A) (x : A) (xs : List A) → AreNewTo before xs → AllByRecursion (λ y. meets x y ≡ false) xs → AreNewTo (before ++ x ∷ []) xs
  all_more before x [] new apart = tt
  all_more before x (y ∷ ys) new apart = (none_more (λ f. meets f y) before x new.0 apart.0, all_more before x ys new.1 apart.1)

  new_again : (before xs : List A) → AreNewTo before xs → AreDistinct xs → are_new meets before xs ≡ true
  new_again before [] new distinct = refl
  new_again before (x ∷ xs) new distinct =
      let rest = new_again (before ++ x ∷ []) xs (all_more before x xs new.1 distinct.0) distinct.1 in
      λ i. not (new.0 i) && rest i

  none_new : (xs : List A) → AreNewTo [] xs
  none_new [] = tt
  none_new (x ∷ xs) = (refl, none_new xs)

  pub distinct_takes : (xs : List A) → are_new meets [] xs ≡ true → AreDistinct xs
  distinct_takes xs e = (new_takes [] xs e).1

  pub distinct_again : (xs : List A) → AreDistinct xs → are_new meets [] xs ≡ true
  distinct_again xs distinct = new_again [] xs (none_new xs) distinct

  as_pairs : (xs : List A) → IsDistinct meets xs → AreDistinct xs
  unfolding IsDistinct
  as_pairs [] h = tt
  as_pairs (x ∷ xs) h = (h.0, as_pairs xs h.1)

pub edges_apart : (es : List Edge) → IsDistinct is_edge es → are_new is_edge [] es ≡ true
edges_apart es h = distinct_again is_edge es (as_pairs is_edge es h)

pub resources_apart : (rs : List Resource) → IsDistinct has_name_of rs → are_new has_name_of [] rs ≡ true
resources_apart rs h = distinct_again has_name_of rs (as_pairs has_name_of rs h)

pub edges_take : (es : List Edge) → AreDistinct is_edge es → AreDistinctEdges es
edges_take [] h = tt
edges_take (e ∷ es) h = (h.0, edges_take es h.1)

pub edges_again : (es : List Edge) → AreDistinctEdges es → AreDistinct is_edge es
edges_again [] h = tt
edges_again (e ∷ es) h = (h.0, edges_again es h.1)

pub resources_take : (rs : List Resource) → AreDistinct has_name_of rs → AreDistinctResources rs
resources_take [] h = tt
resources_take (r ∷ rs) h = (h.0, resources_take rs h.1)

pub resources_again : (rs : List Resource) → AreDistinctResources rs → AreDistinct has_name_of rs
resources_again [] h = tt
resources_again (r ∷ rs) h = (h.0, resources_again rs h.1)

-- ---- lists that the wire format takes

pub taken_checked : {A : Type 0} (c : Checked A) → is_taken c ≡ true → Ok tt ≡ checked c
taken_checked (Ok a) e = refl
taken_checked (Err refusal) e = absurd cc

pub checked_taken : {A : Type 0} (c : Checked A) {u : Unit {0}} → Ok u ≡ checked c → is_taken c ≡ true
checked_taken (Ok a) e = refl
checked_taken (Err refusal) e = absurd cc

pub checked_not : {A : Type 0} (c : Checked A) {refusal : _} → Err refusal ≡ checked c → is_taken c ≡ false
checked_not (Ok a) e = absurd cc
checked_not (Err refusal) e = refl

pub taken_is : (check : ℕ → Json → Checked Json) → Keeps check → (js : List Json) → is_taken (each_from 0 check js) ≡ true → each_from 0 check js ≡ Ok js
taken_is check keeps js e = kept_ok check keeps js (taken_checked (each_from 0 check js) e)

pub is_taken_so : (check : ℕ → Json → Checked Json) (js : List Json) → each_from 0 check js ≡ Ok js → is_taken (each_from 0 check js) ≡ true
is_taken_so check js e = ap is_taken e
