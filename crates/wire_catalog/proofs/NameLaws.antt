-- Resources one after the other, and the first whose name stood before.
use Rattle.std.proofs.Common.{◌≡◌, ◌∙◌, ℕ, suc, ◌+◌, ◌≤◌, List, [], ◌∷◌, ◌++◌, length, Ok, Err, Option, Some, None, Bool, true, false, if◌then◌else◌, refl, sym, ap, arith}
use Rattle.std.specs.List.{list_any}
use Rattle.wire_fields.specs.text_spec.Json.{Json}
use Rattle.wire_fields.specs.fleet_rows.declared.catalog.Resource.{Resource}
use Rattle.wire_fields.specs.fleet_rows.declared.refusal.Refusal.{Refusal}
use Rattle.wire_fields.specs.fleet_rows.declared.refusal.Refusal.TheVariants.{DuplicateResource}
use Rattle.wire_fields.specs.wire_spec.Table.{Checked, ◌>>=◌, resource, has_name_of, resources_from}
use Rattle.wire_catalog.specs.Names.{front_of, front_step, again_from}

-- ---- the table, by the front and the first name that stands again

abbrev pub verdict : Option ℕ → List Resource → Option Refusal → Checked (List Resource)
verdict (Some i) rs refused = Err (DuplicateResource i)
verdict None rs (Some refusal) = Err refusal
verdict None rs None = Ok rs

verdict-more : (again : Option ℕ) (r : Resource) (rs : List Resource) (refused : Option Refusal) → verdict again rs refused >>= (λ qs. Ok (r ∷ qs)) ≡ verdict again (r ∷ rs) refused
verdict-more (Some i) r rs refused = refl
verdict-more None r rs (Some refusal) = refl
verdict-more None r rs None = refl

-- what is left once a resource has its own fields
abbrev rest_of : List Resource → ℕ → List Json → Bool → Resource → Checked (List Resource)
rest_of before i js known r = (if known then Err (DuplicateResource i) else Ok r) >>= (λ q. resources_from (before ++ q ∷ []) (suc i) js >>= (λ rs. Ok (q ∷ rs)))

known_step : (before : List Resource) (i : ℕ) (js : List Json) (r : Resource) (known : Bool)
    → resources_from (before ++ r ∷ []) (suc i) js ≡ verdict (again_from (before ++ r ∷ []) (suc i) (front_of (suc i) js).0) (front_of (suc i) js).0 (front_of (suc i) js).1
    → rest_of before i js known r ≡ verdict (if known then Some i else again_from (before ++ r ∷ []) (suc i) (front_of (suc i) js).0) (r ∷ (front_of (suc i) js).0) (front_of (suc i) js).1
known_step before i js r true next = refl
known_step before i js r false next = ap (λ c. c >>= (λ rs. Ok (r ∷ rs))) next ∙ verdict-more (again_from (before ++ r ∷ []) (suc i) (front_of (suc i) js).0) r (front_of (suc i) js).0 (front_of (suc i) js).1

own_step : (before : List Resource) (i : ℕ) (js : List Json) (own : Checked Resource)
    → ((r : Resource) → resources_from (before ++ r ∷ []) (suc i) js ≡ verdict (again_from (before ++ r ∷ []) (suc i) (front_of (suc i) js).0) (front_of (suc i) js).0 (front_of (suc i) js).1)
    → (own >>= (λ r. if list_any (has_name_of r) before then Err (DuplicateResource i) else Ok r)) >>= (λ q. resources_from (before ++ q ∷ []) (suc i) js >>= (λ rs. Ok (q ∷ rs)))
    ≡ verdict (again_from before i (front_step own (front_of (suc i) js)).0) (front_step own (front_of (suc i) js)).0 (front_step own (front_of (suc i) js)).1
own_step before i js (Ok r) next = known_step before i js r (list_any (has_name_of r) before) (next r)
own_step before i js (Err refusal) next = refl

pub by_front : (before : List Resource) (i : ℕ) (js : List Json) → resources_from before i js ≡ verdict (again_from before i (front_of i js).0) (front_of i js).0 (front_of i js).1
by_front before i [] = refl
by_front before i (j ∷ js) = own_step before i js (resource i j) (λ r. by_front (before ++ r ∷ []) (suc i) js)

-- ---- the front, as a loop reads it

abbrev pub joined : List Resource → List Resource × Option Refusal → List Resource × Option Refusal
joined done rest = (done ++ rest.0, rest.1)

-- there are no more resources than elements
front_step-le : (own : Checked Resource) (rest : List Resource × Option Refusal) (n : ℕ) → length rest.0 ≤ n → length (front_step own rest).0 ≤ suc n
front_step-le (Ok r) rest n h = omega arith
front_step-le (Err refusal) rest n h = omega arith

pub front-le : (i : ℕ) (js : List Json) → length (front_of i js).0 ≤ length js
front-le i [] = omega arith
front-le i (j ∷ js) = front_step-le (resource i j) (front_of (suc i) js) (length js) (front-le (suc i) js)

-- ---- the first name that stands again, as a loop looks for it

module _ (before : List Resource) (i : ℕ) (r : Resource) (rs : List Resource) where
  pub again_here : list_any (has_name_of r) before ≡ true → again_from before i (r ∷ rs) ≡ Some i
  again_here known = ap (λ b. if b then Some i else again_from (before ++ r ∷ []) (suc i) rs) known

  pub again_later : list_any (has_name_of r) before ≡ false → again_from before i (r ∷ rs) ≡ again_from (before ++ r ∷ []) (i + 1) rs
  again_later new =
      let next : suc i ≡ i + 1 = omega arith in
      ap (λ b. if b then Some i else again_from (before ++ r ∷ []) (suc i) rs) new ∙ ap (λ n. again_from (before ++ r ∷ []) n rs) next

-- ---- the answer

pub front_is : (x y : List Resource × Option Refusal) → ◌≡◌ {A = Checked (List Resource × Option Refusal)} (Ok x) (Ok y) → x ≡ y
front_is x y h = cc

pub answered : (js : List Json) (front : List Resource) (refused : Option Refusal) (again : Option ℕ) → front_of 0 js ≡ (front, refused) → again ≡ again_from [] 0 front → resources_from [] 0 js ≡ verdict again front refused
answered js front refused again e found = by_front [] 0 js ∙ (λ k. verdict (again_from [] 0 (e k).0) (e k).0 (e k).1) ∙ ap (λ o. verdict o front refused) (sym found)
