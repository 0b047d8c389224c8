-- What is asked, from what is kept of it.
use Rattle.std.proofs.Common.{◌≡◌, ◌∙◌, ℕ, List, [], ◌∷◌, ◌++◌, refl, sym, ap, subst, Bool as Truth, true, false, Option, Some, None, Err, if◌then◌else◌}
use Rattle.std.specs.Prelude.{codes, map}
use Rattle.std.specs.Option.{option_or, option_map}
use Rattle.std.specs.Str.{bytes_eq}
use Rattle.routes_spec.proofs.of_plain_laws.Lists.{bytes_eq-itself, one_text}
use Rattle.routes_spec.proofs.of_plain_laws.Booleans.{both_ways}
use Rattle.http_spec.specs.text_spec.Json.{Json, Members, null, boolean, number, string, array, object, members_list, find_member, without_member}
use Rattle.json_read.proofs.of_text_spec.JsonLemmas.{members_list-of}
use Rattle.json_read.specs.declared.fault.ReadFault.{ReadFault}
use Rattle.json_read.specs.declared.fault.ReadFault.TheVariants as read
use Rattle.json_read.specs.Found.{IsReadOf}
use Rattle.json_read.specs.json_tree.Tree.{json_of}
use Rattle.json_read.specs.json_tree.declared.tree.Json as tree
use Rattle.json_read.specs.json_tree.declared.tree.Json.TheVariants.{Map}
use Rattle.http_spec.specs.text_spec.JsonText.{Spells}
use Rattle.json_read.proofs.of_json_machine.Law.{one_value}
use Rattle.paging_params.specs.Params.{ParamValue, url, body, last_under}
use Rattle.routes_spec.specs.Queries.{Question as Meant, query_text, asked_by, asked_by_url, asked_by_members, IsQuestionOfBody, IsQuestion}
use Rattle.routes_spec.specs.Parameters.{Parameters}
use Rattle.http_routes.specs.declared.question.Question.{Question}
use Rattle.http_routes.specs.Questions.{SamePaging, Asks, IsAskedSo, IsAskedByValue, IsNoneBy, IfAsked, url_pair, with_member}

-- ---- of a URL

or_map : {A B : Type 0} (f : A → B) (x y : Option A) → option_map f (option_or x y) ≡ option_or (option_map f x) (option_map f y)
or_map f None y = refl
or_map f (Some x) y = refl

chosen_map : (t : Truth) (v : List ℕ) → option_map url (if t then Some v else None) ≡ (if t then Some (url v) else None)
chosen_map true v = refl
chosen_map false v = refl

pub last-url : (name : List ℕ) (list : List (List ℕ × List ℕ)) → last_under name (map url_pair list) ≡ option_map url (last_under name list)
last-url name [] = refl
last-url name (p ∷ ps) =
    ap (λ o. option_or o (if bytes_eq p.0 name then Some (url p.1) else None)) (last-url name ps)
    ∙ ap (λ o. option_or (option_map url (last_under name ps)) o) (sym (chosen_map (bytes_eq p.0 name) p.1))
    ∙ sym (or_map url (last_under name ps) (if bytes_eq p.0 name then Some p.1 else None))

pub url_asks : (list : List (List ℕ × List ℕ)) (question : Question) → question.query ≡ last_under (codes "query") list → question.params ≡ map url_pair list → Asks question (asked_by_url list)
url_asks list question q p = record {
  query = q;
  paging = record {
    limit = at (codes "limit");
    offset = at (codes "offset");
    order_by = at (codes "order_by");
    include_total = at (codes "include_total");
  };
}
  where
    at : (name : List ℕ) → last_under name question.params ≡ option_map url (last_under name list)
    at name = ap (last_under name) p ∙ last-url name list

-- ---- of a body

last-append : (name : List ℕ) (xs : List (List ℕ × ParamValue)) (y : List ℕ × ParamValue)
    → last_under name (xs ++ y ∷ []) ≡ option_or (if bytes_eq y.0 name then Some y.1 else None) (last_under name xs)
last-append name [] y = or_none (if bytes_eq y.0 name then Some y.1 else None)
  where
    or_none : (o : Option ParamValue) → option_or None o ≡ option_or o None
    or_none None = refl
    or_none (Some x) = refl
last-append name (x ∷ xs) y =
    ap (λ o. option_or o (if bytes_eq x.0 name then Some x.1 else None)) (last-append name xs y)
    ∙ within (if bytes_eq y.0 name then Some y.1 else None) (last_under name xs) (if bytes_eq x.0 name then Some x.1 else None)
  where
    within : (a b c : Option ParamValue) → option_or (option_or a b) c ≡ option_or a (option_or b c)
    within None b c = refl
    within (Some x) b c = refl

-- a member of another name doesn't count
with_other : (name other : List ℕ) (o : Option Json) (params : List (List ℕ × ParamValue)) → bytes_eq other name ≡ false → last_under name (with_member other o params) ≡ last_under name params
with_other name other None params apart = refl
with_other name other (Some j) params apart =
    last-append name params (other, body j) ∙ ap (λ (t : Truth). option_or (if t then Some (body j) else None) (last_under name params)) apart

with_same : (name : List ℕ) (o : Option Json) (params : List (List ℕ × ParamValue)) → last_under name params ≡ None → last_under name (with_member name o params) ≡ option_map body o
with_same name None params none = none
with_same name (Some j) params none =
    last-append name params (name, body j) ∙ ap (λ (t : Truth). option_or (if t then Some (body j) else None) (last_under name params)) (bytes_eq-itself name)

-- what has left isn't found, and the others are
find_step : (k gone : List ℕ) (b c : Truth) (m : List ℕ × Json) (ms less : List (List ℕ × Json)) → bytes_eq k gone ≡ false → bytes_eq k m.0 ≡ b → bytes_eq gone m.0 ≡ c
    → find_member k less ≡ find_member k ms → find_member k (if c then ms else m ∷ less) ≡ (if b then Some m.1 else find_member k ms)
find_step k gone true true m ms less apart e f next = absurd (both_ways (bytes_eq k gone) (subst (λ x. bytes_eq k x ≡ true) (one_text k m.0 e ∙ sym (one_text gone m.0 f)) (bytes_eq-itself k)) apart)
find_step k gone false true m ms less apart e f next = refl
find_step k gone true false m ms less apart e f next = ap (λ (t : Truth). if t then Some m.1 else find_member k less) e
find_step k gone false false m ms less apart e f next = ap (λ (t : Truth). if t then Some m.1 else find_member k less) e ∙ next

find_other : (k gone : List ℕ) (ms : List (List ℕ × Json)) → bytes_eq k gone ≡ false → find_member k (without_member gone ms) ≡ find_member k ms
find_other k gone [] apart = refl
find_other k gone (m ∷ ms) apart = find_step k gone (bytes_eq k m.0) (bytes_eq gone m.0) m ms (without_member gone ms) apart refl refl (find_other k gone ms apart)

-- the four parameters, moved one after the other out of the members
pub four_moved : (m0 m1 m2 m3 : List (List ℕ × Json)) (p1 p2 p3 p4 : List (List ℕ × ParamValue))
    → m1 ≡ without_member (codes "limit") m0 → m2 ≡ without_member (codes "offset") m1 → m3 ≡ without_member (codes "order_by") m2
    → p1 ≡ with_member (codes "limit") (find_member (codes "limit") m0) [] → p2 ≡ with_member (codes "offset") (find_member (codes "offset") m1) p1
    → p3 ≡ with_member (codes "order_by") (find_member (codes "order_by") m2) p2 → p4 ≡ with_member (codes "include_total") (find_member (codes "include_total") m3) p3
    → SamePaging (λ name. last_under name p4) (λ name. option_map body (find_member name m0))
four_moved m0 m1 m2 m3 p1 p2 p3 p4 e1 e2 e3 q1 q2 q3 q4 = record {
  limit =
      above4 (codes "limit") refl ∙ above3 (codes "limit") refl ∙ above2 (codes "limit") refl
      ∙ ap (last_under (codes "limit")) q1 ∙ with_same (codes "limit") (find_member (codes "limit") m0) [] refl;
  offset =
      above4 (codes "offset") refl ∙ above3 (codes "offset") refl ∙ ap (last_under (codes "offset")) q2
      ∙ with_same (codes "offset") (find_member (codes "offset") m1) p1 (none1 (codes "offset") refl)
      ∙ ap (option_map body) (found1 (codes "offset") refl);
  order_by =
      above4 (codes "order_by") refl ∙ ap (last_under (codes "order_by")) q3
      ∙ with_same (codes "order_by") (find_member (codes "order_by") m2) p2 (above2 (codes "order_by") refl ∙ none1 (codes "order_by") refl)
      ∙ ap (option_map body) (found2 (codes "order_by") refl ∙ found1 (codes "order_by") refl);
  include_total =
      ap (last_under (codes "include_total")) q4
      ∙ with_same (codes "include_total") (find_member (codes "include_total") m3) p3
      (above3 (codes "include_total") refl ∙ above2 (codes "include_total") refl ∙ none1 (codes "include_total") refl)
      ∙ ap (option_map body) (found3 (codes "include_total") refl ∙ found2 (codes "include_total") refl ∙ found1 (codes "include_total") refl);
}
  where
    above4 : (name : List ℕ) → bytes_eq (codes "include_total") name ≡ false → last_under name p4 ≡ last_under name p3
    above4 name apart = ap (last_under name) q4 ∙ with_other name (codes "include_total") (find_member (codes "include_total") m3) p3 apart

    above3 : (name : List ℕ) → bytes_eq (codes "order_by") name ≡ false → last_under name p3 ≡ last_under name p2
    above3 name apart = ap (last_under name) q3 ∙ with_other name (codes "order_by") (find_member (codes "order_by") m2) p2 apart

    above2 : (name : List ℕ) → bytes_eq (codes "offset") name ≡ false → last_under name p2 ≡ last_under name p1
    above2 name apart = ap (last_under name) q2 ∙ with_other name (codes "offset") (find_member (codes "offset") m1) p1 apart

    none1 : (name : List ℕ) → bytes_eq (codes "limit") name ≡ false → last_under name p1 ≡ None
    none1 name apart = ap (last_under name) q1 ∙ with_other name (codes "limit") (find_member (codes "limit") m0) [] apart

    found1 : (name : List ℕ) → bytes_eq name (codes "limit") ≡ false → find_member name m1 ≡ find_member name m0
    found1 name apart = ap (find_member name) e1 ∙ find_other name (codes "limit") m0 apart

    found2 : (name : List ℕ) → bytes_eq name (codes "offset") ≡ false → find_member name m2 ≡ find_member name m1
    found2 name apart = ap (find_member name) e2 ∙ find_other name (codes "offset") m1 apart

    found3 : (name : List ℕ) → bytes_eq name (codes "order_by") ≡ false → find_member name m3 ≡ find_member name m2
    found3 name apart = ap (find_member name) e3 ∙ find_other name (codes "order_by") m2 apart

-- ---- the members of an object, of which that of the query was taken

pub members_ask : (ms less : List (List ℕ × Json)) (query : Option (List ℕ)) (question : Question) → less ≡ without_member (codes "query") ms → query_text (find_member (codes "query") ms) ≡ Some query
    → question.query ≡ query → SamePaging (λ name. last_under name question.params) (λ name. option_map body (find_member name less)) → IsAskedSo (Some question) (asked_by_members ms)
members_ask ms less query question gone is same paging =
    subst (λ o. IsAskedSo (Some question) (option_map (asked_by ms) o)) (sym is)
    (record {
      query = same;
      paging = record {
        limit = paging.limit ∙ still (codes "limit") refl;
        offset = paging.offset ∙ still (codes "offset") refl;
        order_by = paging.order_by ∙ still (codes "order_by") refl;
        include_total = paging.include_total ∙ still (codes "include_total") refl;
      };
    })
  where
    still : (name : List ℕ) → bytes_eq name (codes "query") ≡ false → option_map body (find_member name less) ≡ option_map body (find_member name ms)
    still name apart = ap (option_map body) (ap (find_member name) gone ∙ find_other name (codes "query") ms apart)

pub members_ask_nothing : (ms : List (List ℕ × Json)) → query_text (find_member (codes "query") ms) ≡ None → IsAskedSo None (asked_by_members ms)
members_ask_nothing ms is = subst (λ o. IsAskedSo None (option_map (asked_by ms) o)) (sym is) tt

-- ---- a value

pub map_asks : (json : tree.Json) (ms : List (List ℕ × Json)) (question : Option Question) → json ≡ Map ms → IsAskedSo question (asked_by_members ms) → IsAskedByValue question (json_of json)
map_asks json ms question is so =
    subst (λ j. IsAskedByValue question (json_of j)) (sym is) (subst (λ xs. IsAskedSo question (asked_by_members xs)) (sym (members_list-of ms)) so)

-- ---- a body that spells an object

-- its members ask
pub object_asks : (text : List ℕ) (ms : Members) (question : Option Question) → Spells text (object ms) → IsAskedSo question (asked_by_members (members_list ms))
    → IfAsked question (IsQuestionOfBody text)
object_asks text ms question spells so = by_meant (asked_by_members (members_list ms)) refl so
  where
    by_meant : (meant : Option Meant) → asked_by_members (members_list ms) ≡ meant → IsAskedSo question meant → IfAsked question (IsQuestionOfBody text)
    by_meant (Some m) is so = (Some m, so, (ms, spells, is))
    by_meant None is so = (None, so, λ ns other. ap (λ (v : Members). asked_by_members (members_list v)) (same ns (one_value 127 text (object ns) (object ms) other spells)) ∙ is)
      where
        same : (ns : Members) → object ns ≡ object ms → ns ≡ ms
        same ns h = cc

-- no object asks
pub nothing_asks : (text : List ℕ) → ((ms : Members) → ¬ Spells text (object ms)) → IfAsked None (IsQuestionOfBody text)
nothing_asks text none = (None, tt, λ ms spells. absurd (none ms spells))

-- a value that is no object
pub other_value : (text : List ℕ) (v : Json) → Spells text v → ((ms : Members) → ¬ (v ≡ object ms)) → (ms : Members) → ¬ Spells text (object ms)
other_value text v spells apart ms other = apart ms (one_value 127 text v (object ms) spells other)

-- of the same method, parameters and body
pub asked_same : (question : Option Question) (m n : List ℕ) (p q : Parameters) (b d : List ℕ) → m ≡ n → p ≡ q → b ≡ d → IfAsked question (IsQuestion m p b) → IfAsked question (IsQuestion n q d)
asked_same question m n p q b d methods lists bodies h =
    subst (λ x. IfAsked question (IsQuestion x q d)) methods
    (subst (λ x. IfAsked question (IsQuestion m x d)) lists (subst (λ x. IfAsked question (IsQuestion m p x)) bodies h))

none_asks : (text : List ℕ) (v : Json) (question : Option Question) → Spells text v → ((ms : Members) → ¬ (v ≡ object ms)) → question ≡ None → IfAsked question (IsQuestionOfBody text)
none_asks text v question spells apart is = subst (λ q. IfAsked q (IsQuestionOfBody text)) (sym is) (nothing_asks text (other_value text v spells apart))

-- the value that the body spells asks
pub value_asks : (text : List ℕ) (v : Json) (question : Option Question) → Spells text v → IsAskedByValue question v → IfAsked question (IsQuestionOfBody text)
value_asks text (object ms) question spells so = object_asks text ms question spells so
value_asks text null question spells so = none_asks text null question spells (λ ms h. cc) so
value_asks text (boolean b) question spells so = none_asks text (boolean b) question spells (λ ms h. cc) so
value_asks text (number s) question spells so = none_asks text (number s) question spells (λ ms h. cc) so
value_asks text (string s) question spells so = none_asks text (string s) question spells (λ ms h. cc) so
value_asks text (array vs) question spells so = none_asks text (array vs) question spells (λ ms h. cc) so

-- no value was read
pub fault_asks : (text : List ℕ) (fault : ReadFault) (question : Option Question) → ((v : Json) → Spells text v → IsReadOf v (Err fault)) → IsNoneBy fault question
    → IfAsked question (IsQuestionOfBody text)
fault_asks text read.Memory question only so = absurd so
fault_asks text (read.NotJson at) question only so = subst (λ q. IfAsked q (IsQuestionOfBody text)) (sym so) (nothing_asks text (λ ms spells. only (object ms) spells))
fault_asks text (read.TooDeep at) question only so = subst (λ q. IfAsked q (IsQuestionOfBody text)) (sym so) (nothing_asks text (λ ms spells. only (object ms) spells))
