-- Parameters ask for one paging.
use Rattle.std.proofs.Common.{◌≡◌, ◌∙◌, ℕ, List, refl, sym, ap, Option, Some, None, Result, inl, inr}
use Rattle.std.specs.Prelude.{codes}
use Rattle.std.specs.Option.{option_and_then}
use Rattle.json_read.specs.text_spec.Json.{Json}
use Rattle.json_read.proofs.of_json_machine.Law.{one_value}
use Rattle.ast_tree.specs.query_spec.declared.parts.Order.{Order}
use Rattle.ast_tree.specs.query_spec.declared.parts.Paging.{Paging}
use Rattle.paging_params.specs.Params.{ParamValue, count_in, truth_in}
use Rattle.paging_params.specs.Paging.{orders_of, IsJsonOf, AreOrders, read_as, checked_paging, IsPagingOf}

one_json : (value : ParamValue) (f g : Option Json) → IsJsonOf value f → IsJsonOf value g → f ≡ g
one_json (inl text) (Some v) (Some w) h k = ap Some (one_value 127 text v w h k)
one_json (inl text) (Some v) None h k = absurd (k v h)
one_json (inl text) None (Some w) h k = absurd (h w k)
one_json (inl text) None None h k = refl
one_json (inr v) f g h k = h ∙ sym k

same_orders : (names : List (List ℕ)) (value : Option ParamValue) (o p : Option (List Order)) → AreOrders names value o → AreOrders names value p → o ≡ p
same_orders names None o p h k = h ∙ sym k
same_orders names (Some value) o p (f, fh, fo) (g, gh, gp) = fo ∙ ap (option_and_then (orders_of names)) (one_json value f g fh gh) ∙ sym gp

pub one_paging : (names : List (List ℕ)) (under : List ℕ → Option ParamValue) (a b : Result Paging (List ℕ)) → IsPagingOf names under a → IsPagingOf names under b → a ≡ b
one_paging names under a b (o, oh, oa) (p, ph, pb) =
    oa
    ∙ ap (λ orders. checked_paging (read_as count_in (under (codes "limit"))) (read_as count_in (under (codes "offset"))) orders (read_as truth_in (under (codes "include_total")))) (same_orders names (under (codes "order_by")) o p oh ph)
    ∙ sym pb
