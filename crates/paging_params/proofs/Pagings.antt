-- Orders that are read, and the paging of what was read.
use Rattle.std.proofs.Common.{◌≡◌, ◌∙◌, ℕ, List, sym, Bool, Option, Some, Result, Ok, Err}
use Rattle.std.specs.Prelude.{IfOk, codes}
use Rattle.json_read.specs.text_spec.Json.{Json}
use Rattle.json_read.specs.text_spec.JsonText.{Spells}
use Rattle.ast_tree.specs.query_spec.declared.parts.Order.{Order}
use Rattle.ast_tree.specs.query_spec.declared.parts.Paging.{Paging}
use Rattle.paging_params.specs.declared.read.PagingFault.{PagingFault}
use Rattle.paging_params.specs.declared.read.PagingFault.TheVariants.{BadPaging, Memory}
use Rattle.paging_params.specs.Params.{ParamValue, url, count_in, truth_in}
use Rattle.paging_params.specs.Paging.{orders_of, AreOrders, read_as, checked_paging, IsPagingOf}
use Rattle.paging_params.specs.Told.{Tells, IsRead}

-- the orders of the value that a text spells
pub spelt : {E : Type 0} (names : List (List ℕ)) (text : List ℕ) (v : Json) (r : Result (Option (List Order)) E) → Spells text v
    → IfOk r (λ orders. orders ≡ orders_of names v) → IfOk r (AreOrders names (Some (url text)))
spelt names text v (Ok orders) spells is = (Some v, spells, is)
spelt names text v (Err e) spells is = tt

-- the paging of what was read of each
pub read_so : (names : List (List ℕ)) (under : List ℕ → Option ParamValue) (limit offset : Option (Option ℕ)) (orders : Option (List Order)) (total : Option (Option Bool))
    (r : Result Paging PagingFault) → AreOrders names (under (codes "order_by")) orders
    → limit ≡ read_as count_in (under (codes "limit")) → offset ≡ read_as count_in (under (codes "offset"))
    → total ≡ read_as truth_in (under (codes "include_total")) → Tells r (checked_paging limit offset orders total)
    → IsRead r (IsPagingOf names under)
read_so names under limit offset orders total r are l o t told = by_answer r told
  where
    same : checked_paging limit offset orders total
        ≡ checked_paging (read_as count_in (under (codes "limit"))) (read_as count_in (under (codes "offset"))) orders (read_as truth_in (under (codes "include_total")))
    same = λ i. checked_paging (l i) (o i) orders (t i)

    by_answer : (r : Result Paging PagingFault) → Tells r (checked_paging limit offset orders total) → IsRead r (IsPagingOf names under)
    by_answer (Ok paging) told = (orders, are, sym told ∙ same)
    by_answer (Err (BadPaging name)) told = (orders, are, sym told ∙ same)
    by_answer (Err Memory) told = tt
