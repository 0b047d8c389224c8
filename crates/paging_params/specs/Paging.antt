-- The paging that parameters ask for, after PuppetDB's query API v4, "Paging query results".
use Rattle.std.specs.Prelude.{◌≡◌, ℕ, Bool, true, false, ◌||◌, if◌then◌else◌, List, [], ◌∷◌, codes, Option, Some, None, unwrap_or, Result, Ok, Err}
use Rattle.std.specs.List.{list_all, list_any}
use Rattle.std.specs.Option.{option_map, option_and_then}
use Rattle.std.specs.Str.{bytes_eq}
use Rattle.std.proofs.Common.{inl, inr}
use Rattle.json_read.specs.text_spec.Json as json
use Rattle.json_read.specs.text_spec.Json.{Json, items_list, members_list, find_member}
use Rattle.json_read.specs.text_spec.JsonText.{Spells}
use Rattle.ast_tree.specs.query_spec.declared.parts.Order.{Order}
use Rattle.ast_tree.specs.query_spec.declared.parts.Paging.{Paging}
use Rattle.ast_tree.specs.query_spec.Parts.{name}
use Rattle.paging_params.specs.Params.{ParamValue, count_in, truth_in}

-- ---- the orders

-- ascending if the order is missing
abbrev pub descends_of : List ℕ → Option Bool
descends_of text = if bytes_eq text (codes "asc") then Some false else (if bytes_eq text (codes "desc") then Some true else None)

abbrev pub descends_in : Option Json → Option Bool
descends_in None = Some false
descends_in (Some (json.string text)) = descends_of text
descends_in (Some _) = None

-- the text is one of the names
abbrev pub is_among : List (List ℕ) → List ℕ → Bool
is_among names text = list_any (λ n. bytes_eq n text) names

abbrev pub column_in : List (List ℕ) → Option Json → Option (List ℕ)
column_in names (Some (json.string text)) = if is_among names text then Some text else None
column_in names _ = None

abbrev pub is_of_order : List ℕ → Bool
is_of_order key = bytes_eq key (codes "field") || bytes_eq key (codes "order")

-- no member has any other name
abbrev pub has_no_other : List (List ℕ × Json) → Bool
has_no_other ms = list_all (λ (m : List ℕ × Json). is_of_order m.0) ms

abbrev pub order_by : Option (List ℕ) → Option Bool → Option Order
order_by (Some text) (Some descends) = Some (record { column = name text []; descends = descends })
order_by _ _ = None

abbrev pub order_of_members : List (List ℕ) → List (List ℕ × Json) → Option Order
order_of_members names ms =
    if has_no_other ms
    then order_by (column_in names (find_member (codes "field") ms)) (descends_in (find_member (codes "order") ms))
    else None

-- {"field": C}, {"field": C, "order": "asc"} or {"field": C, "order": "desc"}, where C is one of these column names
abbrev pub order_of : List (List ℕ) → Json → Option Order
order_of names (json.object ms) = order_of_members names (members_list ms)
order_of names _ = None

abbrev pub in_front : Option Order → Option (List Order) → Option (List Order)
in_front (Some o) (Some os) = Some (o ∷ os)
in_front _ _ = None

-- the orders, if each element is one
abbrev pub orders_among : List (List ℕ) → List Json → Option (List Order)
orders_among names [] = Some []
orders_among names (v ∷ vs) = in_front (order_of names v) (orders_among names vs)

abbrev pub orders_of : List (List ℕ) → Json → Option (List Order)
orders_of names (json.array vs) = orders_among names (items_list vs)
orders_of names _ = None

-- the JSON value of `order_by`: the value in a body, or the value that the URL's text spells, if it spells one
abbrev pub IsJsonOf : ParamValue → Option Json → Type 0
IsJsonOf (inl text) (Some v) = Spells text v
IsJsonOf (inl text) None = (v : Json) → ¬ Spells text v
IsJsonOf (inr value) found = found ≡ Some value

-- the orders that the parameter asks for: an empty list if it is missing, none if its value is bad
abbrev pub AreOrders : List (List ℕ) → Option ParamValue → Option (List Order) → Type 0
AreOrders names None orders = orders ≡ Some []
AreOrders names (Some value) orders = (found : Option Json) × IsJsonOf value found × (orders ≡ option_and_then (orders_of names) found)

-- ---- the paging

-- the value of an optional parameter: `Some None` if it is missing, none if its value is bad
abbrev pub read_as : {A : Type 0} → (ParamValue → Option A) → Option ParamValue → Option (Option A)
read_as read None = Some None
read_as read (Some value) = option_map Some (read value)

-- continues with the value, or fails with the parameter's name if it is bad
abbrev pub unless_bad : {A B : Type 0} → List ℕ → Option A → (A → Result B (List ℕ)) → Result B (List ℕ)
unless_bad name None rest = Err name
unless_bad name (Some x) rest = rest x

-- the paging; the parameters are checked in this order, and the first bad one is reported
abbrev pub checked_paging : Option (Option ℕ) → Option (Option ℕ) → Option (List Order) → Option (Option Bool) → Result Paging (List ℕ)
checked_paging limit offset orders total =
    unless_bad (codes "limit") limit (λ limit.
    unless_bad (codes "offset") offset (λ offset.
    unless_bad (codes "order_by") orders (λ orders.
    unless_bad (codes "include_total") total (λ total.
    Ok (record { order = orders; offset = offset; limit = limit; include_total = unwrap_or total false })))))

-- the paging that these parameters ask for, for rows with these columns, or the name of the first bad parameter
abbrev pub IsPagingOf : List (List ℕ) → (List ℕ → Option ParamValue) → Result Paging (List ℕ) → Type 0
IsPagingOf names under answer =
    (orders : Option (List Order)) × AreOrders names (under (codes "order_by")) orders
    × (answer ≡ checked_paging (read_as count_in (under (codes "limit"))) (read_as count_in (under (codes "offset"))) orders
    (read_as truth_in (under (codes "include_total"))))
