use Rattle.std.proofs.Common.{List, [], ◌∷◌, sym, subst, arith}
use Rattle.std.specs.Prelude.{flat_map}
use Rattle.fleet_tables.specs.table_machine.Rows.{node_rows}
use Rattle.query_plan.specs.means_spec.Paging.{orders_cmp}
use Rattle.query_plan.specs.query_spec.declared.parts.Order.{Order}
use Rattle.query_plan.specs.table_spec.Columns.{columns}
use Rattle.query_reading.specs.Ordered.{Rises}
use Rattle.query_reading.proofs.OrderLaws.{no_item, nodes_rise, one_item, two_items, unordered_rises}
use Rattle.query_reading.proofs.stopping.rise.Goals as goal

pub returns-in-empty : goal.returns-in-empty
returns-in-empty c = λ e ttls expiry nodes s own.
    let entity = c.args.entity in
    let rows = flat_map (node_rows entity ttls expiry) nodes in
    subst (λ (os : List Order). Rises (orders_cmp (columns entity) os) rows) (sym (no_item c.args.orders.now c.in-empty.len_below)) (unordered_rises (columns entity) rows)

pub returns-in-len1 : goal.returns-in-len1
returns-in-len1 c = λ e ttls expiry nodes s own.
    let entity = c.args.entity in
    let first = c.first-item.result in
    let told = c.rises_by.ensures e in
    subst (λ (os : List Order). Rises (orders_cmp (columns entity) os) (flat_map (node_rows entity ttls expiry) nodes))
    (sym (one_item c.args.orders.now first _ (omega (arith, c.in-len1.len_at_least)) (omega (arith, c.in-len1.len_below)) c.first-item.is))
    (nodes_rise entity ttls expiry first [] told.0 told.1 (λ node. unordered_rises (columns entity) (node_rows entity ttls expiry node)) nodes s own)

pub returns-then-rises_by : goal.returns-then-rises_by
returns-then-rises_by c = λ e ttls expiry nodes s own.
    let entity = c.args.entity in
    let first = c.first-item-then-orders-lt3.result in
    let second = c.second-item.result in
    let told = c.rises_by-in-len2.ensures c.if-rises_by.true in
    subst (λ (os : List Order). Rises (orders_cmp (columns entity) os) (flat_map (node_rows entity ttls expiry) nodes))
    (sym (two_items c.args.orders.now first second _ _ (omega (arith, c.in-len2.len_at_least)) (omega (arith, c.in-len2.len_below)) c.first-item-then-orders-lt3.is c.second-item.is))
    (nodes_rise entity ttls expiry first (second ∷ []) told.0 told.1 (c.rise_within.ensures e ttls expiry) nodes s own)
