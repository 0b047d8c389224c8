use Rattle.std.proofs.Common.{◌≡◌, ◌∙◌, ◌+◌, ◌++◌, List, ◌∷◌, [], Bool, take, drop, sym, ap, subst, append_assoc}
use Rattle.std.specs.Prelude.{not, ◌&&◌}
use Rattle.std.specs.List.{list_any}
use Rattle.std.specs.Str.{bytes_eq}
use Rattle.std.proofs.lemmas.List.{take_more, drop_more}
use Rattle.wire_fields.specs.fleet_rows.declared.catalog.Edge.{Edge}
use Rattle.wire_fields.specs.wire_spec.Table.{is_edge, relationship_name}
use Rattle.wire_catalog.specs.Distinct.{news}
use Rattle.wire_catalog.proofs.KeyLaws.{HasKeys, key_cmp, is_key_of, key_is, one_more}
use Rattle.wire_catalog.proofs.distinct.new_to_set.Goals as goal

pub loop-edge-preserved : goal.loop-edge-preserved
loop-edge-preserved c =
    let list = c.args.edges.now in
    let i = c.loop-edge.edge-index in
    let x = c.edge-item.result in
    let before = take i list in
    let key = c.edge_key.result in
    let keys = c.insert.new.self.keys in
    let done = c.loop-edge.new.items in
    let is = c.edge_key.ensures in
    let one : take (i + 1) list ≡ before ++ x ∷ [] = take_more list i x c.loop-edge-test.true ∙ ap (λ y. before ++ y ∷ []) (sym c.edge-item.is) in
    let rest : drop i list ≡ x ∷ drop (i + 1) list = drop_more list i x c.loop-edge-test.true ∙ ap (λ y. y ∷ drop (i + 1) list) (sym c.edge-item.is) in
    let mark : c.in_ok-insert.field-0 ≡ not (list_any (λ f. is_edge f x) before) =
    c.in_ok-insert.ensures.added
    ∙ ap not (c.loop-edge.invariant.seen key
    ∙ (λ k. list_any (λ (f : Edge). bytes_eq f.source.rtype (is.0 k) && bytes_eq f.source.title (is.1 k) && bytes_eq f.target.rtype (is.2 k) && bytes_eq f.target.title (is.3 k) && bytes_eq (relationship_name f.relationship) (is.4 k)) before)) in
    record {
      seen = subst (HasKeys key_cmp is_key_of keys) (sym one) (one_more key_cmp is_key_of c.loop-edge.seen.keys keys key before x c.in_ok-insert.ensures.updates.0 (λ q. key_is key q x is) c.loop-edge.invariant.seen);
      rest = ap (λ (d : List Bool). d ++ news (take (i + 1) list) (drop (i + 1) list)) c.in_ok-push.ensures.items
          ∙ append_assoc done (c.in_ok-insert.field-0 ∷ []) (news (take (i + 1) list) (drop (i + 1) list))
          ∙ (λ k. done ++ (mark k ∷ news (one k) (drop (i + 1) list)))
          ∙ sym (ap (λ xs. done ++ news before xs) rest)
          ∙ c.loop-edge.invariant.rest;
    }
