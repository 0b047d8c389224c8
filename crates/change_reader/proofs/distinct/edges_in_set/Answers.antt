use Rattle.std.proofs.Common.{◌≡◌, ◌∙◌, ◌+◌, ◌++◌, ◌∷◌, [], take, drop, sym, ap, subst, true, false, arith}
use Rattle.std.specs.Prelude.{not, ◌&&◌}
use Rattle.std.specs.List.{list_any}
use Rattle.std.specs.Str.{bytes_eq}
use Rattle.std.proofs.lemmas.List.{take_more, drop_more}
use Rattle.wire_catalog.specs.fleet_rows.declared.catalog.Edge.{Edge}
use Rattle.wire_catalog.specs.wire_spec.Table.{is_edge, relationship_name}
use Rattle.wire_catalog.proofs.KeyLaws.{HasKeys, key_cmp, is_key_of, key_is, one_more}
use Rattle.change_reader.specs.Together.{are_new}
use Rattle.change_reader.proofs.distinct.edges_in_set.Goals as goal

pub returns-then-not-branch : goal.returns-then-not-branch
returns-then-not-branch c =
    let list = c.args.edges.now in
    let i = c.loop-edge.edge-index in
    let x = c.edge-item.result in
    let before = take i list in
    let is = c.edge_key.ensures in
    let rest : drop i list ≡ x ∷ drop (i + 1) list = drop_more list i x c.loop-edge-test.true ∙ ap (λ y. y ∷ drop (i + 1) list) (sym c.edge-item.is) in
    let has = c.loop-edge.invariant.seen c.edge_key.result ∙ (λ k. list_any (λ (f : Edge). bytes_eq f.source.rtype (is.0 k) && bytes_eq f.source.title (is.1 k) && bytes_eq f.target.rtype (is.2 k) && bytes_eq f.target.title (is.3 k) && bytes_eq (relationship_name f.relationship) (is.4 k)) before) in
    let known : list_any (λ f. is_edge f x) before ≡ true = grind (arith, has, c.in_ok-insert.ensures.added, c.if-not-branch.true) in
    sym (λ k. not (known k) && are_new is_edge (before ++ x ∷ []) (drop (i + 1) list)) ∙ sym (ap (are_new is_edge before) rest) ∙ c.loop-edge.invariant.rest

pub loop-edge-preserved : goal.loop-edge-preserved
loop-edge-preserved c =
    let list = c.args.edges.now in
    let i = c.loop-edge.edge-index in
    let x = c.edge-item.result in
    let before = take i list in
    let key = c.edge_key.result in
    let keys = c.insert.new.self.keys in
    let is = c.edge_key.ensures in
    let one : take (i + 1) list ≡ before ++ x ∷ [] = take_more list i x c.loop-edge-test.true ∙ ap (λ y. before ++ y ∷ []) (sym c.edge-item.is) in
    let rest : drop i list ≡ x ∷ drop (i + 1) list = drop_more list i x c.loop-edge-test.true ∙ ap (λ y. y ∷ drop (i + 1) list) (sym c.edge-item.is) in
    let has = c.loop-edge.invariant.seen key ∙ (λ k. list_any (λ (f : Edge). bytes_eq f.source.rtype (is.0 k) && bytes_eq f.source.title (is.1 k) && bytes_eq f.target.rtype (is.2 k) && bytes_eq f.target.title (is.3 k) && bytes_eq (relationship_name f.relationship) (is.4 k)) before) in
    let new : list_any (λ f. is_edge f x) before ≡ false = grind (arith, has, c.in_ok-insert.ensures.added, c.if-not-branch.false) in
    record {
      seen = subst (HasKeys key_cmp is_key_of keys) (sym one) (one_more key_cmp is_key_of c.loop-edge.seen.keys keys key before x c.in_ok-insert.ensures.updates.0 (λ q. key_is key q x is) c.loop-edge.invariant.seen);
      rest = ap (λ b. are_new is_edge b (drop (i + 1) list)) one ∙ sym (λ k. not (new k) && are_new is_edge (before ++ x ∷ []) (drop (i + 1) list)) ∙ sym (ap (are_new is_edge before) rest) ∙ c.loop-edge.invariant.rest;
    }
