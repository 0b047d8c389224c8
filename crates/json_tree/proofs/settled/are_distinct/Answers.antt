use Rattle.std.proofs.Common.{◌≡◌, ◌∙◌, ◌++◌, ◌∷◌, ◌+◌, [], take, length, sym, ap, Some, None, arith, if◌then◌else◌}
use Rattle.std.specs.Str.{bytes_eq}
use Rattle.std.specs.BTreeMap.{get_by}
use Rattle.std.specs.Cmp.Lexicographic.{slice_cmp}
use Rattle.std.specs.Ordering.{nat_cmp}
use Rattle.std.proofs.lemmas.List.{map-append, length-map, length-take-le, take_more}
use Rattle.std.proofs.lemmas.Map.Text.{btree_map_updates_str}
use Rattle.text_spec.specs.Json.{set_member}
use Rattle.text_spec.specs.Json.{settled}
use Rattle.json_tree.specs.Tree.{json_of, pair, pairs}
use Rattle.json_tree.specs.Places.{index_of}
use Rattle.json_tree.proofs.PlaceLaws.{index-push, set-absent, settled-more}
use Rattle.json_tree.proofs.settled.are_distinct.Goals as goal

pub loop-member-preserved : goal.loop-member-preserved
loop-member-preserved c =
    let list = c.args.list.now in
    let i = c.loop-member.member-index in
    let x = c.member-item.result in
    let old = pairs (take i list) in
    let key = c.as_str-key.result.now in
    let one : take (i + 1) list ≡ take i list ++ x ∷ [] = take_more list i x c.loop-member-test.true ∙ ap (λ y. take i list ++ y ∷ []) (sym c.member-item.is) in
    let more : pairs (take (i + 1) list) ≡ old ++ pair x ∷ [] = ap pairs one ∙ map-append pair (take i list) (x ∷ []) in
    let name : key ≡ x.0 = c.as_str-key.ensures in
    let none : get_by (λ k. slice_cmp nat_cmp key k.now) c.loop-member.places ≡ None = grind (arith, c.get.ensures.value, c.is_some.ensures, c.if-is_some.false) in
    let absent : index_of x.0 old ≡ None = ap (λ q. index_of q old) (sym name) ∙ sym (c.loop-member.invariant.index key) ∙ none in
    let size : length old ≡ c.loop-member.at = length-map (take i list) pair ∙ length-take-le i list (omega (arith, c.loop-member-test.true)) ∙ sym c.loop-member.invariant.at in
    record {
      at = omega (arith, c.loop-member.invariant.at);
      index = λ q. btree_map_updates_str key c.loop-member.places c.insert.new.self (Some c.loop-member.at) c.in_ok-insert.ensures.updates q
          ∙ (λ j. if bytes_eq (name j) q then Some (sym size j) else c.loop-member.invariant.index q j)
          ∙ sym (index-push x.0 (json_of x.1) q old absent) ∙ ap (index_of q) (sym more);
      same = ap (settled []) more ∙ settled-more old [] (pair x) ∙ ap (set_member x.0 (json_of x.1)) c.loop-member.invariant.same ∙ set-absent x.0 (json_of x.1) old absent ∙ sym more;
    }
