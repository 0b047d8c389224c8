use Rattle.std.proofs.Common.{◌≡◌, ◌∙◌, ◌<◌, ◌+◌, ◌++◌, ◌∷◌, [], take, set, get_or, get_or-set_same, length, true, false, sym, ap, subst, None, arith}
use Rattle.std.proofs.lemmas.List.{map-append, take_more, length-set}
use Rattle.text_spec.specs.Json.{settled}
use Rattle.json_tree.specs.Marks.{mark_of}
use Rattle.json_tree.specs.Tree.{pair, pairs}
use Rattle.json_tree.specs.Places.{index_of}
use Rattle.json_tree.proofs.PlaceLaws.{settled-push}
use Rattle.json_tree.proofs.MarkLaws.{AreMarked, unmarked_absent, marked-set, marked-push}
use Rattle.json_tree.proofs.settled.are_apart.Goals as goal

pub is_new-requires : goal.is_new-requires
is_new-requires c = λ none.
    let marks = c.loop-at.marks in
    let old = pairs (take c.loop-at.at c.args.list.now) in
    unmarked_absent mark_of marks c.as_str-key.result.now old c.loop-at.invariant.marked (ap (λ i. get_or marks i false) (sym (c.mark_of-mark.ensures.value ∙ ap mark_of c.as_bytes.ensures.value)) ∙ none)

pub loop-at-preserved : goal.loop-at-preserved
loop-at-preserved c =
    let list = c.args.list.now in
    let i = c.loop-at.at in
    let x = c.index-list-at.result in
    let old = pairs (take i list) in
    let marks = c.loop-at.marks in
    let place = c.mark_of-mark.result in
    let one : take (i + 1) list ≡ take i list ++ x ∷ [] = take_more list i x c.loop-at-test.true ∙ ap (λ y. take i list ++ y ∷ []) (sym c.index-list-at.is) in
    let more : pairs (take (i + 1) list) ≡ old ++ pair x ∷ [] = ap pairs one ∙ map-append pair (take i list) (x ∷ []) in
    let name : c.as_str-key.result.now ≡ x.0 = c.as_str-key.ensures ∙ ap (λ y. y.0) (sym c.index-list-at.is) in
    let absent : index_of x.0 old ≡ None = ap (λ q. index_of q old) (sym name) ∙ c.is_new.ensures c.if-not-is_new.false in
    let mark : place ≡ mark_of x.0 = c.mark_of-mark.ensures.value ∙ ap mark_of (c.as_bytes.ensures.value ∙ name) in
    let room : place < length marks = omega (arith, c.mark_of-mark.ensures.bound, c.loop-at.invariant.count) in
    record {
      count = length-set marks place true ∙ c.loop-at.invariant.count;
      marked = subst (AreMarked mark_of (set marks place true)) (sym more)
          (marked-push mark_of (set marks place true) (pair x) old (marked-set mark_of marks place old room c.loop-at.invariant.marked) (ap (λ j. get_or (set marks place true) j false) (sym mark) ∙ get_or-set_same marks place true false room));
      same = ap (settled []) more ∙ settled-push old (pair x) absent c.loop-at.invariant.same ∙ sym more;
    }
