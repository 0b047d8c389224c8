use Rattle.std.proofs.Common.{◌≡◌, ◌∙◌, ◌<◌, ◌≤◌, length, get_or, sym, Some, None, true, false, arith}
use Rattle.text_spec.specs.Order.{same}
use Rattle.json_tree.specs.Tree.{json_of, pairs}
use Rattle.json_tree.specs.Places.{index_of}
use Rattle.json_tree.proofs.SameLaws.{pairs_count, other_length, other_count, all_same, one_differs, maps_same, member_absent, member_differs, member_same, no_member_left}
use Rattle.json_tree.proofs.sameness.+same.Goals as goal

pub same_items-returns-then-a-b : goal.same_items-returns-then-a-b
same_items-returns-then-a-b t c = sym (other_length c.args.a.now c.args.b.now (λ e. omega (arith, c.if-a-b.true, e)))

pub same_members-returns-then-a-b : goal.same_members-returns-then-a-b
same_members-returns-then-a-b t c =
    let a = c.args.a.now in
    let b = c.args.b.now in
    sym (other_count (pairs a) (pairs b) c.requires.first c.requires.second (λ e. omega (arith, c.if-a-b.true, e, pairs_count a, pairs_count b)))
    ∙ maps_same (pairs a) (pairs b)

pub same_members-returns-then-not-same : goal.same_members-returns-then-not-same
same_members-returns-then-not-same t c =
    let a = c.args.a.now in
    let b = c.args.b.now in
    let at = c.loop-at.at in
    let x = c.index-a-at.result in
    let y = c.index-b-place.result in
    let within : at < length a = omega (arith, c.loop-at-test.true, c.loop-at.auto.at-end) in
    let found : index_of (get_or a at x).0 (pairs b) ≡ Some c.in-Some.place = grind (arith, c.in-Some.ensures.place, c.as_str.ensures, c.index-a-at.is) in
    let apart : same (json_of (get_or a at x).1) (json_of (get_or b c.in-Some.place y).1) ≡ false = grind (arith, c.same.ensures, c.if-not-same.true, c.if-not-same.ensures, c.index-a-at.is, c.index-b-place.is) in
    sym (one_differs (pairs a) (pairs b) (sym c.loop-at.invariant.left ∙ member_differs a b at x within c.in-Some.place y found apart))
    ∙ maps_same (pairs a) (pairs b)

pub same_members-returns-in-None : goal.same_members-returns-in-None
same_members-returns-in-None t c =
    let a = c.args.a.now in
    let b = c.args.b.now in
    let at = c.loop-at.at in
    let x = c.index-a-at.result in
    let within : at < length a = omega (arith, c.loop-at-test.true, c.loop-at.auto.at-end) in
    let absent : index_of (get_or a at x).0 (pairs b) ≡ None = grind (arith, c.in-None.ensures.place, c.as_str.ensures, c.index-a-at.is) in
    sym (one_differs (pairs a) (pairs b) (sym c.loop-at.invariant.left ∙ member_absent a b at x within absent))
    ∙ maps_same (pairs a) (pairs b)

pub same_members-loop-at-preserved : goal.same_members-loop-at-preserved
same_members-loop-at-preserved t c =
    let a = c.args.a.now in
    let b = c.args.b.now in
    let at = c.loop-at.at in
    let x = c.index-a-at.result in
    let y = c.index-b-place.result in
    let within : at < length a = omega (arith, c.loop-at-test.true, c.loop-at.auto.at-end) in
    let found : index_of (get_or a at x).0 (pairs b) ≡ Some c.in-Some.place = grind (arith, c.in-Some.ensures.place, c.as_str.ensures, c.index-a-at.is) in
    let alike : same (json_of (get_or a at x).1) (json_of (get_or b c.in-Some.place y).1) ≡ true = grind (arith, c.same.ensures, c.if-not-same.false, c.if-not-same.ensures, c.index-a-at.is, c.index-b-place.is) in
    record {
      sizes = c.loop-at.invariant.sizes;
      left = member_same a b at x within c.in-Some.place y found alike ∙ c.loop-at.invariant.left;
    }

pub same_members-returns : goal.same_members-returns
same_members-returns t c =
    let a = c.args.a.now in
    let b = c.args.b.now in
    let size : length (pairs a) ≡ length (pairs b) = omega (arith, c.loop-at.invariant.sizes, pairs_count a, pairs_count b) in
    let past : length a ≤ c.loop-at.at = omega (arith, c.loop-at-test.false, c.loop-at.auto.at-end) in
    sym (all_same (pairs a) (pairs b) c.requires.first size (sym c.loop-at.invariant.left ∙ no_member_left a (pairs b) c.loop-at.at past))
    ∙ maps_same (pairs a) (pairs b)
