use Rattle.std.proofs.Common.{◌≡◌, ◌∙◌, ◌<◌, ◌+◌, ◌∷◌, [], length, refl, sym, ap, arith, drop}
use Rattle.std.specs.Prelude.{slice_index}
use Rattle.json_tree.specs.Tree.{json_of}
use Rattle.json_machine.specs.Machine.{in_array, value, owed, verdict}
use Rattle.json_read.proofs.Runs.{value_here, closes_here, array_other, flat_item}
use Rattle.json_read.proofs.Stacks.{array_comma}
use Rattle.json_read.proofs.run.run_items.Goals as goal

pub returns-then-next-bytes-clause-levels : goal.returns-then-next-bytes-clause-levels
returns-then-next-bytes-clause-levels c = flat_item c.items.items c.push.new.self (json_of c.in_ok-json.json) _ c.in_ok-push.ensures.ok c.in_ok-json.ensures.flat c.items.invariant.levels

pub items-preserved : goal.items-preserved
items-preserved c =
    let bytes = c.args.bytes.now in
    let js = c.items.items in
    let json = json_of c.in_ok-json.json in
    let place = c.skip-place.result in
    let next = c.skip-next.result in
    let begun : place < length bytes = omega (arith, c.skip-place.ensures.bounds, c.if-place-bytes.false) in
    let more : next < length bytes = omega (arith, c.skip-next.ensures.bounds, c.if-next-bytes.false) in
    record {
      past = omega (arith, c.items.invariant.past, c.skip-place.ensures.bounds, c.in_ok-json.ensures.bound, c.skip-next.ensures.bounds);
      within = omega (arith, more);
      levels = flat_item js c.push.new.self json _ c.in_ok-push.ensures.ok c.in_ok-json.ensures.flat c.items.invariant.levels;
      same = λ fs.
          c.items.invariant.same fs
          ∙ c.skip-place.ensures.same (in_array js ∷ fs) value (λ n gs b h. rw h refl)
          ∙ value_here bytes (in_array js ∷ fs) place begun (c.skip-place.ensures.black begun)
          ∙ c.in_ok-json.ensures.value (in_array js ∷ fs)
          ∙ c.skip-next.ensures.same (in_array js ∷ fs) (owed [] json) (λ n gs b h. rw h refl)
          ∙ closes_here bytes (in_array js ∷ fs) next more json (c.skip-next.ensures.black more)
          ∙ array_comma fs json (slice_index bytes next) next (drop (next + 1) bytes) js c.in-44.is
          ∙ ap (λ xs. verdict 127 (in_array xs ∷ fs) value (next + 1) (drop (next + 1) bytes)) (sym c.in_ok-push.ensures.ok);
    }

pub returns-in-93-clause-levels : goal.returns-in-93-clause-levels
returns-in-93-clause-levels c = flat_item c.items.items c.push.new.self (json_of c.in_ok-json.json) _ c.in_ok-push.ensures.ok c.in_ok-json.ensures.flat c.items.invariant.levels

pub returns-in_default-clause-value : goal.returns-in_default-clause-value
returns-in_default-clause-value c = λ fs.
    let bytes = c.args.bytes.now in
    let js = c.items.items in
    let json = json_of c.in_ok-json.json in
    let place = c.skip-place.result in
    let next = c.skip-next.result in
    let begun : place < length bytes = omega (arith, c.skip-place.ensures.bounds, c.if-place-bytes.false) in
    let more : next < length bytes = omega (arith, c.skip-next.ensures.bounds, c.if-next-bytes.false) in
    let comma : ¬ (slice_index bytes next ≡ 44) = λ e. omega (arith, e) in
    let bracket : ¬ (slice_index bytes next ≡ 93) = λ e. omega (arith, e) in
    c.items.invariant.same fs
    ∙ c.skip-place.ensures.same (in_array js ∷ fs) value (λ n gs b h. rw h refl)
    ∙ value_here bytes (in_array js ∷ fs) place begun (c.skip-place.ensures.black begun)
    ∙ c.in_ok-json.ensures.value (in_array js ∷ fs)
    ∙ c.skip-next.ensures.same (in_array js ∷ fs) (owed [] json) (λ n gs b h. rw h refl)
    ∙ closes_here bytes (in_array js ∷ fs) next more json (c.skip-next.ensures.black more)
    ∙ array_other fs json (slice_index bytes next) next (drop (next + 1) bytes) comma js bracket

pub returns-in_default-clause-levels : goal.returns-in_default-clause-levels
returns-in_default-clause-levels c = flat_item c.items.items c.push.new.self (json_of c.in_ok-json.json) _ c.in_ok-push.ensures.ok c.in_ok-json.ensures.flat c.items.invariant.levels
