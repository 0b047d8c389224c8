use Rattle.std.proofs.Common.{◌≡◌, ◌∙◌, ◌∷◌, ◌++◌, [], sym, ap, subst, arith, drop, true, false, Ok}
use Rattle.json_machine.specs.text_spec.Json as spec
use Rattle.json_machine.specs.text_spec.Json.{members_of, settled}
use Rattle.json_machine.specs.Machine.{in_object, owed, verdict}
use Rattle.json_read.specs.Heads.{head_told}
use Rattle.json_read.specs.HeadSteps.{Separated}
use Rattle.json_read.proofs.HeadLaws.{watches-push, watched_head}
use Rattle.json_read.proofs.head.members_head.Goals as goal

pub members-preserved : goal.members-preserved
members-preserved c =
    let before = c.members.invariant.same in
    let key = c.in_ok-key.key in
    let found = c.in_ok-key.ensures.value before.0 in
    let more : c.in_ok-more.more ≡ true = grind (arith, c.if-not-more.false) in
    let on = subst (λ b. Separated c.args.bytes.now before.0 key found.0 (Ok (b, c.in_ok-more.next)) (verdict 127 (in_object before.0 key ∷ []) (owed [] found.0) c.in_ok-key.end (drop c.in_ok-key.end c.args.bytes.now))) more (c.in_ok-more.ensures.value before.0 key found.0) in
    record {
      within = c.in_ok-more.ensures.bound.1;
      same = (
        before.0 ++ (key, found.0) ∷ [],
        watches-push before.0 key found.0 c.in_ok-key.text c.members.watch.name c.keep-watch.result.name c.members.watch.moment c.keep-watch.result.moment before.1 found.1 c.keep-watch.ensures.name c.keep-watch.ensures.moment,
        before.2 ∙ found.2 ∙ on,
      );
    }

pub returns-then-not-more : goal.returns-then-not-more
returns-then-not-more c =
    let before = c.members.invariant.same in
    let key = c.in_ok-key.key in
    let found = c.in_ok-key.ensures.value before.0 in
    let last : c.in_ok-more.more ≡ false = grind (arith, c.if-not-more.true) in
    let ends = subst (λ b. Separated c.args.bytes.now before.0 key found.0 (Ok (b, c.in_ok-more.next)) (verdict 127 (in_object before.0 key ∷ []) (owed [] found.0) c.in_ok-key.end (drop c.in_ok-key.end c.args.bytes.now))) last (c.in_ok-more.ensures.value before.0 key found.0) in
    let all = before.0 ++ (key, found.0) ∷ [] in
    let watched = watches-push before.0 key found.0 c.in_ok-key.text c.members.watch.name c.keep-watch.result.name c.members.watch.moment c.keep-watch.result.moment before.1 found.1 c.keep-watch.ensures.name c.keep-watch.ensures.moment in
    c.both.ensures
    ∙ watched_head all c.keep-watch.result.name c.keep-watch.result.moment watched
    ∙ sym (ap head_told (before.2 ∙ found.2 ∙ ends ∙ c.in_ok-ended.ensures (spec.object (members_of (settled [] all)))))
