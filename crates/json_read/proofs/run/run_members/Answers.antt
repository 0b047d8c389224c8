use Rattle.std.proofs.Common.{◌≡◌, ◌∙◌, ◌<◌, ◌+◌, ◌∷◌, [], length, refl, sym, ap, arith, drop}
use Rattle.std.specs.Prelude.{slice_index}
use Rattle.json_tree.specs.Tree.{json_of, pairs}
use Rattle.json_machine.specs.Machine.{in_object, next_key, owed, verdict}
use Rattle.json_read.proofs.Runs.{closes_here, flat_member, pairs_pushed}
use Rattle.json_read.proofs.Stacks.{object_comma}
use Rattle.json_read.proofs.run.run_members.Goals as goal

pub returns-then-next-bytes-clause-levels : goal.returns-then-next-bytes-clause-levels
returns-then-next-bytes-clause-levels c = flat_member c.members.members.items c.push.new.self.items c.in_ok-key.key c.in_ok-json.json _ c.in_ok-push.ensures.items c.in_ok-json.ensures.flat c.members.invariant.levels

pub members-preserved : goal.members-preserved
members-preserved c =
    let bytes = c.args.bytes.now in
    let list = c.members.members.items in
    let ms = pairs list in
    let key = c.in_ok-key.key in
    let json = json_of c.in_ok-json.json in
    let next = c.skip-next.result in
    let more : next < length bytes = omega (arith, c.skip-next.ensures.bounds, c.if-next-bytes.false) in
    record {
      past = omega (arith, c.members.invariant.past, c.in_ok-key.ensures.bound, c.in_ok-json.ensures.bound, c.skip-next.ensures.bounds);
      within = omega (arith, more);
      levels = flat_member list c.push.new.self.items key c.in_ok-json.json _ c.in_ok-push.ensures.items c.in_ok-json.ensures.flat c.members.invariant.levels;
      same = λ fs.
          c.members.invariant.same fs
          ∙ c.in_ok-key.ensures.value fs ms
          ∙ c.in_ok-json.ensures.value (in_object ms key ∷ fs)
          ∙ c.skip-next.ensures.same (in_object ms key ∷ fs) (owed [] json) (λ n gs b h. rw h refl)
          ∙ closes_here bytes (in_object ms key ∷ fs) next more json (c.skip-next.ensures.black more)
          ∙ object_comma fs json (slice_index bytes next) next (drop (next + 1) bytes) ms key c.in-44.is
          ∙ ap (λ xs. verdict 127 fs (next_key xs) (next + 1) (drop (next + 1) bytes)) (sym (pairs_pushed list c.push.new.self.items key c.in_ok-json.json c.in_ok-push.ensures.items));
    }

pub returns-in-125-clause-levels : goal.returns-in-125-clause-levels
returns-in-125-clause-levels c = flat_member c.members.members.items c.push.new.self.items c.in_ok-key.key c.in_ok-json.json _ c.in_ok-push.ensures.items c.in_ok-json.ensures.flat c.members.invariant.levels

pub returns-in_default-clause-levels : goal.returns-in_default-clause-levels
returns-in_default-clause-levels c = flat_member c.members.members.items c.push.new.self.items c.in_ok-key.key c.in_ok-json.json _ c.in_ok-push.ensures.items c.in_ok-json.ensures.flat c.members.invariant.levels
