use Rattle.std.proofs.Common.{◌≡◌, ◌∙◌, ◌+◌, ◌∷◌, ◌++◌, [], length, refl, sym, ap, subst, arith, drop}
use Rattle.json_machine.specs.text_spec.Json as spec
use Rattle.json_machine.specs.text_spec.Json.{items_of, members_of, settled}
use Rattle.json_machine.specs.Machine.{in_array, owed}
use Rattle.json_read.specs.Passed.{IsStack, Begun}
use Rattle.json_read.proofs.Steps.{item_begins}
use Rattle.json_read.proofs.Stacks.{stack_push, stack_level, begun_passes, array_ends}
use Rattle.json_read.proofs.passed.first_item.Goals as goal

pub returns-then-byte-eq93-clause-value : goal.returns-then-byte-eq93-clause-value
returns-then-byte-eq93-clause-value c = λ base fs l s.
    let whole = spec.array spec.no_items in
    (fs, owed [] whole, s, (whole, (λ e. tt), refl), array_ends (fs ++ base) c.args.byte c.args.at (drop (c.args.at + 1) c.args.bytes.now) c.requires.black c.if-byte-eq93.true)

pub returns-clause-value : goal.returns-clause-value
returns-clause-value c = λ base fs l s.
    let kinds = c.push.new.self.items in
    let grown : IsStack kinds (in_array [] ∷ fs) = subst (λ ks. IsStack ks (in_array [] ∷ fs)) (sym c.in_ok-push.ensures.items) (stack_push c.args.kinds.now.items fs (in_array []) s) in
    let other : ¬ (c.args.byte ≡ 93) = λ e. omega (arith, e, c.if-byte-eq93.false) in
    let count : c.len.result ≡ length kinds = grind arith in
    let level : length (in_array [] ∷ (fs ++ base)) ≡ c.len.result + 1 = stack_level base (in_array [] ∷ fs) kinds l grown ∙ ap (λ n. n + 1) (sym count) in
    begun_passes c.args.bytes.now base (in_array [] ∷ fs) kinds c.len.result c.begin.result _ grown count
    (subst (Begun c.args.bytes.now (in_array [] ∷ (fs ++ base)) c.len.result c.begin.result)
    (sym (item_begins (fs ++ base) c.args.byte c.args.at (drop (c.args.at + 1) c.args.bytes.now) c.requires.black other))
    (c.begin.ensures.value (in_array [] ∷ (fs ++ base)) level))
