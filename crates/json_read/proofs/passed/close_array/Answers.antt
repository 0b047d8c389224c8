use Rattle.std.proofs.Common.{◌+◌, ◌∷◌, ◌++◌, [], refl, sym, subst, drop}
use Rattle.json_machine.specs.text_spec.Json as spec
use Rattle.json_machine.specs.text_spec.Json.{items_of, members_of, settled}
use Rattle.json_machine.specs.Machine.{in_array, value, owed}
use Rattle.json_read.specs.Passed.{IsStack}
use Rattle.json_read.proofs.Stacks.{stack_push, array_comma, array_bracket}
use Rattle.json_read.proofs.passed.close_array.Goals as goal

pub returns-in_ok-push-in-44-clause-value : goal.returns-in_ok-push-in-44-clause-value
returns-in_ok-push-in-44-clause-value c = λ base fs js j s.
    let more = in_array (js ++ j ∷ []) in
    (more ∷ fs, value, subst (λ ks. IsStack ks (more ∷ fs)) (sym c.in_ok-push-in-44.ensures.items) (stack_push c.args.kinds.now.items fs more s), refl, array_comma (fs ++ base) j c.args.byte c.args.at (drop (c.args.at + 1) c.args.bytes.now) js c.in-44.is)

pub returns-in-93-clause-value : goal.returns-in-93-clause-value
returns-in-93-clause-value c = λ base fs js j s.
    let whole = spec.array (items_of (js ++ j ∷ [])) in
    (fs, owed [] whole, s, (whole, (λ e. tt), refl), array_bracket (fs ++ base) j c.args.byte c.args.at (drop (c.args.at + 1) c.args.bytes.now) js c.in-93.is)
