use Rattle.std.proofs.Common.{◌≡◌, ◌∙◌, ◌+◌, ◌∷◌, ◌++◌, [], sym, ap, subst, drop}
use Rattle.json_machine.specs.Machine.{closes}
use Rattle.json_read.specs.declared.passed.Kind.TheVariants.{Array, Object}
use Rattle.json_read.specs.Passed.{IsStack, Passes}
use Rattle.json_read.proofs.Stacks.{stack_array, stack_object}
use Rattle.json_read.proofs.passed.close.Goals as goal

pub returns-in-Some-Array-clause-value : goal.returns-in-Some-Array-clause-value
returns-in-Some-Array-clause-value c = λ base fs j s.
    let kinds = c.pop.new.self.items in
    let last : c.args.kinds.now.items ≡ kinds ++ Array ∷ [] = c.in-Some-Array.ensures.items ∙ ap (λ k. kinds ++ k ∷ []) c.in-Some-Array.field-0-is in
    let top = stack_array kinds fs (subst (λ ks. IsStack ks fs) last s) in
    subst (λ gs. Passes c.args.bytes.now base c.close_array.new.kinds.items c.close_array.result (closes 127 (gs ++ base) j c.args.byte c.args.at (drop (c.args.at + 1) c.args.bytes.now)))
    (sym top.2) (c.close_array.ensures.value base top.1 top.0 j top.3)

pub returns-in-Some-Object-clause-value : goal.returns-in-Some-Object-clause-value
returns-in-Some-Object-clause-value c = λ base fs j s.
    let kinds = c.pop.new.self.items in
    let last : c.args.kinds.now.items ≡ kinds ++ Object ∷ [] = c.in-Some-Object.ensures.items ∙ ap (λ k. kinds ++ k ∷ []) c.in-Some-Object.field-0-is in
    let top = stack_object kinds fs (subst (λ ks. IsStack ks fs) last s) in
    subst (λ gs. Passes c.args.bytes.now base c.close_object.new.kinds.items c.close_object.result (closes 127 (gs ++ base) j c.args.byte c.args.at (drop (c.args.at + 1) c.args.bytes.now)))
    (sym top.3) (c.close_object.ensures.value base top.2 top.0 top.1 j top.4)
