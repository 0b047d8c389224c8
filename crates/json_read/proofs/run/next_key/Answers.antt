use Rattle.std.proofs.Common.{◌≡◌, ◌∙◌, ◌<◌, ◌+◌, length, refl, sym, ap, subst, arith, drop}
use Rattle.std.specs.Prelude.{slice_index}
use Rattle.json_machine.specs.Machine.{next_key}
use Rattle.json_machine.proofs.Verdicts.{by_key}
use Rattle.json_read.specs.Found.{Faulted}
use Rattle.json_read.proofs.Runs.{key_here}
use Rattle.json_read.proofs.Steps.{err_key}
use Rattle.json_read.proofs.run.next_key.Goals as goal

pub returns-in-Ok-behind_key-clause-value : goal.returns-in-Ok-behind_key-clause-value
returns-in-Ok-behind_key-clause-value c = λ fs ms.
    let bytes = c.args.bytes.now in
    let quote = c.skip-quote.result in
    let within : quote < length bytes = omega (arith, c.skip-quote.ensures.bounds, c.if-quote-bytes.false) in
    let is : slice_index bytes quote ≡ 34 = omega (arith, c.if-bytes-quote-ne34.false) in
    c.skip-quote.ensures.same fs (next_key ms) (λ n gs b h. rw h refl) ∙ key_here bytes fs quote within ms is ∙ ap (by_key 127 fs ms) c.in-Ok.ensures.value
    ∙ c.in-Ok-behind_key.ensures.value fs ms c.in-Ok.key

pub returns-in-Err-behind_key-clause-value : goal.returns-in-Err-behind_key-clause-value
returns-in-Err-behind_key-clause-value c = λ fs ms.
    let bytes = c.args.bytes.now in
    let quote = c.skip-quote.result in
    let within : quote < length bytes = omega (arith, c.skip-quote.ensures.bounds, c.if-quote-bytes.false) in
    let is : slice_index bytes quote ≡ 34 = omega (arith, c.if-bytes-quote-ne34.false) in
    subst (Faulted c.in-Err-behind_key.fault)
    (sym (c.skip-quote.ensures.same fs (next_key ms) (λ n gs b h. rw h refl) ∙ key_here bytes fs quote within ms is ∙ ap (by_key 127 fs ms) c.in-Ok.ensures.value))
    (c.in-Err-behind_key.ensures.value fs ms c.in-Ok.key)

pub returns-in-Err-clause-value : goal.returns-in-Err-clause-value
returns-in-Err-clause-value c = λ fs ms.
    let bytes = c.args.bytes.now in
    let quote = c.skip-quote.result in
    let within : quote < length bytes = omega (arith, c.skip-quote.ensures.bounds, c.if-quote-bytes.false) in
    let is : slice_index bytes quote ≡ 34 = omega (arith, c.if-bytes-quote-ne34.false) in
    subst (Faulted c.in-Err.fault) (sym (c.skip-quote.ensures.same fs (next_key ms) (λ n gs b h. rw h refl) ∙ key_here bytes fs quote within ms is)) (err_key bytes c.in-Err.fault fs ms _ c.in-Err.ensures.value)
