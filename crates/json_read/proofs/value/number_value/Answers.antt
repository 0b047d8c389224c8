use Rattle.std.proofs.Common.{◌∙◌, ◌+◌, refl, sym, ap, drop, []}
use Rattle.std.specs.Prelude.{slice_range, slice_index}
use Rattle.json_machine.specs.text_spec.Json as spec
use Rattle.json_machine.specs.Machine.{owed, verdict, number_verdict}
use Rattle.json_machine.proofs.Verdicts.{verdict-number, by_number}
use Rattle.json_read.specs.Numbers.{state_of}
use Rattle.json_read.proofs.NumberSteps.{first_begun, ended_number}
use Rattle.json_read.proofs.Steps.{one_byte}
use Rattle.json_read.proofs.value.number_value.Goals as goal

pub number_end-requires-clause-begun : goal.number_end-requires-clause-begun
number_end-requires-clause-begun c = first_begun c.args.first (slice_index c.args.bytes.now c.args.start) c.requires.first

pub number_of-requires-clause-number : goal.number_of-requires-clause-number
number_of-requires-clause-number c =
    let bytes = c.args.bytes.now in
    let at = c.args.start + 1 in
    let first = slice_index bytes c.args.start in
    ended_number c.args.first first at (drop at bytes) (slice_range bytes c.args.start c.in-Ok.end) c.in-Ok.end (drop c.in-Ok.end bytes) c.requires.first
    (sym (ap (λ s. number_verdict (state_of c.args.first) s at (drop at bytes)) (one_byte bytes c.args.start first c.requires.place refl)) ∙ c.in-Ok.ensures.value)

pub returns-in_ok-number-in-Ok-clause-value : goal.returns-in_ok-number-in-Ok-clause-value
returns-in_ok-number-in-Ok-clause-value c = λ fs.
    verdict-number 127 fs (drop (c.args.start + 1) c.args.bytes.now) (c.args.start + 1) (state_of c.args.first) (slice_range c.args.bytes.now c.args.start (c.args.start + 1))
    ∙ ap (by_number 127 fs) c.in-Ok.ensures.value
    ∙ ap (λ s. verdict 127 fs (owed [] (spec.number s)) c.in-Ok.end (drop c.in-Ok.end c.args.bytes.now)) (sym c.in_ok-number-in-Ok.ensures)

pub returns-in-Err-clause-value : goal.returns-in-Err-clause-value
returns-in-Err-clause-value c = λ fs.
    verdict-number 127 fs (drop (c.args.start + 1) c.args.bytes.now) (c.args.start + 1) (state_of c.args.first) (slice_range c.args.bytes.now c.args.start (c.args.start + 1))
    ∙ ap (by_number 127 fs) c.in-Err.ensures.value
