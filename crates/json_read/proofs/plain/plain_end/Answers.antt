use Rattle.std.proofs.Common.{inl, inr, ◌∙◌, ◌++◌, ap, arith, drop}
use Rattle.std.specs.Prelude.{slice_range, slice_index}
use Rattle.json_machine.specs.Machine.{text_verdict, inside}
use Rattle.std.proofs.lemmas.Bool.{cases_lt}
use Rattle.json_read.proofs.Steps.{pieces_joined}
use Rattle.json_read.proofs.plain.plain_end.Goals as goal

pub character_end-requires-clause-not_ascii : goal.character_end-requires-clause-not_ascii
character_end-requires-clause-not_ascii c = λ low. elim (cases_lt (slice_index c.args.bytes.now c.plain.at) 128) [
  | inl small ↦ absurd (c.plain.invariant.other c.plain-test.true (low, small, c.if-bytes-at-eq34.false, c.if-bytes-at-eq92.false))
  | inr high ↦ high
]

pub plain-preserved : goal.plain-preserved
plain-preserved c =
    let bytes = c.args.bytes.now in
    let end = c.ascii_end-at-in-Ok.result in
    let step = c.in-Ok.ensures.bound in
    let last = c.ascii_end-at-in-Ok.ensures.bounds in
    record {
      past = omega (arith, c.plain.invariant.past, step, last);
      within = last.1;
      other = c.ascii_end-at-in-Ok.ensures.other;
      same = λ s.
          let front = s ++ slice_range bytes c.args.start c.plain.at in
          c.plain.invariant.same s
          ∙ c.in-Ok.ensures.value front
          ∙ c.ascii_end-at-in-Ok.ensures.value (front ++ slice_range bytes c.plain.at c.in-Ok.end)
          ∙ ap (λ z. text_verdict inside z end (drop end bytes)) (pieces_joined bytes s c.args.start c.plain.at c.in-Ok.end end c.plain.invariant.past (omega (arith, step)) last.0);
    }
