-- A text that is printed in pieces, up to the first fault.
use Rattle.std.proofs.Common.{◌∙◌, sym, ap, subst, ℕ, ◌+◌, List, [], ◌++◌, length, take, arith, append_assoc, append-nil, length-append, Option, Some, None}
use Rattle.std.proofs.Math.Seq.{take-append-add}
use Rattle.std.proofs.lemmas.List.{take_all, take-append-le}
use Rattle.std.specs.Io.KnownBytes.{Appends}
use Rattle.query_answer.specs.fleet_ports.Counts.{Counts, Rose}
use Rattle.query_answer.specs.fleet_ports.Streams.{Writes, IsFailed}
use Rattle.query_answer.specs.fleet_ports.declared.write.Wrote.{Wrote}
use Rattle.query_answer.specs.fleet_ports.declared.write.Wrote.TheVariants as wrote
use Rattle.calm_commands.specs.Told.{Stream, IsTold}

pub joined : (a b c : Option (List ℕ)) (xs ys : List ℕ) → Appends a b xs → Appends b c ys → Appends a c (xs ++ ys)
joined None b c xs ys h k = tt
joined (Some x) None c xs ys h k = absurd h
joined (Some x) (Some y) None xs ys h k = absurd k
joined (Some x) (Some y) (Some z) xs ys h k = k ∙ ap (λ t. t ++ ys) h ∙ append_assoc x xs ys

nothing : (a : Option (List ℕ)) → Appends a a []
nothing None = tt
nothing (Some x) = sym (append-nil x)

-- what one write does
pub one_piece : (answer : Wrote) (text : List ℕ) (before after : Stream) → Writes answer text before.bytes after.bytes → Counts before.faults after.faults (IsFailed answer) → IsTold text before after
one_piece wrote.All text before after w c = record {
  front = (length text, omega arith, subst (Appends before.bytes after.bytes) (sym (take_all (length text) text (omega arith))) w);
  whole = λ calm. w;
  later = c.later;
}
one_piece (wrote.Failed taken) text before after w c = record {
  front = (taken, omega (arith, w.0), w.1);
  whole = λ calm. absurd (calm (c.cause tt));
  later = c.later;
}

-- a first piece that went out whole, and what went out of the rest
pub more_pieces : (first rest : List ℕ) (before middle after : Stream) → Writes wrote.All first before.bytes middle.bytes → Counts before.faults middle.faults ⊥ → IsTold rest middle after → IsTold (first ++ rest) before after
more_pieces first rest before middle after w c told = record {
  front =
      let n = told.front.0 in
      (length first + n, omega (arith, told.front.1, length-append first rest), subst (Appends before.bytes after.bytes) (sym (take-append-add first rest n)) (joined before.bytes middle.bytes after.bytes first (take n rest) w told.front.2));
  whole = λ calm. joined before.bytes middle.bytes after.bytes first rest w (told.whole (subst (λ n. ¬ Rose n after.faults) (sym (c.calm (λ e. e))) calm));
  later = omega (arith, c.later, told.later);
}

-- a first piece that failed
pub first_failed : (taken : ℕ) (first rest : List ℕ) (before after : Stream) → Writes (wrote.Failed taken) first before.bytes after.bytes → Counts before.faults after.faults (Unit {0}) → IsTold (first ++ rest) before after
first_failed taken first rest before after w c = record {
  front = (taken, omega (arith, w.0, length-append first rest), subst (Appends before.bytes after.bytes) (sym (take-append-le taken first rest (omega (arith, w.0)))) w.1);
  whole = λ calm. absurd (calm (c.cause tt));
  later = c.later;
}

pub nothing_told : (stream : Stream) → IsTold [] stream stream
nothing_told stream = record { front = (0, omega arith, nothing stream.bytes); whole = λ calm. nothing stream.bytes; later = omega arith }
