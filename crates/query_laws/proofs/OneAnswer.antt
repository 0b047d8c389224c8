-- A text has one answer.
use Rattle.std.proofs.Common.{◌≡◌, ◌∙◌, ◌≤◌, ◌<◌, ℕ, List, length, Bool, true, false, Err, arith, refl, sym, ap}
use Rattle.std.specs.Prelude.{nat_le}
use Rattle.std.proofs.lemmas.Bool.Decides.{nat_tests}
use Rattle.json_machine.specs.text_spec.Json.{Json}
use Rattle.json_machine.specs.Verdict.{Verdict, spelled, not_json, too_deep, Means}
use Rattle.json_machine.proofs.OneVerdict.{one_verdict, one_meaning}
use Rattle.query_spec.specs.Answer as answer
use Rattle.query_spec.specs.Answer.{Answer, AnswerOf, answer_of}
use Rattle.query_spec.specs.Ast.{Read}
use Rattle.query_spec.specs.Query.{Level}
use Rattle.query_laws.specs.Laws.{TextsHaveSomeAnswer, TextsHaveOneAnswer}
use Rattle.query_spec.specs.Limits.{most_query}

-- the answer that a verdict on the text gives
answer_to : (Json → Read Level) → Verdict → Answer
answer_to ast (spelled v) = answer_of (ast v)
answer_to ast (not_json at) = Err (answer.not_json at)
answer_to ast (too_deep at) = Err (answer.not_json at)

-- of a text that is short enough, the answer is that to a verdict that is true
record IsAnswer (ast : Json → Read Level) (text : List ℕ) (a : Answer) : Type 0 where
  verdict : Verdict
  means : Means text verdict
  answer_is : a ≡ answer_to ast verdict

is_answer : (ast : Json → Read Level) (text : List ℕ) (a : Answer) → length text ≤ most_query → AnswerOf ast text a → IsAnswer ast text a
unfolding answer_to
is_answer ast text a short (answer.long more e) = absurd (omega arith)
is_answer ast text a short (answer.no_json at f h e) = record { verdict = not_json at; means = h; answer_is = e }
is_answer ast text a short (answer.deep at f h e) = record { verdict = too_deep at; means = h; answer_is = e }
is_answer ast text a short (answer.value v f h e) = record { verdict = spelled v; means = h; answer_is = e }

one_answer : (ast : Json → Read Level) (text : List ℕ) (a b : Answer) → IsAnswer ast text a → IsAnswer ast text b → a ≡ b
one_answer ast text a b h k = h.answer_is ∙ ap (answer_to ast) (one_meaning text h.verdict k.verdict h.means k.means) ∙ sym k.answer_is

long_answer : (ast : Json → Read Level) (text : List ℕ) (a : Answer) → most_query < length text → AnswerOf ast text a → a ≡ Err answer.too_long
long_answer ast text a more (answer.long m e) = e
long_answer ast text a more (answer.no_json at f h e) = absurd (omega arith)
long_answer ast text a more (answer.deep at f h e) = absurd (omega arith)
long_answer ast text a more (answer.value v f h e) = absurd (omega arith)

pub texts_have_one_answer : TextsHaveOneAnswer
texts_have_one_answer ast text a b (answer.long more e) k = e ∙ sym (long_answer ast text b more k)
texts_have_one_answer ast text a b (answer.no_json at f h e) k = one_answer ast text a b (is_answer ast text a f (answer.no_json at f h e)) (is_answer ast text b f k)
texts_have_one_answer ast text a b (answer.deep at f h e) k = one_answer ast text a b (is_answer ast text a f (answer.deep at f h e)) (is_answer ast text b f k)
texts_have_one_answer ast text a b (answer.value v f h e) k = one_answer ast text a b (is_answer ast text a f (answer.value v f h e)) (is_answer ast text b f k)

told : (ast : Json → Read Level) (text : List ℕ) (v : Verdict) → length text ≤ most_query → Means text v → (a : Answer) × AnswerOf ast text a
told ast text (spelled v) f h = (answer_of (ast v), answer.value v f h refl)
told ast text (not_json at) f h = (Err (answer.not_json at), answer.no_json at f h refl)
told ast text (too_deep at) f h = (Err (answer.not_json at), answer.deep at f h refl)

by_length : (ast : Json → Read Level) (text : List ℕ) (b : Bool) → nat_le (length text) most_query ≡ b → (a : Answer) × AnswerOf ast text a
by_length ast text true e = let one = one_verdict text in told ast text one.0 (grind (arith, nat_tests, e)) one.1
by_length ast text false e = (Err answer.too_long, answer.long (grind (arith, nat_tests, e)) refl)

pub texts_have_some_answer : TextsHaveSomeAnswer
texts_have_some_answer ast text = by_length ast text (nat_le (length text) most_query) refl
