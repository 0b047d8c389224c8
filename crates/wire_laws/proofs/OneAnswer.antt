-- A command has one answer.
use Rattle.std.proofs.Common.{◌≡◌, ◌∙◌, ℕ, ◌==◌, List, Bool, true, false, Result, Err, arith, refl, sym, ap}
use Rattle.history_spec.specs.json_machine.Verdict.{Verdict, spelled, not_json, too_deep, Means}
use Rattle.history_spec.proofs.of_json_machine.OneVerdict.{one_verdict, one_meaning}
use Rattle.history_spec.specs.fleet_rows.declared.change.Change.{Change}
use Rattle.history_spec.specs.fleet_rows.declared.command.Command.{Command}
use Rattle.history_spec.specs.fleet_rows.declared.refusal.Refusal.{Refusal}
use Rattle.history_spec.specs.fleet_rows.declared.refusal.Refusal.TheVariants as refusal
use Rattle.history_spec.specs.wire_spec.Table.{value_change}
use Rattle.history_spec.specs.wire_spec.Decode as decode
use Rattle.history_spec.specs.wire_spec.Decode.{DecodeOf, version_of}
use Rattle.wire_laws.specs.DecodeLaws.{CommandsHaveSomeAnswer, CommandsHaveOneAnswer}

-- the answer that a verdict on the payload gives
answer_to : Command → Verdict → Result Change Refusal
answer_to c (spelled v) = value_change c.kind v
answer_to c (not_json at) = Err (refusal.NotJson at)
answer_to c (too_deep at) = Err (refusal.TooDeep at)

-- with the version that is taken, the answer is that to a verdict that is true
record IsAnswer (c : Command) (answer : Result Change Refusal) : Type 0 where
  verdict : Verdict
  means : Means c.payload verdict
  answer_is : answer ≡ answer_to c verdict

is_answer : (c : Command) (answer : Result Change Refusal) → c.version ≡ version_of c.kind → DecodeOf c answer → IsAnswer c answer
unfolding answer_to
is_answer c answer e (decode.bad_version other a) = absurd (other e)
is_answer c answer e (decode.not_json at f h a) = record { verdict = not_json at; means = h; answer_is = a }
is_answer c answer e (decode.too_deep at f h a) = record { verdict = too_deep at; means = h; answer_is = a }
is_answer c answer e (decode.value v f h a) = record { verdict = spelled v; means = h; answer_is = a }

one_answer : (c : Command) (answer other : Result Change Refusal) → IsAnswer c answer → IsAnswer c other → answer ≡ other
one_answer c answer other h k = h.answer_is ∙ ap (answer_to c) (one_meaning c.payload h.verdict k.verdict h.means k.means) ∙ sym k.answer_is

pub commands_have_one_answer : CommandsHaveOneAnswer
commands_have_one_answer c answer other (decode.bad_version f a) (decode.bad_version g b) = a ∙ sym b
commands_have_one_answer c answer other (decode.bad_version f a) (decode.not_json at e h b) = absurd (f e)
commands_have_one_answer c answer other (decode.bad_version f a) (decode.too_deep at e h b) = absurd (f e)
commands_have_one_answer c answer other (decode.bad_version f a) (decode.value v e h b) = absurd (f e)
commands_have_one_answer c answer other (decode.not_json at e h a) k = one_answer c answer other (is_answer c answer e (decode.not_json at e h a)) (is_answer c other e k)
commands_have_one_answer c answer other (decode.too_deep at e h a) k = one_answer c answer other (is_answer c answer e (decode.too_deep at e h a)) (is_answer c other e k)
commands_have_one_answer c answer other (decode.value v e h a) k = one_answer c answer other (is_answer c answer e (decode.value v e h a)) (is_answer c other e k)

told : (c : Command) (v : Verdict) → c.version ≡ version_of c.kind → Means c.payload v → (answer : Result Change Refusal) × DecodeOf c answer
told c (spelled v) e h = (value_change c.kind v, decode.value v e h refl)
told c (not_json at) e h = (Err (refusal.NotJson at), decode.not_json at e h refl)
told c (too_deep at) e h = (Err (refusal.TooDeep at), decode.too_deep at e h refl)

by_version : (c : Command) (b : Bool) → (c.version == version_of c.kind) ≡ b → (answer : Result Change Refusal) × DecodeOf c answer
by_version c true e = let one = one_verdict c.payload in told c one.0 (grind arith) one.1
by_version c false e = (Err refusal.BadVersion, decode.bad_version (λ same. grind arith) refl)

pub commands_have_some_answer : CommandsHaveSomeAnswer
commands_have_some_answer c = by_version c (c.version == version_of c.kind) refl
