-- Answers that are also those of another notion of a query's answer.
use Rattle.std.proofs.Common.{inl, inr, ℕ, ℤ, List, Bool, true, false, Option, Result, Ok, Err}
use Rattle.http_spec.specs.declared.answer.Answer.{Answer}
use Rattle.http_spec.specs.declared.request.Request.{Request}
use Rattle.http_routes.specs.pattern_port.Refused.{Asked}
use Rattle.http_routes.specs.declared.routed.Routed.{Routed}
use Rattle.http_routes.specs.declared.routed.Routed.TheVariants.{Command, Query, Done}
use Rattle.live_links.specs.Answers.{LiveMet, IsLookedAnswer, IsLookAnswer, IsLiveQueryAnswer, IsRoutedAnswer, IsAnswerOn, IsLiveGiven, IsLiveMetBefore}
use Rattle.live_links.specs.Headers.{lacks}
use Rattle.live_links.specs.QuerySteps.{IsLookedBy, AnswersLook}
use Rattle.live_links.specs.Sweeps.{is_sweep}
use Rattle.live_links.specs.declared.header.Least.{Least}
use Rattle.live_links.specs.declared.header.Least.TheVariants.{Any, AtLeast, Bad}

module _ (At At2 : ℕ → Request → List Asked → Answer → Type 0) (n : ℕ) (on : (r : Request) (asked : List Asked) (a : Answer) → At n r asked a → At2 n r asked a) where
  looked_on : (few : Bool) (r : Request) (asked : List Asked) (a : Answer) → IsLookedAnswer At few n r asked a → IsLookedAnswer At2 few n r asked a
  looked_on true r asked a h = h
  looked_on false r asked a (plain, is, told) = (plain, on r asked plain is, told)

  looked_by_on : {E : Type 0} (least : Least) (r : Request) (asked : List Asked) (result : Result Answer E) → IsLookedBy At least n r asked result → IsLookedBy At2 least n r asked result
  looked_by_on least r asked (Ok a) (h, code) = (looked_on (lacks least n) r asked a h, code)
  looked_by_on least r asked (Err e) (inl (other, h)) = inl (other, looked_on (lacks least n) r asked other h)
  looked_by_on least r asked (Err e) (inr read) = inr read

  pub look_on : {E : Type 0} (least : Least) (r : Request) (before then : Option (List Asked)) (count later : ℕ) (result : Result Answer E)
      → AnswersLook At least n r before then count later result → AnswersLook At2 least n r before then count later result
  look_on least r before then count later result h = record { asked = h.asked; reads = h.reads; answered = looked_by_on least r h.asked result h.answered }

module _ (At At2 : ℕ → Request → List Asked → Answer → Type 0) (on : (n : ℕ) (r : Request) (asked : List Asked) (a : Answer) → At n r asked a → At2 n r asked a) (now : ℤ) where
  look_answer_on : (least : Least) (r : Request) (met : LiveMet) (a : Answer) → IsLookAnswer At least r met a → IsLookAnswer At2 least r met a
  look_answer_on least r met a (n, call, h) = (n, call, looked_on At At2 n (on n) (lacks least n) r met.asked a h)

  query_on : (least : Least) (r : Request) (met : LiveMet) (a : Answer) → IsLiveQueryAnswer At least r met a → IsLiveQueryAnswer At2 least r met a
  query_on Bad r met a h = h
  query_on Any r met a h = look_answer_on Any r met a h
  query_on (AtLeast m) r met a h = look_answer_on (AtLeast m) r met a h

  routed_on : (routed : Routed) (r : Request) (met : LiveMet) (a : Answer) → IsRoutedAnswer At now routed r met a → IsRoutedAnswer At2 now routed r met a
  routed_on (Command c) r met a h = h
  routed_on (Query q) r met a (least, asks, h) = (least, asks, query_on least r met a h)
  routed_on (Done plain) r met a h = h

  answer_on : (sweep : Bool) (r : Request) (met : LiveMet) (a : Answer) → IsAnswerOn At now sweep r met a → IsAnswerOn At2 now sweep r met a
  answer_on true r met a h = h
  answer_on false r met a (routed, is, h) = (routed, is, routed_on routed r met a h)

  pub given_on : (r : Request) (met : LiveMet) (a : Answer) → IsLiveGiven At now r met a → IsLiveGiven At2 now r met a
  given_on r met a h = record { is_answer = answer_on (is_sweep r.target) r met a h.is_answer; code = h.code }

  pub before_on : (r : Request) (met : LiveMet) → IsLiveMetBefore At now r met → IsLiveMetBefore At2 now r met
  before_on r met (inl (other, h)) = inl (other, answer_on (is_sweep r.target) r met other h)
  before_on r met (inr h) = inr h

-- what happened with an answer may also happen before memory runs out
pub given_before : (At : ℕ → Request → List Asked → Answer → Type 0) (now : ℤ) (r : Request) (met : LiveMet) (a : Answer) → IsLiveGiven At now r met a → IsLiveMetBefore At now r met
given_before At now r met a h = inl (a, h.is_answer)
