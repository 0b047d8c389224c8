-- Which end a link has behind an answer.
use Rattle.std.proofs.Common.{◌≡◌, ◌∙◌, ◌<◌, inr, ℕ, List, length, take, refl, sym, ap, subst, Bool, true, false, Option, Some, None, Result, Ok, Err}
use Rattle.std.specs.Io.KnownBytes.{Appends}
use Rattle.std.specs.Prelude.{IfOk}
use Rattle.routes_spec.specs.fleet_ports.Counts.{Counts}
use Rattle.http_spec.specs.declared.answer.Answer.{Answer}
use Rattle.http_spec.specs.declared.request.HttpFault.{HttpFault}
use Rattle.http_spec.specs.Answers.{fault_code, fault_text}
use Rattle.routes_spec.proofs.of_plain_laws.Options.{some_is}
use Rattle.routes_spec.specs.Answers.{error}
use Rattle.http_routes.specs.declared.link.LinkEnd.{LinkEnd}
use Rattle.http_routes.specs.declared.link.LinkEnd.TheVariants.{ReadFault, WriteFault}
use Rattle.http_routes.specs.declared.sending.Sent.{Sent}
use Rattle.http_routes.specs.declared.sending.Sent.TheVariants.{Whole, Memory, Failed}
use Rattle.http_routes.specs.Course.{IsPart, IsSent, end_behind, end_of, IfFaultAnswer}

-- the link goes on only behind a request that doesn't end it
pub goes_on_open : (sent : Sent) (ends : Bool) → end_of sent ends ≡ None → ends ≡ false
goes_on_open Whole true h = cc
goes_on_open Whole false h = refl
goes_on_open Memory ends h = cc
goes_on_open Failed ends h = cc

-- ---- no answer makes a fault of reading

pub never_read : (sent : Sent) (ends : Bool) → end_of sent ends ≡ Some ReadFault → ⊥
never_read Whole true h = cc
never_read Whole false h = cc
never_read Memory ends h = cc
never_read Failed ends h = cc

pub never_read_behind : (sent : Sent) → end_behind sent ≡ ReadFault → ⊥
never_read_behind Whole h = cc
never_read_behind Memory h = cc
never_read_behind Failed h = cc

-- ---- and one of writing is told exactly where an answer failed

told_failed : (sent : Sent) (ends : Bool) → end_of sent ends ≡ Some WriteFault → sent ≡ Failed
told_failed Whole true h = cc
told_failed Whole false h = cc
told_failed Memory ends h = cc
told_failed Failed ends h = refl

behind_failed : (sent : Sent) → end_behind sent ≡ WriteFault → sent ≡ Failed
behind_failed Whole h = cc
behind_failed Memory h = cc
behind_failed Failed h = refl

-- ---- counts

pub same_counts : {P Q : Type 0} (before later : ℕ) → (P → Q) → (Q → P) → Counts before later P → Counts before later Q
same_counts before later to from counts =
    record { later = counts.later; cause = λ q. counts.cause (from q); calm = λ none. counts.calm (λ p. none (to p)) }

module _ (before later : ℕ) (sent : Sent) where
  pub reads_on : {P : Type 0} (ends : Bool) (told : Option LinkEnd) → told ≡ end_of sent ends → (P → ⊥) → Counts before later P → Counts before later (told ≡ Some ReadFault)
  reads_on ends told is never counts = same_counts before later (λ p. absurd (never p)) (λ h. absurd (never_read sent ends (sym is ∙ h))) counts

  pub writes_on : (ends : Bool) (told : Option LinkEnd) → told ≡ end_of sent ends → Counts before later (sent ≡ Failed) → Counts before later (told ≡ Some WriteFault)
  writes_on ends told is counts = same_counts before later (λ p. is ∙ ap (λ s. end_of s ends) p) (λ h. told_failed sent ends (sym is ∙ h)) counts

  pub reads_behind : {P : Type 0} (told : LinkEnd) → told ≡ end_behind sent → (P → ⊥) → Counts before later P → Counts before later (Some told ≡ Some ReadFault)
  reads_behind told is never counts = same_counts before later (λ p. absurd (never p)) (λ h. absurd (never_read_behind sent (sym is ∙ some_is told ReadFault h))) counts

  pub writes_behind : (told : LinkEnd) → told ≡ end_behind sent → Counts before later (sent ≡ Failed) → Counts before later (Some told ≡ Some WriteFault)
  writes_behind told is counts =
      same_counts before later (λ p. ap Some (is ∙ ap end_behind p)) (λ h. behind_failed sent (sym is ∙ some_is told WriteFault h)) counts

-- ---- the answer to a fault

pub fault_told : {E : Type 0} (f : HttpFault) (answer : Result Answer E) (code : ℕ) (text : List ℕ) → code ≡ fault_code f → text ≡ fault_text f → IfOk answer (λ a. a ≡ error true code text)
    → IfFaultAnswer f answer
fault_told f (Ok a) code text codes_are texts_are is = is ∙ (λ i. error true (codes_are i) (texts_are i))
fault_told f (Err e) code text codes_are texts_are is = tt

-- ---- what was sent

-- a part of the bytes of a text
pub part_of : (text bytes : List ℕ) (n : ℕ) (old new : Option (List ℕ)) → text ≡ bytes → (n < length bytes) × Appends old new (take n bytes) → IsPart text old new
part_of text bytes n old new is h =
    let there = subst (λ t. (n < length t) × Appends old new (take n t)) (sym is) h in
    (n, there.0, there.1)

-- in the place of any answer
pub sent_for : (sent : Sent) (answer : Answer) (old new : Option (List ℕ)) → IsSent sent None old new → IsSent sent (Some answer) old new
sent_for Whole answer old new h = absurd h
sent_for Memory answer old new h = h
sent_for Failed answer old new h = inr h
