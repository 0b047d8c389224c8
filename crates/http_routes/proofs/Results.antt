-- What holds of a result whose answer is this one.
use Rattle.std.proofs.Common.{◌≡◌, ◌≢◌, sym, subst, Result, Ok, Err}
use Rattle.std.specs.Prelude.{IfOk}
use Rattle.http_spec.specs.declared.answer.Answer.{Answer}

pub if_is : {A E : Type 0} (P : A → Type 0) (x : A) (r : Result A E) → P x → IfOk r (λ a. a ≡ x) → IfOk r P
if_is P x (Ok a) p is = subst P (sym is) p
if_is P x (Err e) p is = tt

-- its code
pub has_code : {E : Type 0} (x : Answer) (r : Result Answer E) → x.code ≢ 500 → IfOk r (λ a. a ≡ x) → IfOk r (λ a. a.code ≢ 500)
has_code x r p is = if_is (λ (a : Answer). a.code ≢ 500) x r p is

pub if_then : {A E : Type 0} (P Q : A → Type 0) (r : Result A E) → ((a : A) → P a → Q a) → IfOk r P → IfOk r Q
if_then P Q (Ok a) on p = on a p
if_then P Q (Err e) on p = tt
