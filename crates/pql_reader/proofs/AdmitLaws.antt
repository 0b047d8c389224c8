-- Whether a token is admitted, by the depth that is told.
use Rattle.std.proofs.Common.{◌≡◌, ◌∙◌, inl, inr, ◌<◌, ◌≤◌, ℕ, Bool, true, false, if◌then◌else◌, Option, Some, None, Result, Ok, Err, refl, sym, ap, subst, arith, List, length}
use Rattle.std.specs.Prelude.{nat_le, IfOk}
use Rattle.std.proofs.lemmas.Bool.Decides.{nat_tests}
use Rattle.ast_tree.proofs.of_plain_laws.Booleans.{no_truth}
use Rattle.pql_spec.specs.declared.token.Token.{Token}
use Rattle.pql_machine.specs.Least.{need}
use Rattle.pql_machine.specs.Machine.{State, Frame, step, and_then}
use Rattle.pql_machine.specs.Verdict.{within_depth, admit}
use Rattle.pql_parts.specs.Heights.{capped}
use Rattle.pql_lexer.specs.Next.{IsNext, NoToken}
use Rattle.pql_parts.specs.States.{Took}
use Rattle.pql_reader.specs.Goes.{Stepped}
use Rattle.pql_parts.specs.declared.state.State as code
use Rattle.pql_parts.specs.declared.fault.Fault.{Fault}
use Rattle.pql_parts.specs.declared.fault.Fault.TheVariants.{Bad, Memory}
use Rattle.query_spec.specs.Limits.{most_depth}

held : (q : State) (b : Bool) → b ≡ true → (if b then Some q else None) ≡ Some q
held q true h = refl
held q false h = no_truth h

dropped : (q : State) (b : Bool) → b ≡ false → (if b then Some q else None) ≡ None
dropped q false h = refl
dropped q true h = no_truth (sym h)

few : (n : ℕ) → n ≤ most_depth → nat_le n most_depth ≡ true
few n h = grind (arith, nat_tests)

many : (n : ℕ) → most_depth < n → nat_le n most_depth ≡ false
many n h = grind (arith, nat_tests)

pub admitted : (s q : State) (t : Token) (r : ℕ) → step s t ≡ Some q → r ≡ capped (need q) → r ≤ most_depth → admit most_depth s t ≡ Some q
admitted s q t r e f l = ap (λ o. and_then o (within_depth most_depth)) e ∙ held q (nat_le (need q) most_depth) (few (need q) (omega (arith, f, l)))

pub refused : (s q : State) (t : Token) (r : ℕ) → step s t ≡ Some q → r ≡ capped (need q) → most_depth < r → admit most_depth s t ≡ None
refused s q t r e f l = ap (λ o. and_then o (within_depth most_depth)) e ∙ dropped q (nat_le (need q) most_depth) (many (need q) (omega (arith, f, l)))

-- a token that isn't taken isn't admitted
pub not_taken : (fs : List Frame) (s : State) (t : Token) (f : Fault) → Took fs (Err f) (step s t) → Took fs (Err f) (admit most_depth s t)
not_taken fs s t Bad h = ap (λ o. and_then o (within_depth most_depth)) h
not_taken fs s t Memory h = tt

-- ---- the token that bytes begin with

pub no_token : (z : State) (n : ℕ) (bytes : List ℕ) (fs : List Frame) → NoToken n bytes → Stepped z n bytes fs (Err Bad)
no_token z n bytes fs h = inl h

pub token_refused : (z : State) (n : ℕ) (bytes : List ℕ) (fs : List Frame) (t : Token) (m : ℕ) (f : Fault) → IsNext n bytes t m → Took fs (Err f) (admit most_depth z t) → Stepped z n bytes fs (Err f)
token_refused z n bytes fs t m Bad i h = inr (t, m, i, h)
token_refused z n bytes fs t m Memory i h = tt

pub token_admitted : (z : State) (n : ℕ) (bytes : List ℕ) (fs : List Frame) (t : Token) (m : ℕ) (s : code.State) → IsNext n bytes t m → Took fs (Ok s) (admit most_depth z t) → Stepped z n bytes fs (Ok (s, m))
token_admitted z n bytes fs t m s i h = (t, i, h)

-- what is left behind a token is less
pub as_long : (n : ℕ) (bytes : List ℕ) (t : Token) (m : ℕ) (r : Result (code.State × ℕ) Fault) → IfOk r (λ x. x.1 ≡ m) → IsNext n bytes t m → IfOk r (λ x. (0 < x.1) × (x.1 ≤ length bytes))
as_long n bytes t m (Ok x) e i = (subst (λ k. 0 < k) (sym e) i.some, subst (λ k. k ≤ length bytes) (sym e) i.within)
as_long n bytes t m (Err f) e i = tt
