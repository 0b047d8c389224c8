-- A text has one answer at most: what stops a text stops each list of tokens that goes on there.
use Rattle.std.proofs.Common.{◌≡◌, ◌∙◌, inl, inr, ℕ, List, [], ◌∷◌, ◌++◌, length, sym, ap, subst, arith, append_assoc, Err}
use Rattle.std.specs.List.{AllByRecursion}
use Rattle.std.proofs.lemmas.List.{append-nil}
use Rattle.pql_spec.specs.query_spec.Query.{Level}
use Rattle.pql_spec.specs.declared.token.Token.{Token}
use Rattle.pql_spec.specs.Grammar.{PqlSpells}
use Rattle.pql_spec.specs.Tokens.{Spells}
use Rattle.pql_spec.specs.Texts.{IsLongest, TextSpells, IsToken, Begins, Stops, at_end, at_no_token, at_token, PqlBad, pql_bad, checked, long, bad, spelt}
use Rattle.pql_spec.proofs.OneList.{GoesOn, Compared, compared, ends_alike, no_token, same_longest}
use Rattle.pql_machine.specs.Laws.{TextsHaveOneAnswer}
use Rattle.pql_machine.proofs.Law.{one_query}

all-append : (ts us : List Token) → AllByRecursion IsToken ts → AllByRecursion IsToken us → AllByRecursion IsToken (ts ++ us)
all-append [] us h g = g
all-append (t ∷ ts) us h g = (h.0, all-append ts us h.1 g)

-- a query that begins with more begins with less
begins_less : (ts more us : List Token) (t : Token) → us ≡ ts ++ t ∷ more → AllByRecursion IsToken more → Begins us → Begins (ts ++ t ∷ [])
begins_less ts more us t e a b = record {
  rest = more ++ b.rest;
  query = b.query;
  are_tokens = all-append more b.rest a b.are_tokens;
  spells = subst (λ x. PqlSpells x b.query) (ap (λ x. x ++ b.rest) e ∙ append_assoc ts (t ∷ more) b.rest ∙ sym (append_assoc ts (t ∷ []) (more ++ b.rest))) b.spells;
}

stops_there : (ts us : List Token) (r : List ℕ) → Stops ts r → GoesOn 0 ts us r → Begins us → ⊥
stops_there ts us r (at_end e f) g b = no_token g.number g.bytes g.behind g.token g.longest.spells (sym e ∙ g.rest_is)
stops_there ts us r (at_no_token e f) g b =
    f g.bytes g.behind g.token (subst (λ k. Spells k g.bytes g.token) number g.longest.spells) g.rest_is
  where
    number : g.number ≡ length ts
    number = omega (arith, g.number_is)
stops_there ts us r (at_token bytes behind t l e f) g b =
    let number : g.number ≡ length ts = omega (arith, g.number_is) in
    let same = same_longest (length ts) g.bytes bytes g.behind behind g.token t (subst (λ k. IsLongest k g.bytes g.token g.behind) number g.longest) l (sym g.rest_is ∙ e) in
    f (begins_less ts g.more us t (g.list_is ∙ ap (λ x. ts ++ x ∷ g.more) same.0) g.are_tokens b)

pub spelt_begins : (ts : List Token) (q : Level) → PqlSpells ts q → Begins ts
spelt_begins ts q s = record { rest = []; query = q; are_tokens = tt; spells = subst (λ x. PqlSpells x q) (sym (append-nil ts)) s }

-- the rests of two faults
same_rests : (ts us : List Token) (r s : List ℕ) → Compared 0 ts us r s → Stops ts r → Begins ts → Stops us s → Begins us → r ≡ s
same_rests ts us r s (inl c) x b y d = c.1
same_rests ts us r s (inr (inl g)) x b y d = absurd (stops_there ts us r x g d)
same_rests ts us r s (inr (inr g)) x b y d = absurd (stops_there us ts s y g b)

one_fault : (text : List ℕ) (at to : ℕ) → PqlBad text at → PqlBad text to → at ≡ to
one_fault text at to a b =
    let r = same_rests a.tokens b.tokens a.rest b.rest (compared text a.tokens b.tokens a.rest b.rest a.begins_with b.begins_with) a.stops a.begins b.stops b.begins in
    omega (arith, a.place, b.place, ap length r)

-- what is spelt whole isn't stopped
never_stops : (ts us : List Token) (r : List ℕ) (q : Level) → Compared 0 ts us r [] → Stops ts r → PqlSpells us q → ⊥
never_stops ts us r q (inl c) (at_end e f) s = f q (subst (λ x. PqlSpells x q) (sym c.0) s)
never_stops ts us r q (inl c) (at_no_token e f) s = e c.1
never_stops ts us r q (inl c) (at_token bytes behind t l e f) s = no_token (length ts) bytes behind t l.spells (sym c.1 ∙ e)
never_stops ts us r q (inr (inl g)) x s = stops_there ts us r x g (spelt_begins us q s)
never_stops ts us r q (inr (inr g)) x s = no_token g.number g.bytes g.behind g.token g.longest.spells g.rest_is

no_fault : (text : List ℕ) (at : ℕ) (q : Level) → PqlBad text at → TextSpells text q → ⊥
no_fault text at q a b = never_stops a.tokens b.tokens a.rest q (compared text a.tokens b.tokens a.rest [] a.begins_with b.begins_with) a.stops b.spells

one_spelt : (text : List ℕ) (p q : Level) → TextSpells text p → TextSpells text q → p ≡ q
one_spelt text p q a b =
    let e = ends_alike a.tokens b.tokens (compared text a.tokens b.tokens [] [] a.begins_with b.begins_with) in
    one_query b.tokens p q (subst (λ x. PqlSpells x p) e a.spells) b.spells

pub one_answer : TextsHaveOneAnswer
one_answer text x y (long l e) (long m f) = e ∙ sym f
one_answer text x y (long l e) (bad to m b f) = absurd (omega (arith, l, m))
one_answer text x y (long l e) (spelt q m b f) = absurd (omega (arith, l, m))
one_answer text x y (bad at l a e) (long m f) = absurd (omega (arith, l, m))
one_answer text x y (spelt q l a e) (long m f) = absurd (omega (arith, l, m))
one_answer text x y (bad at l a e) (bad to m b f) = e ∙ ap (λ k. Err (pql_bad k)) (one_fault text at to a b) ∙ sym f
one_answer text x y (bad at l a e) (spelt q m b f) = absurd (no_fault text at q a b)
one_answer text x y (spelt q l a e) (bad to m b f) = absurd (no_fault text to q b a)
one_answer text x y (spelt p l a e) (spelt q m b f) = e ∙ ap checked (one_spelt text p q a b) ∙ sym f
