-- The machine's verdict is true of the tokens: laws 1 to 4 put together.
use Rattle.std.proofs.Common.{◌≡◌, ◌∙◌, ℕ, suc, ◌+◌, ◌≤◌, List, [], ◌∷◌, ◌++◌, length, take, refl, sym, ap, subst, Bool, true, false, Option, Some, None, arith, append_assoc, nat_le, if◌then◌else◌}
use Rattle.std.proofs.lemmas.List.{length-append}
use Rattle.pql_spec.specs.query_spec.Query.{Level, level_height}
use Rattle.pql_spec.specs.declared.token.Token.{Token}
use Rattle.pql_spec.specs.Grammar.{SpellsWithin, PqlSpells}
use Rattle.pql_spec.specs.Texts.{Begins}
use Rattle.pql_machine.specs.Machine.{State, start, complete, step, ended, and_then, read}
use Rattle.pql_machine.specs.Least.{need}
use Rattle.pql_machine.specs.Verdict.{BadAt, Verdict, spelled, bad, Means, within_depth, admit, at_end, next, verdict}
use Rattle.pql_spec.proofs.of_plain_laws.Options.{none_some, some_same, choose}
use Rattle.pql_machine.proofs.Cases.{bound}
use Rattle.pql_machine.proofs.Trees as trees
use Rattle.pql_machine.proofs.Completion.{completion, completes}
use Rattle.pql_machine.proofs.CompletionTokens.{completed}
use Rattle.pql_machine.proofs.Grows.{step-grows}
use Rattle.pql_machine.proofs.Sound as sound
use Rattle.pql_spec.specs.query_spec.Limits.{most_depth}

-- ---- whole lists: laws 1 and 3

pub spells_read : (n : ℕ) (ts : List Token) (q : Level) → SpellsWithin n ts q → read start ts ≡ Some q
spells_read n ts q s = ap (read start) s.tokens_are ∙ trees.read-tree s.tree s.is_tree ∙ ap Some (sym s.query_is)

pub read_spells : (n : ℕ) (ts : List Token) (q : Level) → read start ts ≡ Some q → level_height q ≤ n → SpellsWithin n ts q
read_spells n ts q e d =
    let t = sound.read-tree q ts e in
    record { tree = t.0; is_tree = t.1; tokens_are = t.2; query_is = t.3; depth = d }

pub one_query : (ts : List Token) (p q : Level) → PqlSpells ts p → PqlSpells ts q → p ≡ q
one_query ts p q a b = some_same q p (sym (spells_read most_depth ts q b) ∙ spells_read most_depth ts p a)

-- ---- depth: laws 2 and 4

ended-need : (s : State) (q : Level) → ended s ≡ Some q → need s ≤ level_height q
ended-need (complete p) q e = subst (λ x. level_height p ≤ level_height x) (sym (some_same p q e)) (omega arith)
ended-need _ q e = none_some q e

read-need : (ts : List Token) (s : State) (q : Level) → read s ts ≡ Some q → need s ≤ level_height q
read-need [] s q e = ended-need s q e
read-need (t ∷ ts) s q e =
    let b = bound (step s t) (λ x. read x ts) q e in
    omega (arith, step-grows s t b.0 b.1, read-need ts b.0 q b.2)

abbrev run : State → List Token → Option State
run s [] = Some s
run s (t ∷ ts) = and_then (step s t) (λ q. run q ts)

and_then_both : (o : Option State) (f : State → Option State) (g : State → Option Level) → and_then (and_then o f) g ≡ and_then o (λ q. and_then (f q) g)
and_then_both None f g = refl
and_then_both (Some q) f g = refl

and_then_alike : {B : Type 0} (o : Option State) (f g : State → Option B) → ((q : State) → f q ≡ g q) → and_then o f ≡ and_then o g
and_then_alike None f g e = refl
and_then_alike (Some q) f g e = e q

read-append : (ts us : List Token) (s : State) → read s (ts ++ us) ≡ and_then (run s ts) (λ q. read q us)
read-append [] us s = refl
read-append (t ∷ ts) us s = and_then_alike (step s t) _ _ (λ q. read-append ts us q) ∙ sym (and_then_both (step s t) (λ q. run q ts) (λ q. read q us))

-- where the machine stands, some query goes on
run_begins : (front : List Token) (s : State) → run start front ≡ Some s → need s ≤ most_depth → Begins front
run_begins front s e d =
    let c = completes s in
    record {
      rest = completion s;
      are_tokens = completed s;
      query = c.0;
      spells = read_spells most_depth (front ++ completion s) c.0 (read-append front (completion s) start ∙ ap (λ o. and_then o (λ q. read q (completion s))) e ∙ c.1) (omega (arith, c.2, d));
    }

-- where it refuses a token, none does
refuses : (s : State) (t : Token) (q : State) → step s t ≡ Some q → admit most_depth s t ≡ None → need q ≤ most_depth → ⊥
refuses s t q e h d =
    let told : (if nat_le (need q) most_depth then Some q else None) ≡ None = sym (ap (λ o. and_then o (within_depth most_depth)) e) ∙ h in
    never (nat_le (need q) most_depth) q (fits (need q) d) told
  where
    fits : (m : ℕ) → m ≤ most_depth → nat_le m most_depth ≡ true
    fits m h = grind arith

    never : (b : Bool) (q : State) → b ≡ true → (if b then Some q else None) ≡ None → ⊥
    never true q e h = none_some q (sym h)
    never false q e h = absurd (wrong e)
      where
        wrong : false ≡ true → ⊥
        wrong h = cc

stuck_begins : (front : List Token) (t : Token) (s : State) → run start front ≡ Some s → admit most_depth s t ≡ None → Begins (front ++ t ∷ []) → ⊥
stuck_begins front t s e stuck g =
    let whole : read start (front ++ t ∷ [] ++ g.rest) ≡ Some g.query = spells_read most_depth (front ++ t ∷ [] ++ g.rest) g.query g.spells in
    let on : and_then (step s t) (λ q. read q g.rest) ≡ Some g.query =
    sym (ap (λ o. and_then o (λ q. read q (t ∷ g.rest))) e) ∙ sym (read-append front (t ∷ g.rest) start) ∙ sym (ap (read start) (append_assoc front (t ∷ []) g.rest)) ∙ whole in
    let b = bound (step s t) (λ q. read q g.rest) g.query on in
    refuses s t b.0 b.1 stuck (omega (arith, read-need g.rest b.0 g.query b.2, g.spells.depth))

-- ---- the verdict

-- where and how the machine stops
record Stops (s : State) (at : ℕ) (ts : List Token) (k : ℕ) : Type 0 where
  pub front : List Token
  pub behind : List Token
  pub state : State
  pub place : k ≡ at + length front
  pub tokens : ts ≡ front ++ behind
  pub ran : run s front ≡ Some state
  pub shallow : need state ≤ most_depth

abbrev Refuses : State → List Token → Type 0
Refuses s [] = ended s ≡ None
Refuses s (t ∷ ts) = admit most_depth s t ≡ None

abbrev Says : State → ℕ → List Token → Verdict → Type 0
Says s at ts (spelled q) = (read s ts ≡ Some q) × (level_height q ≤ most_depth)
Says s at ts (bad k) = (x : Stops s at ts k) × Refuses x.state x.behind

abbrev here : (s : State) (at : ℕ) (ts : List Token) → need s ≤ most_depth → Stops s at ts at
here s at ts d = record { front = []; behind = ts; state = s; place = omega arith; tokens = refl; ran = refl; shallow = d }

says_on : (s q : State) (at : ℕ) (t : Token) (ts : List Token) (v : Verdict) → step s t ≡ Some q → Says q (at + 1) ts v → Says s at (t ∷ ts) v
says_on s q at t ts (spelled p) e h = (ap (λ o. and_then o (λ q. read q ts)) e ∙ h.0, h.1)
says_on s q at t ts (bad k) e h =
    let x = h.0 in (
      record {
        front = t ∷ x.front;
        behind = x.behind;
        state = x.state;
        place = omega (arith, x.place);
        tokens = ap (λ y. t ∷ y) x.tokens;
        ran = ap (λ o. and_then o (λ q. run q x.front)) e ∙ x.ran;
        shallow = x.shallow;
      },
      h.1,
    )

end_says : (s : State) (at : ℕ) (o : Option Level) → need s ≤ most_depth → ended s ≡ o → Says s at [] (at_end o at)
end_says s at None d e = (here s at [] d, e)
end_says (complete p) at (Some q) d e = (e, subst (λ x. level_height x ≤ most_depth) (sym (some_same p q e)) d)
end_says _ at (Some q) d e = none_some q e

admitted : (s : State) (t : Token) (q : State) → admit most_depth s t ≡ Some q → (step s t ≡ Some q) × (need q ≤ most_depth)
admitted s t q e =
    let b = and_bound (step s t) q e in
    choose (nat_le (need b.0) most_depth) (Some b.0) None (Some q) ((step s t ≡ Some q) × (need q ≤ most_depth)) b.2
    (λ i g. (b.1 ∙ g, subst (λ x. need x ≤ most_depth) (sym (some_same b.0 q g)) (fits (need b.0) i)))
    (λ i g. none_some q g)
  where
    fits : (m : ℕ) → nat_le m most_depth ≡ true → m ≤ most_depth
    fits m h = grind arith

    and_bound : (o : Option State) (q : State) → and_then o (within_depth most_depth) ≡ Some q → (p : State) × (o ≡ Some p) × (within_depth most_depth p ≡ Some q)
    and_bound None q e = none_some q e
    and_bound (Some p) q e = (p, refl, e)

step_says : (s : State) (at : ℕ) (t : Token) (ts : List Token) (o : Option State) → need s ≤ most_depth → admit most_depth s t ≡ o → ((q : State) → need q ≤ most_depth → Says q (at + 1) ts (verdict most_depth q (at + 1) ts)) → Says s at (t ∷ ts) (next o at (λ q. verdict most_depth q (at + 1) ts))
step_says s at t ts None d e more = (here s at (t ∷ ts) d, e)
step_says s at t ts (Some q) d e more =
    let a = admitted s t q e in
    says_on s q at t ts _ a.0 (more q a.1)

verdict-says : (ts : List Token) (s : State) (at : ℕ) → need s ≤ most_depth → Says s at ts (verdict most_depth s at ts)
verdict-says [] s at d = end_says s at (ended s) d refl
verdict-says (t ∷ ts) s at d = step_says s at t ts (admit most_depth s t) d refl (λ q c. verdict-says ts q (at + 1) c)

-- ---- the place of the fault

pub take-front : (fs ts : List Token) → take (length fs) (fs ++ ts) ≡ fs
take-front [] ts = refl
take-front (f ∷ fs) ts = ap (λ x. f ∷ x) (take-front fs ts)

pub take-one : (fs : List Token) (t : Token) (ts : List Token) → take (length fs + 1) (fs ++ t ∷ ts) ≡ fs ++ t ∷ []
take-one [] t ts = refl
take-one (f ∷ fs) t ts =
    let n : suc (length fs) + 1 ≡ suc (length fs + 1) = omega arith in
    ap (λ m. take m (f ∷ (fs ++ t ∷ ts))) n ∙ ap (λ x. f ∷ x) (take-one fs t ts)

module _ (ts front behind : List Token) (k : ℕ) (s : State) (place : k ≡ 0 + length front) (whole : ts ≡ front ++ behind) (ran : run start front ≡ Some s) (shallow : need s ≤ most_depth) where
  size : k ≡ length front
  size = omega (arith, place)

  begun : Begins (take k ts)
  begun = subst Begins (sym ((λ i. take (size i) (whole i)) ∙ take-front front behind)) (run_begins front s ran shallow)

  past_front : (t : Token) (us : List Token) → behind ≡ t ∷ us → take (k + 1) ts ≡ front ++ t ∷ []
  past_front t us e = (λ i. take (size i + 1) ((whole ∙ ap (λ x. front ++ x) e) i)) ∙ take-one front t us

  length_is : length ts ≡ k + length behind
  length_is = omega (arith, ap length whole, length-append front behind, size)

bad_case : (ts front behind : List Token) (k : ℕ) (s : State) → k ≡ 0 + length front → ts ≡ front ++ behind → run start front ≡ Some s → need s ≤ most_depth → Refuses s behind → BadAt ts k
bad_case ts front [] k s place whole ran d h = record {
  inside = omega (arith, length_is ts front [] k s place whole ran d);
  begins = begun ts front [] k s place whole ran d;
  longest = λ l. absurd (omega (arith, l, length_is ts front [] k s place whole ran d));
  whole = λ e q x. none_some q (sym h ∙ sym (read-append front [] start ∙ ap (λ o. and_then o (λ q. read q [])) ran) ∙ sym (ap (read start) whole) ∙ spells_read most_depth ts q x);
}
bad_case ts front (t ∷ us) k s place whole ran d h = record {
  inside = omega (arith, length_is ts front (t ∷ us) k s place whole ran d);
  begins = begun ts front (t ∷ us) k s place whole ran d;
  longest = λ l g. stuck_begins front t s ran h (subst Begins (past_front ts front (t ∷ us) k s place whole ran d t us refl) g);
  whole = λ e. absurd (omega (arith, e, length_is ts front (t ∷ us) k s place whole ran d));
}

bad_means : (ts : List Token) (k : ℕ) (x : Stops start 0 ts k) → Refuses x.state x.behind → BadAt ts k
bad_means ts k x h = bad_case ts x.front x.behind k x.state x.place x.tokens x.ran x.shallow h

says_means : (ts : List Token) (v : Verdict) → Says start 0 ts v → Means ts v
says_means ts (spelled q) h = read_spells most_depth ts q h.0 h.1
says_means ts (bad k) h = bad_means ts k h.0 h.1

pub verdict_means : (ts : List Token) → Means ts (verdict most_depth start 0 ts)
verdict_means ts = says_means ts (verdict most_depth start 0 ts) (verdict-says ts start 0 (omega arith))
