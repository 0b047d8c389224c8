-- The calls of passes, through holds and joins, and of the pass that has all holds.
use Rattle.std.proofs.Common.{◌≡◌, ℕ, ◌+◌, ◌-◌, List, [], ◌∷◌, ◌++◌, length, take, drop, sym, refl, ap, ◌∙◌, subst, arith, append_assoc, length-append}
use Rattle.std.proofs.lemmas.List.{drop_at, take_all, take-append-le}
use mathlib.Core.List.{IsPrefix}
use Rattle.turn_lock.specs.declared.held.Hold.{Hold}
use Rattle.turn_lock.specs.Holds.{hold, total}
use Rattle.turn_lock.specs.Seen.{PassView}
use Rattle.turn_lock.proofs.Prefixes.{prefix_trans}
use Rattle.lock_calls.specs.Calls.{IsCall, AreCalls, KnowsCalls, OneCall, FreshPassKnows, CallIsKnown, JoinedPassKnows, EachEntryIsOfOneCall}
use Rattle.lock_calls.proofs.Spans.{span, weighed, holds_weigh}

module _ {E C : Type 0} (adds : C → List E) (Does : C → List E → Type 0) where
  pub calls_join : (final : List E) (hs is : List Hold) (cs ds : List C) → AreCalls adds Does final hs cs → AreCalls adds Does final is ds → AreCalls adds Does final (hs ++ is) (cs ++ ds)
  calls_join final [] is [] ds a b = b
  calls_join final [] is (c ∷ cs) ds a b = absurd a
  calls_join final (h ∷ hs) is [] ds a b = absurd a
  calls_join final (h ∷ hs) is (c ∷ cs) ds a b = (a.0, calls_join final hs is cs ds a.1 b)

  pub fresh_pass_knows : FreshPassKnows adds Does
  fresh_pass_knows pass none final on = subst (λ (hs : List Hold). AreCalls adds Does final hs []) (sym none) tt

  -- the hold is this call, in every list that goes on
  one_call : (call : C) (before after : PassView E) (one : OneCall adds Does call before after) (final : List E) → IsPrefix after.seen final
      → IsCall adds Does final (hold one.number (length one.found) (length after.seen)) call
  one_call call before after one final on = record {
    found = one.found;
    found_is = refl;
    does = one.does;
    left_is = ap (λ l. length l) one.seen;
    stands = subst (λ (l : List E). IsPrefix l final) one.seen on;
  }

  pub call_is_known : CallIsKnown adds Does
  call_is_known call calls before after knows one final on =
      let then : IsPrefix one.found after.seen = (adds call, sym one.seen) in
      let old = knows final (prefix_trans before.seen one.found final one.begins (prefix_trans one.found after.seen final then on)) in
      subst (λ (hs : List Hold). AreCalls adds Does final hs (calls ++ call ∷ [])) (sym one.holds)
      (calls_join final before.holds (hold one.number (length one.found) (length after.seen) ∷ []) calls (call ∷ []) old (one_call call before after one final on, tt))

  pub joined_pass_knows : JoinedPassKnows adds Does
  joined_pass_knows into from both calls others a b longer holds final on =
      subst (λ (hs : List Hold). AreCalls adds Does final hs (calls ++ others)) (sym holds)
      (calls_join final into.holds from.holds calls others (a final (prefix_trans into.seen both.seen final longer.0 on)) (b final (prefix_trans from.seen both.seen final longer.1 on)))

  -- a pass that has seen and held the same knows the same calls
  pub same_pass_knows : (pass other : PassView E) (calls : List C) → other.seen ≡ pass.seen → other.holds ≡ pass.holds → KnowsCalls adds Does pass calls → KnowsCalls adds Does other calls
  same_pass_knows pass other calls seen holds knows final on =
      subst (λ (hs : List Hold). AreCalls adds Does final hs calls) (sym holds) (knows final (subst (λ (l : List E). IsPrefix l final) seen on))

  -- ---- all calls

  -- what the hold appended is what the call adds
  call_appends : (final : List E) (h : Hold) (call : C) → IsCall adds Does final h call → span h final ≡ adds call
  call_appends final h call is =
      let there : (is.found ++ adds call) ++ is.stands.0 ≡ final = is.stands.1 in
      let long : length (is.found ++ adds call) ≡ length is.found + length (adds call) = length-append is.found (adds call) in
      let size : h.left - h.found ≡ length (adds call) = let a = is.found_is in let b = is.left_is in omega arith in
      let place : drop h.found final ≡ adds call ++ is.stands.0 =
      ap (λ k. drop k final) is.found_is ∙ (ap (drop (length is.found)) (sym there ∙ append_assoc is.found (adds call) is.stands.0) ∙ drop_at is.found (adds call ++ is.stands.0) (length is.found) refl) in
      ap (λ k. take k (drop h.found final)) size ∙ (ap (take (length (adds call))) place ∙ (take-append-le (length (adds call)) (adds call) is.stands.0 (omega arith) ∙ take_all (length (adds call)) (adds call) (omega arith)))

  calls_weigh : (weight : E → ℕ) (final : List E) (hs : List Hold) (cs : List C) → AreCalls adds Does final hs cs → total (λ c. total weight (adds c)) cs ≡ total (weighed weight final) hs
  calls_weigh weight final [] [] is = refl
  calls_weigh weight final [] (c ∷ cs) is = absurd is
  calls_weigh weight final (h ∷ hs) [] is = absurd is
  calls_weigh weight final (h ∷ hs) (c ∷ cs) is =
      let rest = calls_weigh weight final hs cs is.1 in let first : total weight (span h final) ≡ total weight (adds c) = ap (total weight) (call_appends final h c is.0) in omega arith

  pub each_entry_is_of_one_call : EachEntryIsOfOneCall adds Does
  each_entry_is_of_one_call pass calls opening final knows seen all weight =
      calls_weigh weight final pass.holds calls (knows final seen) ∙ holds_weigh weight final opening pass.holds all
