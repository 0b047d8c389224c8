-- A lane's requests together.
use Rattle.std.proofs.Common.{◌≡◌, ◌∙◌, ℕ, List, [], ◌∷◌, ◌++◌, Option, Some, None, sym, ap, subst, arith, append_assoc, append-nil}
use Rattle.std.specs.Option.{option_to_list}
use Rattle.live_links.specs.Lanes.{Lane, Rises, number_in}
use Rattle.live_links.specs.Laws.{numbers_of, calls_of, NeverFall, NumbersNeverFall, CallsAreOfRequests}

-- a number more, if there is one
pub one_rises : (o : Option ℕ) (old mid last : ℕ) (ns : List ℕ) → Rises o old mid → NeverFall mid ns last → NeverFall old (option_to_list o ++ ns) last
one_rises None old mid last ns same rest = subst (λ n. NeverFall n ns last) same rest
one_rises (Some n) old mid last ns (le, same) rest = (le, subst (λ k. NeverFall k ns last) same rest)

pub numbers_never_fall : NumbersNeverFall
numbers_never_fall [] old new same = let is : old.seen ≡ new.seen = sym (ap (λ (l : Lane). l.seen) same) in omega (arith, is)
numbers_never_fall (met ∷ mets) old new (between, moves, rest) =
    one_rises (number_in met.call) old.seen between.seen new.seen (numbers_of mets) moves.rises (numbers_never_fall mets between new rest)

pub calls_are_of_requests : CallsAreOfRequests
calls_are_of_requests [] old new same = ap (λ (l : Lane). l.calls) same ∙ sym (append-nil old.calls)
calls_are_of_requests (met ∷ mets) old new (between, moves, rest) =
    calls_are_of_requests mets between new rest ∙ (ap (λ cs. cs ++ calls_of mets) moves.calls ∙ append_assoc old.calls (option_to_list met.call) (calls_of mets))
