-- Which answers end a link.
use Rattle.std.proofs.Common.{◌≡◌, ◌∙◌, ◌⊎◌, inl, inr, ℕ, ℤ, List, [], ◌∷◌, take, refl, sym, ap, subst, true, false}
use Rattle.std.specs.List.{AllByRecursion}
use Rattle.http_spec.specs.declared.answer.Answer.{Answer}
use Rattle.http_spec.specs.declared.request.Request.{Request}
use Rattle.http_spec.specs.Answers.{memory_answer}
use Rattle.http_spec.specs.Requests.{closed, faulty, ended}
use Rattle.query_answer.specs.means_spec.OutRows.{OutRows}
use Rattle.query_answer.specs.means_spec.World.{World}
use Rattle.routes_spec.specs.Answers.{Met}
use Rattle.routes_spec.specs.Links.{Stop, whole, cut_off, broken, IsLast, IsGiven, IsMetBefore, AreAnsweredBy, IsServed, LastCloses, CloseAtEnd}
use Rattle.routes_spec.proofs.Closing.{answer_closes}
use Rattle.http_spec.specs.Limits.{most_link}

in_front : (a : Answer) (answers : List Answer) → a.close ≡ false → LastCloses answers → LastCloses (a ∷ answers)
in_front a [] stays rest = absurd rest
in_front a (b ∷ answers) stays rest = (stays, rest)

one_more : (stop : Stop) (a : Answer) (answers : List Answer) → a.close ≡ false → CloseAtEnd stop answers → CloseAtEnd stop (a ∷ answers)
one_more (whole closed) a answers stays rest = in_front a answers stays rest
one_more (whole (faulty f)) a answers stays rest = in_front a answers stays rest
one_more (whole ended) a answers stays rest = (stays, rest)
one_more cut_off a answers stays rest = in_front a answers stays rest
one_more broken a answers stays rest = (stays, rest)

last_closes : {M : Type 0} (bytes : List ℕ) (stop : Stop) (mets : List M) (answers : List Answer) → IsLast bytes stop mets answers → CloseAtEnd stop answers
last_closes bytes (whole closed) mets answers h = absurd h
last_closes bytes (whole (faulty f)) mets answers h = subst LastCloses (sym h.2) refl
last_closes bytes (whole ended) mets answers h = subst (AllByRecursion (λ (a : Answer). a.close ≡ false)) (sym h.2) tt
last_closes bytes cut_off mets answers h = subst LastCloses (sym h.1) refl
last_closes bytes broken mets answers h = subst (AllByRecursion (λ (a : Answer). a.close ≡ false)) (sym h.1) tt

-- where an answer ends its link exactly if its request does
module _ {M : Type 0} (Given : Request → M → Answer → Type 0) (Before : Request → M → Type 0)
    (as_asked : (r : Request) (met : M) (a : Answer) → Given r met a → a.close ≡ r.ends)
  where
    pub all_close : (bytes : List ℕ) (requests : List Request) (stop : Stop) (mets : List M) (answers : List Answer)
        → AreAnsweredBy Given Before bytes requests stop mets answers → CloseAtEnd stop answers
    all_close bytes [] stop mets answers h = last_closes bytes stop mets answers h
    all_close bytes (r ∷ requests) stop [] answers h = absurd h
    all_close bytes (r ∷ requests) stop (m ∷ mets) [] h = absurd h
    all_close bytes (r ∷ requests) stop (m ∷ mets) (a ∷ answers) (after, begins, inl (given, inl closing)) =
        subst (λ s. CloseAtEnd s (a ∷ answers)) (sym closing.stop_is)
        (subst (λ xs. LastCloses (a ∷ xs)) (sym closing.answers_are) (as_asked r m a given ∙ closing.ends))
    all_close bytes (r ∷ requests) stop (m ∷ mets) (a ∷ answers) (after, begins, inl (given, inr (goes, rest))) =
        one_more stop a answers (as_asked r m a given ∙ goes) (all_close after requests stop mets answers rest)
    all_close bytes (r ∷ requests) stop (m ∷ mets) (a ∷ answers) (after, begins, inr (cut, none, stop_is, no_mets, no_answers)) =
        subst (λ s. CloseAtEnd s (a ∷ answers)) (sym stop_is)
        (subst (λ xs. LastCloses (a ∷ xs)) (sym no_answers) (ap (λ (x : Answer). x.close) cut.no_memory))

module _ (w : World) (print : OutRows → List ℕ) (now : ℤ) where
  given_closes : (r : Request) (met : Met) (a : Answer) → IsGiven w print now r met a → a.close ≡ r.ends
  given_closes r met a given = by_case (answer_closes w print now r met a given.is_answer)
    where
      by_case : (a.close ≡ r.ends) ⊎ (a ≡ memory_answer) → a.close ≡ r.ends
      by_case (inl same) = same
      by_case (inr none) = absurd (given.has_memory none)

  pub link_closes : (bytes : List ℕ) (requests : List Request) (stop : Stop) (mets : List Met) (answers : List Answer)
      → IsServed w print now bytes requests stop mets answers → CloseAtEnd stop answers
  link_closes bytes requests stop mets answers h =
      all_close (IsGiven w print now) (IsMetBefore w print now) given_closes (take most_link bytes) requests stop mets answers h
