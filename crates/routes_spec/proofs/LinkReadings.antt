-- The requests that are answered on a link are read from it.
use Rattle.std.proofs.Common.{◌≡◌, ℕ, ℤ, List, [], ◌∷◌, take, inl, inr}
use Rattle.http_spec.specs.declared.answer.Answer.{Answer}
use Rattle.http_spec.specs.declared.request.Request.{Request}
use Rattle.http_spec.specs.Requests.{End, closed, faulty, ended, AreRequests, RequestsOf}
use Rattle.query_answer.specs.means_spec.OutRows.{OutRows}
use Rattle.query_answer.specs.means_spec.World.{World}
use Rattle.routes_spec.specs.Answers.{Met}
use Rattle.routes_spec.specs.Links.{whole, cut_off, IsGiven, IsMetBefore, AreAnsweredBy, IsServed}
use Rattle.http_spec.specs.Limits.{most_link}

same_end : (d e : End) → whole d ≡ whole e → d ≡ e
same_end d e h = cc

not_cut : {P : Type 0} (e : End) → whole e ≡ cut_off → P
not_cut e h = absurd (never h)
  where
    never : whole e ≡ cut_off → ⊥
    never h = cc

module _ {M : Type 0} (Given : Request → M → Answer → Type 0) (Before : Request → M → Type 0) where
  pub all_read : (bytes : List ℕ) (requests : List Request) (end : End) (mets : List M) (answers : List Answer)
      → AreAnsweredBy Given Before bytes requests (whole end) mets answers → AreRequests bytes requests end
  all_read bytes [] closed mets answers h = h
  all_read bytes [] (faulty f) mets answers h = h.0
  all_read bytes [] ended mets answers h = h.0
  all_read bytes (r ∷ requests) end [] answers h = absurd h
  all_read bytes (r ∷ requests) end (m ∷ mets) [] h = absurd h
  all_read bytes (r ∷ requests) end (m ∷ mets) (a ∷ answers) (after, begins, inl (given, inl closing)) =
      (after, begins, inl (closing.ends, closing.requests_are, same_end end closed closing.stop_is))
  all_read bytes (r ∷ requests) end (m ∷ mets) (a ∷ answers) (after, begins, inl (given, inr (goes, rest))) =
      (after, begins, inr (goes, all_read after requests end mets answers rest))
  all_read bytes (r ∷ requests) end (m ∷ mets) (a ∷ answers) (after, begins, inr (cut, none, stop, no_mets, no_answers)) = not_cut end stop

pub link_read : (w : World) (print : OutRows → List ℕ) (now : ℤ) (bytes : List ℕ) (requests : List Request) (end : End) (mets : List Met) (answers : List Answer)
    → IsServed w print now bytes requests (whole end) mets answers → RequestsOf bytes requests end
link_read w print now bytes requests end mets answers h = all_read (IsGiven w print now) (IsMetBefore w print now) (take most_link bytes) requests end mets answers h
