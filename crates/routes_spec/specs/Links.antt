-- The answers on a connection, request by request, as a relation on all of its bytes.
use Rattle.std.specs.Prelude.{◌≡◌, ◌⊎◌, ℕ, ℤ, List, [], ◌∷◌, take, true, false, None}
use Rattle.std.specs.List.{AllByRecursion, flat_map}
use Rattle.std.specs.Option.{option_to_list}
use Rattle.query_answer.specs.fleet_rows.declared.command.Command.{Command}
use Rattle.http_spec.specs.declared.answer.Answer.{Answer}
use Rattle.http_spec.specs.declared.request.Request.{Request}
use Rattle.http_spec.specs.Answers.{answer_text, fault_answer, memory_answer}
use Rattle.http_spec.specs.Requests.{End, closed, faulty, ended, BeginsWithRequest, HasFault, IsCut}
use Rattle.query_answer.specs.means_spec.OutRows.{OutRows}
use Rattle.query_answer.specs.means_spec.World.{World}
use Rattle.fleet_rows.specs.declared.submitted.Submitted.{Submitted}
use Rattle.routes_spec.specs.Answers.{Met, IsAnswer}
use Rattle.routes_spec.specs.Reading.{IsReadFor}
use Rattle.http_spec.specs.Limits.{most_link}

-- how answering ends: with the connection, after each request was answered; without memory; or with a fault of the connection
pub data Stop : Type 0 where
  whole : End → Stop
  cut_off : Stop
  broken : Stop

-- ---- over any notion of an answer. M is what may happen with a request

-- what follows the last request
abbrev pub IsLast : {M : Type 0} → List ℕ → Stop → List M → List Answer → Type 0
IsLast bytes (whole closed) mets answers = ⊥
IsLast bytes (whole (faulty f)) mets answers = HasFault f bytes × (mets ≡ []) × (answers ≡ fault_answer f ∷ [])
IsLast bytes (whole ended) mets answers = IsCut bytes × (mets ≡ []) × (answers ≡ [])
IsLast bytes cut_off mets answers = (mets ≡ []) × (answers ≡ memory_answer ∷ [])
IsLast bytes broken mets answers = (mets ≡ []) × (answers ≡ [])

-- the answer to a request that ends the connection is the last one
pub record IsClosing {M : Type 0} (r : Request) (requests : List Request) (stop : Stop) (mets : List M) (answers : List Answer) : Type 0 where
  pub ends : r.ends ≡ true
  pub requests_are : requests ≡ []
  pub stop_is : stop ≡ whole closed
  pub mets_are : mets ≡ []
  pub answers_are : answers ≡ []

-- there was no memory to answer the request. `Before` says what may have happened until then
pub record IsCutOff {M : Type 0} (Before : Request → M → Type 0) (r : Request) (met : M) (answer : Answer) : Type 0 where
  pub met_before : Before r met
  pub no_memory : answer ≡ memory_answer

module _ {M : Type 0} (Given : Request → M → Answer → Type 0) (Before : Request → M → Type 0) where
  -- The bytes are these requests up to where answering stops. Each was given its answer, with what happened. The last part says
  -- how answering stopped. Memory may run out before a request is read or while it is answered; then no further request is
  -- answered. If the connection fails, only a prefix of its requests is answered.
  abbrev pub AreAnsweredBy : List ℕ → List Request → Stop → List M → List Answer → Type 0
  AreAnsweredBy bytes [] stop mets answers = IsLast bytes stop mets answers
  AreAnsweredBy bytes (r ∷ requests) stop (met ∷ mets) (answer ∷ answers) =
      (after : List ℕ) × BeginsWithRequest r bytes after
      × ((Given r met answer × (IsClosing r requests stop mets answers ⊎ ((r.ends ≡ false) × AreAnsweredBy after requests stop mets answers)))
      ⊎ (IsCutOff Before r met answer × (requests ≡ []) × (stop ≡ cut_off) × (mets ≡ []) × (answers ≡ [])))
  AreAnsweredBy bytes (r ∷ requests) stop mets answers = ⊥

-- the bytes of the answers, in order
abbrev pub written : List Answer → List ℕ
written answers = flat_map answer_text answers

-- ---- with the answers of this service

module _ (w : World) (print : OutRows → List ℕ) (now : ℤ) where
  -- an answer other than the one that memory ran out
  pub record IsGiven (r : Request) (met : Met) (answer : Answer) : Type 0 where
    pub is_answer : IsAnswer w print now r met answer
    pub has_memory : answer ≡ memory_answer → ⊥

  -- what happened as for some answer to the request; or no command was submitted, and at most a prefix of the patterns of the
  -- query that the request asks was read
  abbrev pub IsMetBefore : Request → Met → Type 0
  IsMetBefore r met =
      ((other : Answer) × IsAnswer w print now r met other)
      ⊎ ((met.submitted ≡ None) × IsReadFor r met.asked)

  -- the requests of these bytes and their answers
  abbrev pub AreAnswered : List ℕ → List Request → Stop → List Met → List Answer → Type 0
  AreAnswered = AreAnsweredBy IsGiven IsMetBefore

  -- the answers on a connection with these bytes; bytes past 2^62 don't belong to it
  abbrev pub IsServed : List ℕ → List Request → Stop → List Met → List Answer → Type 0
  IsServed bytes requests stop mets answers = AreAnswered (take most_link bytes) requests stop mets answers

-- the calls of `submit` with their answers, in order
abbrev pub submissions : List Met → List (Command × Submitted)
submissions mets = flat_map (λ (met : Met). option_to_list met.submitted) mets

-- ---- the answers that end a connection

-- the last answer ends the connection, and no other does
abbrev pub LastCloses : List Answer → Type 0
LastCloses [] = ⊥
LastCloses (a ∷ []) = a.close ≡ true
LastCloses (a ∷ b ∷ answers) = (a.close ≡ false) × LastCloses (b ∷ answers)

-- no answer ends the connection if its bytes ended or it failed; otherwise only the last one does
abbrev pub CloseAtEnd : Stop → List Answer → Type 0
CloseAtEnd (whole closed) answers = LastCloses answers
CloseAtEnd (whole (faulty f)) answers = LastCloses answers
CloseAtEnd (whole ended) answers = AllByRecursion (λ (a : Answer). a.close ≡ false) answers
CloseAtEnd cut_off answers = LastCloses answers
CloseAtEnd broken answers = AllByRecursion (λ (a : Answer). a.close ≡ false) answers
