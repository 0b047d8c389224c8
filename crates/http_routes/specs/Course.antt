-- What is served on a connection, as far as its bytes are known.
use Rattle.std.specs.Prelude.{◌≡◌, ◌⊎◌, ◌<◌, ◌≤◌, ◌+◌, ℕ, ℤ, List, [], ◌∷◌, ◌++◌, length, take, Bool, false, if◌then◌else◌, Option, Some, None, IfSome, Result, Ok, Err}
use Rattle.std.specs.Io.KnownBytes.{Appends, Consumes}
use Rattle.http_spec.specs.declared.answer.Answer.{Answer}
use Rattle.http_spec.specs.declared.request.Request.{Request}
use Rattle.http_spec.specs.declared.request.HttpFault.{HttpFault}
use Rattle.http_spec.specs.Answers.{answer_text, fault_answer, memory_answer}
use Rattle.http_spec.specs.Requests.{ended}
use Rattle.http_front.specs.Next.{Gives}
use Rattle.routes_spec.specs.means_spec.OutRows.{OutRows}
use Rattle.routes_spec.specs.means_spec.World.{World}
use Rattle.routes_spec.specs.pattern_port.Refused.{Asked}
use Rattle.routes_spec.specs.fleet_rows.declared.command.Command.{Command}
use Rattle.routes_spec.specs.Answers.{Met}
use Rattle.fleet_rows.specs.declared.submitted.Submitted.{Submitted}
use Rattle.routes_spec.specs.Links.{Stop, whole, cut_off, broken, IsGiven, IsMetBefore, AreAnsweredBy, written}
use Rattle.http_routes.specs.declared.link.LinkEnd.{LinkEnd}
use Rattle.http_routes.specs.declared.link.LinkEnd.TheVariants.{Closed, ReadFault, WriteFault}
use Rattle.http_routes.specs.declared.sending.Sent.{Sent}
use Rattle.http_routes.specs.declared.sending.Sent.TheVariants.{Whole, Memory, Failed}
use Rattle.http_routes.specs.Moves.{Moves}
use Rattle.http_spec.specs.Limits.{most_link}

-- ---- what was sent

-- only a part of the bytes was written
abbrev pub IsPart : List ℕ → Option (List ℕ) → Option (List ℕ) → Type 0
IsPart text old new = (n : ℕ) × (n < length text) × Appends old new (take n text)

abbrev pub answer_in : {E : Type 0} → Result Answer E → Option Answer
answer_in (Ok answer) = Some answer
answer_in (Err e) = None

-- the answer, if there is one, is the answer to this fault
abbrev pub IfFaultAnswer : {E : Type 0} → HttpFault → Result Answer E → Type 0
IfFaultAnswer f (Ok answer) = answer ≡ fault_answer f
IfFaultAnswer f (Err e) = Unit {0}

-- the answer was sent whole, or the answer that memory ran out in its place, or only a part of one of the two
abbrev pub IsSent : Sent → Option Answer → Option (List ℕ) → Option (List ℕ) → Type 0
IsSent Whole (Some answer) old new = Appends old new (answer_text answer)
IsSent Whole None old new = ⊥
IsSent Memory answer old new = Appends old new (answer_text memory_answer)
IsSent Failed (Some answer) old new = IsPart (answer_text answer) old new ⊎ IsPart (answer_text memory_answer) old new
IsSent Failed None old new = IsPart (answer_text memory_answer) old new

-- how the connection ends after its last answer
abbrev pub end_behind : Sent → LinkEnd
end_behind Whole = Closed
end_behind Memory = Closed
end_behind Failed = WriteFault

-- how it ends after any answer: it does if the request ends it or sending failed
abbrev pub end_of : Sent → Bool → Option LinkEnd
end_of Whole ends = if ends then Some Closed else None
end_of Memory ends = Some Closed
end_of Failed ends = Some WriteFault

-- these are all bytes of the connection, if they are known
abbrev pub AreKnown : Option (List ℕ) → List ℕ → Type 0
AreKnown None bytes = Unit {0}
AreKnown (Some known) bytes = bytes ≡ known

-- answering wasn't interrupted by a fault of the connection
abbrev pub IsWhole : Stop → Type 0
IsWhole (whole end) = Unit {0}
IsWhole cut_off = Unit {0}
IsWhole broken = ⊥

-- the bytes of the answers that were written: all of them, or a part if writing failed
abbrev pub AreWritten : LinkEnd → Stop → List ℕ → Option (List ℕ) → Option (List ℕ) → Type 0
AreWritten Closed stop text old new = IsWhole stop × Appends old new text
AreWritten ReadFault stop text old new = (stop ≡ broken) × Appends old new text
AreWritten WriteFault stop text old new = IsPart text old new

-- ---- over any notion of an answer. M is what may happen with a request, and X the state outside the connection

-- the state changed as these requests say, in order
abbrev pub AllMoveBy : {M X : Type 0} → (M → X → X → Type 0) → List M → X → X → Type 0
AllMoveBy Changes [] old new = new ≡ old
AllMoveBy {M} {X} Changes (met ∷ mets) old new = (between : X) × Changes met old between × AllMoveBy Changes mets between new

module _ {M X : Type 0} (Given : Request → M → Answer → Type 0) (Before : Request → M → Type 0) (Changes : M → X → X → Type 0) where
  -- The connection had these bytes to read. Its requests were given their answers in order, they changed the outside state, and
  -- the answers were written.
  pub record ServesBy (end : LinkEnd) (known : Option (List ℕ)) (old new : X) (held holds : Option (List ℕ)) : Type 0 where
    pub bytes : List ℕ
    pub requests : List Request
    pub stop : Stop
    pub mets : List M
    pub answers : List Answer
    pub are_known : AreKnown known bytes
    pub answered : AreAnsweredBy Given Before bytes requests stop mets answers
    pub moved : AllMoveBy Changes mets old new
    pub written_are : AreWritten end stop (written answers) held holds

  -- Reading failed behind the bytes that were taken; `rest` was left. What they hold was served as if the connection ended with
  -- them: each request was answered, and the answers were written. Any read may fail, so none was made before that.
  pub record ServedSoFarBy (known rest : Option (List ℕ)) (old new : X) (held holds : Option (List ℕ)) : Type 0 where
    pub taken : List ℕ
    pub is_taken : Consumes known rest taken
    pub serves : ServesBy Closed (Some taken) old new held holds
    pub ended : serves.stop ≡ whole ended

  -- the request was answered; without memory, the outside state changed as `Before` says
  abbrev pub IsAnsweredBy : {E : Type 0} → Request → X → X → Result Answer E → Type 0
  IsAnsweredBy request old new (Ok answer) = (met : M) × Changes met old new × Given request met answer
  IsAnsweredBy request old new (Err e) = (met : M) × Changes met old new × Before request met

  -- one request was read and answered, and the connection stays open
  pub record GoesOnBy (known left : Option (List ℕ)) (old new : X) (held holds : Option (List ℕ)) : Type 0 where
    pub request : Request
    pub met : M
    pub answer : Answer
    pub gives : Gives request known left
    pub stays : request.ends ≡ false
    pub given : Given request met answer
    pub moved : Changes met old new
    pub appended : Appends held holds (answer_text answer)

  abbrev pub IsServedNextBy : Option LinkEnd → Option (List ℕ) → Option (List ℕ) → X → X → Option (List ℕ) → Option (List ℕ) → Type 0
  IsServedNextBy None known left old new held holds = GoesOnBy known left old new held holds
  IsServedNextBy (Some end) known left old new held holds = ServesBy end known old new held holds

  -- whatever is served from here on was served from the first byte on. If the bytes weren't known at first, any bytes may be left
  -- here
  abbrev pub ContinuesBy : Option (List ℕ) → X → Option (List ℕ) → Option (List ℕ) → X → Option (List ℕ) → Type 0
  ContinuesBy first start held known mid between =
      (end : LinkEnd) (left : Option (List ℕ)) (new : X) (holds : Option (List ℕ)) → IfSome first (λ (_ : List ℕ). left ≡ known)
      → ServesBy end left mid new between holds → ServesBy end first start new held holds

  -- The requests so far have some bytes, with which the first ones begin. What is served of any bytes from here on is served of
  -- these and those, and ends in the same way.
  abbrev pub GoesSoFarBy : Option (List ℕ) → X → Option (List ℕ) → Option (List ℕ) → X → Option (List ℕ) → Type 0
  GoesSoFarBy first start held known mid between =
      (front : List ℕ) × Consumes first known front
      × ((bytes : List ℕ) (new : X) (holds : Option (List ℕ)) → (s : ServesBy Closed (Some bytes) mid new between holds)
      → (t : ServesBy Closed (Some (front ++ bytes)) start new held holds) × (t.stop ≡ s.stop))

-- ---- with the answers of this service

-- the state outside the connection: the inbox, the patterns that were read, and the number of refused ones
pub record Outside (H : Type 0) : Type 0 where
  pub inbox : H
  pub asked : Option (List Asked)
  pub refusals : ℕ

abbrev pub outside : {H : Type 0} → H → Option (List Asked) → ℕ → Outside H
outside inbox asked refusals = record { inbox = inbox; asked = asked; refusals = refusals }

-- one request changes the outside state, with this step for `submit`
abbrev pub MovesOutside : {H : Type 0} → (Command → Submitted → H → H → Type 0) → Met → Outside H → Outside H → Type 0
MovesOutside Step met old new = Moves Step met old.inbox new.inbox old.asked new.asked old.refusals new.refusals

-- these requests change the outside state, in order
abbrev pub AllMove : {H : Type 0} → (Command → Submitted → H → H → Type 0) → List Met → Outside H → Outside H → Type 0
AllMove Step mets old new = AllMoveBy (MovesOutside Step) mets old new

module _ {H : Type 0} (Step : Command → Submitted → H → H → Type 0) (w : World) (print : OutRows → List ℕ) (now : ℤ) where
  abbrev pub Serves : LinkEnd → Option (List ℕ) → Outside H → Outside H → Option (List ℕ) → Option (List ℕ) → Type 0
  Serves = ServesBy (IsGiven w print now) (IsMetBefore w print now) (MovesOutside Step)

  abbrev pub ServedSoFar : Option (List ℕ) → Option (List ℕ) → Outside H → Outside H → Option (List ℕ) → Option (List ℕ) → Type 0
  ServedSoFar = ServedSoFarBy (IsGiven w print now) (IsMetBefore w print now) (MovesOutside Step)

  abbrev pub IsAnswered : {E : Type 0} → Request → Outside H → Outside H → Result Answer E → Type 0
  IsAnswered request old new result = IsAnsweredBy (IsGiven w print now) (IsMetBefore w print now) (MovesOutside Step) request old new result

  abbrev pub GoesOn : Option (List ℕ) → Option (List ℕ) → Outside H → Outside H → Option (List ℕ) → Option (List ℕ) → Type 0
  GoesOn = GoesOnBy (IsGiven w print now) (IsMetBefore w print now) (MovesOutside Step)

  abbrev pub IsServedNext : Option LinkEnd → Option (List ℕ) → Option (List ℕ) → Outside H → Outside H → Option (List ℕ) → Option (List ℕ) → Type 0
  IsServedNext = IsServedNextBy (IsGiven w print now) (IsMetBefore w print now) (MovesOutside Step)

  abbrev pub Continues : Option (List ℕ) → Outside H → Option (List ℕ) → Option (List ℕ) → Outside H → Option (List ℕ) → Type 0
  Continues = ContinuesBy (IsGiven w print now) (IsMetBefore w print now) (MovesOutside Step)

  abbrev pub GoesSoFar : Option (List ℕ) → Outside H → Option (List ℕ) → Option (List ℕ) → Outside H → Option (List ℕ) → Type 0
  GoesSoFar = GoesSoFarBy (IsGiven w print now) (IsMetBefore w print now) (MovesOutside Step)

-- ---- how many requests there are

-- n requests were read, and n plus the number of bytes left is within the limit
abbrev pub AreFew : ℕ → Option (List ℕ) → Type 0
AreFew n None = ⊥
AreFew n (Some bytes) = n + length bytes ≤ most_link

-- the same, if the bytes were known at first
abbrev pub AreFewIfTold : Option (List ℕ) → ℕ → Option (List ℕ) → Type 0
AreFewIfTold None n left = Unit {0}
AreFewIfTold (Some first) n left = AreFew n left
