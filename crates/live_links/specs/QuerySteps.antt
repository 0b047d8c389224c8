-- A query, answered from a lane's own tables.
use Rattle.std.specs.Prelude.{◌≡◌, ◌≢◌, ◌⊎◌, ℕ, List, [], Bool, Option, Result, Ok, Err}
use Rattle.http_spec.specs.declared.answer.Answer.{Answer}
use Rattle.http_spec.specs.declared.request.Request.{Request}
use Rattle.http_routes.specs.paging_text.Shown.{written_text}
use Rattle.http_routes.specs.pattern_port.Refused.{Asked}
use Rattle.http_routes.specs.query_engine.Tables.{world_of}
use Rattle.http_routes.specs.routes.Reading.{IsReadFor}
use Rattle.http_routes.specs.Moves.{Reads}
use Rattle.http_routes.specs.Routed.{IsAskedAnswer}
use Rattle.live_stage.specs.Trace.{SnapshotView}
use Rattle.live_links.specs.Answers.{with_seen, IsLookedAnswer}
use Rattle.live_links.specs.Headers.{lacks}
use Rattle.live_links.specs.declared.header.Least.{Least}

-- the same answer with a number, unless memory ran out
abbrev pub IsNumbered : {E : Type 0} → ℕ → Result Answer E → Result Answer E → Type 0
IsNumbered n (Ok plain) told = told ≡ Ok (with_seen n plain)
IsNumbered n (Err e) told = told ≡ Err e

-- over these tables, which lack no step
abbrev pub AnswersOver : (List ℕ → List ℕ → Bool) → SnapshotView → ℕ → Request → List Asked → Answer → Type 0
AnswersOver says s n r asked answer = (s.behind ≡ []) × IsAskedAnswer (world_of s.tables says) written_text r asked answer

module _ (AnswersAt : ℕ → Request → List Asked → Answer → Type 0) (least : Least) (n : ℕ) (r : Request) where
  abbrev pub IsLookedBy : {E : Type 0} → List Asked → Result Answer E → Type 0
  IsLookedBy asked (Ok answer) = IsLookedAnswer AnswersAt (lacks least n) n r asked answer × (answer.code ≢ 500)
  IsLookedBy asked (Err e) = ((other : Answer) × IsLookedAnswer AnswersAt (lacks least n) n r asked other) ⊎ IsReadFor r asked

  -- The query was answered over the first n events. These texts were read as patterns.
  pub record AnswersLook {E : Type 0} (before then : Option (List Asked)) (count later : ℕ) (result : Result Answer E) : Type 0 where
    pub asked : List Asked
    pub reads : Reads asked before then count later
    pub answered : IsLookedBy asked result
