-- From what is asked to what is answered.
use Rattle.std.proofs.Common.{◌≡◌, ◌≢◌, ◌∙◌, inl, inr, ℕ, List, [], ◌∷◌, ◌++◌, refl, sym, ap, subst, arith, Bool, true, false, Option, Some, None, Result, Ok, Err, append-nil}
use Rattle.std.specs.Prelude.{codes, IfOk}
use Rattle.routes_spec.specs.fleet_ports.Counts.{Counts}
use Rattle.http_spec.specs.declared.answer.Answer.{Answer}
use Rattle.http_spec.specs.declared.request.Request.{Request}
use Rattle.routes_spec.specs.means_spec.OutRows.{OutRows, names_of, means}
use Rattle.routes_spec.specs.means_spec.Sums.{too_large}
use Rattle.routes_spec.specs.means_spec.World.{World}
use Rattle.paging_text.specs.Shown.{rows_of, written_text}
use Rattle.paging_params.specs.Params.{ParamValue, count_in, truth_in, last_under}
use Rattle.paging_params.specs.Told.{IsRead}
use Rattle.paging_params.specs.declared.read.PagingFault.{PagingFault}
use Rattle.paging_params.specs.declared.read.PagingFault.TheVariants as page_fault
use Rattle.paging_params.specs.Paging.{read_as, checked_paging, AreOrders, IsPagingOf}
use Rattle.routes_spec.specs.pattern_port.Refused.{Asked, asked_more}
use Rattle.routes_spec.proofs.of_plain_laws.Booleans.{no_truth}
use Rattle.routes_spec.specs.query_answer.query_plan.Plan.{level_patterns}
use Rattle.query_engine.specs.Answers.{taken, AreAsked, MatchPicked, IsBadPattern}
use Rattle.query_engine.specs.declared.engine.Picked.{Picked}
use Rattle.query_engine.specs.declared.engine.QueryFault.{QueryFault}
use Rattle.query_engine.specs.declared.engine.QueryFault.TheVariants as pick
use Rattle.routes_spec.specs.query_spec.declared.parts.Paging.{Paging}
use Rattle.routes_spec.specs.query_spec.declared.parts.Pattern.{Pattern}
use Rattle.routes_spec.specs.query_spec.Query.{Level}
use Rattle.routes_spec.specs.query_answer.RefusalText.{refusal_text}
use Rattle.routes_spec.specs.query_answer.Told.{Told}
use Rattle.routes_spec.specs.query_answer.declared.refusal.QueryRefusal.TheVariants.{BadPattern, SumTooLarge}
use Rattle.routes_spec.specs.Answers as meant
use Rattle.routes_spec.specs.Answers.{error, IsSummedAnswer, IsRowsAnswer, IsToldAnswer, IsQuestionAnswer}
use Rattle.routes_spec.specs.Parameters.{parameters_of}
use Rattle.routes_spec.specs.Reading.{ReadsFront, IsReadOf, IsReadOn}
use Rattle.routes_spec.specs.Routes.{query_of}
use Rattle.routes_spec.specs.Queries.{Question as Meant, IsQuestion, IsToldOn}
use Rattle.routes_spec.specs.declared.route.Route.{Route}
use Rattle.http_routes.specs.declared.question.Question.{Question}
use Rattle.http_routes.specs.Asked.{paged_answer, IsPagedAnswer, IsUnpagedAnswer, IsPickedAnswer, IsAskAnswer, AnswersAsked}
use Rattle.http_routes.proofs.Results.{if_is, has_code}
use Rattle.http_routes.specs.Moves.{IsOneRefused, Reads}
use Rattle.http_routes.specs.Questions.{SamePaging, Asks, IfAsked}

-- ---- patterns that were read

-- all of them are a prefix
all_read : (q : Level) → ReadsFront q (taken (level_patterns q))
all_read q = record { earlier = level_patterns q; later = []; patterns_are = sym (append-nil (level_patterns q)); asked = refl }

no_refused_one : (ps : List Pattern) → IsOneRefused (taken ps) → ⊥
no_refused_one [] h = no_truth h
no_refused_one (p ∷ ps) h = no_refused_one ps h

one_refused : (ps : List Pattern) (text : List ℕ) → IsOneRefused (taken ps ++ (text, true) ∷ [])
one_refused [] text = refl
one_refused (p ∷ ps) text = one_refused ps text

-- with no pattern refused the count stays
reads_taken : {P : Type 0} (ps : List Pattern) (before now : Option (List Asked)) (count later : ℕ) → now ≡ asked_more before (taken ps) → Counts count later P → (P → ⊥)
    → Reads (taken ps) before now count later
reads_taken ps before now count later asked counts never =
    record { read = asked; counted = record { later = counts.later; cause = λ one. absurd (no_refused_one ps one); calm = λ _. counts.calm never } }

reads_refused : {P : Type 0} (ps : List Pattern) (text : List ℕ) (before now : Option (List Asked)) (count later : ℕ) → now ≡ asked_more before (taken ps ++ (text, true) ∷ [])
    → Counts count later P → P → Reads (taken ps ++ (text, true) ∷ []) before now count later
reads_refused ps text before now count later asked counts is =
    record { read = asked; counted = record { later = counts.later; cause = λ _. counts.cause is; calm = λ none. absurd (none (one_refused ps text)) } }

pub reads_nothing : (before : Option (List Asked)) (count : ℕ) → Reads [] before before count count
reads_nothing before count =
    record { read = sym (no_more before); counted = record { later = omega arith; cause = λ one. no_truth one; calm = λ _. refl } }
  where
    no_more : (o : Option (List Asked)) → asked_more o [] ≡ o
    no_more None = refl
    no_more (Some xs) = ap Some (append-nil xs)

-- ---- the rows of a query

module _ {E : Type 0} (w : World) (ends : Bool) (q : Level) (under : List ℕ → Option ParamValue) (before now : Option (List Asked)) (count later : ℕ) (result : Result Answer E) where
  abbrev IsTold : Type 0
  IsTold = AnswersAsked before now count later (ReadsFront q) (IsRowsAnswer w written_text ends q under) result

  same_page : (p : Result Paging (List ℕ)) → paged_answer ends (means w q) p ≡ meant.paged_answer w written_text ends (means w q) p
  same_page (Ok p) = refl
  same_page (Err name) = refl

  summed : (a : Answer) → IsPagedAnswer ends q under (means w q) a → IsSummedAnswer w written_text ends q under None a
  summed a (p, is, same) = (p, is, same ∙ same_page p)

  pub picked_told : (picked : Picked) → MatchPicked w q (Ok picked) → AreAsked (level_patterns q) before now (Ok picked) → Counts count later (IsBadPattern (Ok picked))
      → IfOk result (IsPagedAnswer ends q under (rows_of picked.rows)) → IsTold
  picked_told picked m asked counts is = by_result result is
    where
      reads : Reads (taken (level_patterns q)) before now count later
      reads = reads_taken (level_patterns q) before now count later asked counts (λ h. h)

      by_result : (r : Result Answer E) → IfOk r (IsPagedAnswer ends q under (rows_of picked.rows)) → AnswersAsked before now count later (ReadsFront q) (IsRowsAnswer w written_text ends q under) r
      by_result (Ok a) is = (
        taken (level_patterns q),
        reads,
        inl (
          refl,
          subst (λ o. IsSummedAnswer w written_text ends q under o a) (sym m.0)
              (summed a (subst (λ rows. IsPagedAnswer ends q under rows a) m.1 is)),
        ),
      )
      by_result (Err e) is = (taken (level_patterns q), reads, inr (all_read q))

  pub large_told : (path : List ℕ) → MatchPicked w q (Err (pick.SumTooLarge path)) → AreAsked {A = Picked} (level_patterns q) before now (Err (pick.SumTooLarge path))
      → Counts count later (IsBadPattern {A = Picked} (Err (pick.SumTooLarge path))) → IfOk result (λ a. a ≡ error ends 400 (refusal_text (SumTooLarge path))) → IsTold
  large_told path large asked counts is = by_result result is
    where
      reads : Reads (taken (level_patterns q)) before now count later
      reads = reads_taken (level_patterns q) before now count later asked counts (λ h. h)

      is_told : (a : Answer) → a ≡ error ends 400 (refusal_text (SumTooLarge path)) → IsRowsAnswer w written_text ends q under (taken (level_patterns q)) a
      is_told a is = inl (refl, subst (λ o. IsSummedAnswer w written_text ends q under o a) (sym large) is)

      by_result : (r : Result Answer E) → IfOk r (λ a. a ≡ error ends 400 (refusal_text (SumTooLarge path))) → AnswersAsked before now count later (ReadsFront q) (IsRowsAnswer w written_text ends q under) r
      by_result (Ok a) is = (taken (level_patterns q), reads, is_told a is)
      by_result (Err e) is = (taken (level_patterns q), reads, inl (error ends 400 (refusal_text (SumTooLarge path)), is_told _ refl))

  pub refused_told : (path : List ℕ) → AreAsked {A = Picked} (level_patterns q) before now (Err (pick.BadPattern path))
      → Counts count later (IsBadPattern {A = Picked} (Err (pick.BadPattern path))) → IfOk result (λ a. a ≡ error ends 400 (refusal_text (BadPattern path))) → IsTold
  refused_told path first counts is = by_result result is
    where
      list : List Asked
      list = taken first.earlier ++ (first.pattern.text, true) ∷ []

      reads : Reads (taken first.earlier ++ (first.pattern.text, true) ∷ []) before now count later
      reads = reads_refused first.earlier first.pattern.text before now count later first.asked counts tt

      is_told : (a : Answer) → a ≡ error ends 400 (refusal_text (BadPattern path)) → IsRowsAnswer w written_text ends q under (taken first.earlier ++ (first.pattern.text, true) ∷ []) a
      is_told a is = inr (
        path,
        record {
          earlier = first.earlier;
          pattern = first.pattern;
          later = first.later;
          patterns_are = first.patterns_are;
          place_is = first.place_is;
          asked = refl;
        },
        is,
      )

      by_result : (r : Result Answer E) → IfOk r (λ a. a ≡ error ends 400 (refusal_text (BadPattern path))) → AnswersAsked before now count later (ReadsFront q) (IsRowsAnswer w written_text ends q under) r
      by_result (Ok a) is = (taken first.earlier ++ (first.pattern.text, true) ∷ [], reads, is_told a is)
      by_result (Err e) is = (taken first.earlier ++ (first.pattern.text, true) ∷ [], reads, inl (error ends 400 (refusal_text (BadPattern path)), is_told _ refl))

pub memory_told : {E : Type 0} (w : World) (ends : Bool) (q : Level) (under : List ℕ → Option ParamValue) (before now : Option (List Asked)) (count later : ℕ) (e : E)
    → AreAsked {A = Picked} (level_patterns q) before now (Err pick.Memory) → Counts count later (IsBadPattern {A = Picked} (Err pick.Memory))
    → AnswersAsked before now count later (ReadsFront q) (IsRowsAnswer w written_text ends q under) (Err e)
memory_told w ends q under before now count later e front counts =
    (taken front.earlier, reads_taken front.earlier before now count later front.asked counts (λ h. h), inr (record { earlier = front.earlier; later = front.later; patterns_are = front.patterns_are; asked = refl }))

-- where there is no paging
pub unpaged_told : {E : Type 0} (ends : Bool) (q : Level) (under : List ℕ → Option ParamValue) (rows : OutRows) (fault : PagingFault) (result : Result Answer E)
    → IsRead (Err fault) (IsPagingOf (names_of q) under) → IsUnpagedAnswer ends fault result → IfOk result (IsPagedAnswer ends q under rows)
unpaged_told ends q under rows (page_fault.BadPaging name) result is told =
    if_is (IsPagedAnswer ends q under rows) (error ends 400 (codes "bad paging " ++ name)) result (Err name, is, refl) told
unpaged_told ends q under rows page_fault.Memory (Ok a) is told = absurd told
unpaged_told ends q under rows page_fault.Memory (Err e) is told = tt

pub unpaged_code : {E : Type 0} (ends : Bool) (fault : PagingFault) (result : Result Answer E) → IsUnpagedAnswer ends fault result → IfOk result (λ a. a.code ≢ 500)
unpaged_code ends (page_fault.BadPaging name) result told = has_code (error ends 400 (codes "bad paging " ++ name)) result (λ h. omega (arith, h)) told
unpaged_code ends page_fault.Memory (Ok a) told = absurd told
unpaged_code ends page_fault.Memory (Err e) told = tt

-- what was picked is told
pub rows_told : {E : Type 0} (w : World) (ends : Bool) (q : Level) (under : List ℕ → Option ParamValue) (before now : Option (List Asked)) (count later : ℕ)
    (picked : Result Picked QueryFault) (result : Result Answer E) → MatchPicked w q picked → AreAsked (level_patterns q) before now picked → Counts count later (IsBadPattern picked)
    → IsPickedAnswer ends q under picked result → AnswersAsked before now count later (ReadsFront q) (IsRowsAnswer w written_text ends q under) result
rows_told w ends q under before now count later (Ok picked) result m asked counts is = picked_told w ends q under before now count later result picked m asked counts is
rows_told w ends q under before now count later (Err (pick.SumTooLarge path)) result m asked counts is = large_told w ends q under before now count later result path m asked counts is
rows_told w ends q under before now count later (Err (pick.BadPattern path)) result m asked counts is = refused_told w ends q under before now count later result path asked counts is
rows_told w ends q under before now count later (Err pick.Memory) (Ok a) m asked counts is = absurd is
rows_told w ends q under before now count later (Err pick.Memory) (Err e) m asked counts is = memory_told w ends q under before now count later e asked counts

-- ---- the parameters of the paging are the same

same_paging : (names : List (List ℕ)) (u v : List ℕ → Option ParamValue) (p : Result Paging (List ℕ)) → SamePaging u v → IsPagingOf names u p → IsPagingOf names v p
same_paging names u v p same (orders, are, is) = (
  orders,
  subst (λ o. AreOrders names o orders) same.order_by are,
  is ∙ (λ i. checked_paging (read_as count_in (same.limit i)) (read_as count_in (same.offset i)) orders (read_as truth_in (same.include_total i))),
)

module _ (w : World) (ends : Bool) (q : Level) (u v : List ℕ → Option ParamValue) (same : SamePaging u v) where
  same_summed : (o : Option (List ℕ)) (a : Answer) → IsSummedAnswer w written_text ends q u o a → IsSummedAnswer w written_text ends q v o a
  same_summed (Some place) a h = h
  same_summed None a (p, is, h) = (p, same_paging (names_of q) u v p same is, h)

  same_rows : (asked : List Asked) (a : Answer) → IsRowsAnswer w written_text ends q u asked a → IsRowsAnswer w written_text ends q v asked a
  same_rows asked a (inl (is, h)) = inl (is, same_summed (too_large w q) a h)
  same_rows asked a (inr h) = inr h

-- ---- a question

pub answers_on : {E : Type 0} (before now : Option (List Asked)) (count later : ℕ) (B C : List Asked → Type 0) (P Q : List Asked → Answer → Type 0) (result : Result Answer E)
    → ((asked : List Asked) → B asked → C asked) → ((asked : List Asked) (a : Answer) → P asked a → Q asked a)
    → AnswersAsked before now count later B P result → AnswersAsked before now count later C Q result
answers_on before now count later B C P Q (Ok a) front on (asked, reads, h) = (asked, reads, on asked a h)
answers_on before now count later B C P Q (Err e) front on (asked, reads, inl (other, h)) = (asked, reads, inl (other, on asked other h))
answers_on before now count later B C P Q (Err e) front on (asked, reads, inr h) = (asked, reads, inr (front asked h))

module _ (w : World) (ends : Bool) (route : Route) (kept : Question) (question : Meant) (asks : Asks kept question) where
  told_on : (told : Option Told) → IsToldOn route kept.query told → IsToldOn route question.query told
  told_on told h = subst (λ o. IsToldOn route o told) asks.query h

  pub rows_asked : {E : Type 0} (q : Level) (before now : Option (List Asked)) (count later : ℕ) (result : Result Answer E) → IsToldOn route kept.query (Some (Ok q))
      → AnswersAsked before now count later (ReadsFront q) (IsRowsAnswer w written_text ends q (λ name. last_under name kept.params)) result
      → AnswersAsked before now count later (IsReadOf route question.query) (IsQuestionAnswer w written_text ends route (Some question)) result
  rows_asked q before now count later result told h =
      answers_on before now count later (ReadsFront q) (IsReadOf route question.query) (IsRowsAnswer w written_text ends q (λ name. last_under name kept.params))
      (IsQuestionAnswer w written_text ends route (Some question)) result
      (λ asked front. inr (q, told_on (Some (Ok q)) told, front))
      (λ asked a is. (Some (Ok q), told_on (Some (Ok q)) told, same_rows w ends q (λ name. last_under name kept.params) question.under asks.paging asked a is)) h

  -- no rows are asked for, for this reason
  pub none_asked : {E : Type 0} (told : Option Told) (answer : Answer) (before : Option (List Asked)) (count : ℕ) (result : Result Answer E) → IsToldOn route kept.query told
      → IsToldAnswer w written_text ends question.under told [] answer → IfOk result (λ a. a ≡ answer)
      → AnswersAsked before before count count (IsReadOf route question.query) (IsQuestionAnswer w written_text ends route (Some question)) result
  none_asked told answer before count (Ok a) is so same =
      ([], reads_nothing before count, (told, told_on told is, subst (λ x. IsToldAnswer w written_text ends question.under told [] x) (sym same) so))
  none_asked told answer before count (Err e) is so same = ([], reads_nothing before count, inl (answer, (told, told_on told is, so)))

-- ---- a request on a query route

module _ {E : Type 0} (w : World) (route : Route) (r : Request) (before now : Option (List Asked)) (count later : ℕ) where
  kept_asked : (kept : Question) (result : Result Answer E) → IfAsked (Some kept) (IsQuestion r.method (parameters_of (query_of r.target)) r.body)
      → ((question : Meant) → Asks kept question → AnswersAsked before now count later (IsReadOf route question.query) (IsQuestionAnswer w written_text r.ends route (Some question)) result)
      → AnswersAsked before now count later (IsReadOn route r) (IsAskAnswer w written_text route r) result
  kept_asked kept result (Some question, asks, is) told = by_result result (told question asks)
    where
      by_result : (a : Result Answer E) → AnswersAsked before now count later (IsReadOf route question.query) (IsQuestionAnswer w written_text r.ends route (Some question)) a
          → AnswersAsked before now count later (IsReadOn route r) (IsAskAnswer w written_text route r) a
      by_result (Ok a) (asked, reads, h) = (asked, reads, (Some question, is, (h.0, h.1, h.2)))
      by_result (Err e) (asked, reads, inl (other, h)) = (asked, reads, inl (other, (Some question, is, (h.0, h.1, h.2))))
      by_result (Err e) (asked, reads, inr (inl none)) = (asked, reads, inr (inl none))
      by_result (Err e) (asked, reads, inr (inr (q, told, front))) =
          (asked, reads, inr (inr (q, record { question = question; is_question = is; told = told }, front)))
  kept_asked kept result (None, asks, is) told = absurd asks

  pub question_asked : (o : Option Question) (kept : Question) (result : Result Answer E) → o ≡ Some kept → IfAsked o (IsQuestion r.method (parameters_of (query_of r.target)) r.body)
      → ((question : Meant) → Asks kept question → AnswersAsked before now count later (IsReadOf route question.query) (IsQuestionAnswer w written_text r.ends route (Some question)) result)
      → AnswersAsked before now count later (IsReadOn route r) (IsAskAnswer w written_text route r) result
  question_asked o kept result is so told =
      kept_asked kept result (subst (λ k. IfAsked k (IsQuestion r.method (parameters_of (query_of r.target)) r.body)) is so) told

module _ {E : Type 0} (w : World) (route : Route) (r : Request) (before : Option (List Asked)) (count : ℕ) where
  none_was_asked : (result : Result Answer E) → IfAsked None (IsQuestion r.method (parameters_of (query_of r.target)) r.body) → IfOk result (λ a. a ≡ error r.ends 400 (codes "bad body"))
      → AnswersAsked before before count count (IsReadOn route r) (IsAskAnswer w written_text route r) result
  none_was_asked (Ok a) (None, asks, is) same = ([], reads_nothing before count, (None, is, (refl, same)))
  none_was_asked (Ok a) (Some question, asks, is) same = absurd asks
  none_was_asked (Err e) (None, asks, is) same = ([], reads_nothing before count, inl (error r.ends 400 (codes "bad body"), (None, is, (refl, refl))))
  none_was_asked (Err e) (Some question, asks, is) same = absurd asks

  pub nothing_asked : (o : Option Question) (result : Result Answer E) → o ≡ None → IfAsked o (IsQuestion r.method (parameters_of (query_of r.target)) r.body)
      → IfOk result (λ a. a ≡ error r.ends 400 (codes "bad body")) → AnswersAsked before before count count (IsReadOn route r) (IsAskAnswer w written_text route r) result
  nothing_asked o result is so told = none_was_asked result (subst (λ k. IfAsked k (IsQuestion r.method (parameters_of (query_of r.target)) r.body)) is so) told

  pub not_asked : (result : Result Answer E) → IfOk result (λ _. ⊥) → AnswersAsked before before count count (IsReadOn route r) (IsAskAnswer w written_text route r) result
  not_asked (Ok a) never = absurd never
  not_asked (Err e) never = ([], reads_nothing before count, inr (inl refl))
