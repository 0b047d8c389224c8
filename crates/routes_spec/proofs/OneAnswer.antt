-- A request has one answer.
use Rattle.std.proofs.Common.{◌≡◌, ◌∙◌, inl, inr, ℕ, ℤ, List, [], ◌∷◌, ◌++◌, refl, sym, ap, subst, Bool, true, false, Option, Some, None, Ok, Err}
use Rattle.http_spec.specs.text_spec.Json.{Json, Members, object, members_list}
use Rattle.query_laws.proofs.of_json_machine.Law.{one_value}
use Rattle.query_answer.specs.fleet_rows.declared.command.Command.{Command}
use Rattle.http_spec.specs.declared.answer.Answer.{Answer}
use Rattle.http_spec.specs.declared.request.Request.{Request}
use Rattle.query_answer.proofs.of_plain_laws.Options.{some_none, some_is}
use Rattle.query_answer.specs.query_spec.Answer as spelt
use Rattle.query_answer.specs.query_spec.Answer.{AnswerOf}
use Rattle.query_answer.specs.query_spec.Ast.{Read}
use Rattle.query_answer.specs.query_spec.Query.{Level}
use Rattle.query_answer.specs.query_spec.declared.parts.Pattern.{Pattern}
use Rattle.query_laws.proofs.OneAnswer as ast
use Rattle.query_answer.proofs.of_pql_machine.OneAnswer as pql
use Rattle.query_answer.specs.pql_spec.Texts as pql_text
use Rattle.query_answer.specs.means_spec.OutRows.{OutRows, names_of, means}
use Rattle.query_answer.specs.means_spec.Sums.{too_large}
use Rattle.query_answer.specs.means_spec.World.{World}
use Rattle.query_answer.specs.pattern_port.Refused.{Asked}
use Rattle.query_answer.specs.query_plan.Plan.{level_patterns}
use Rattle.query_answer.specs.query_engine.Answers.{taken, IsFirstRefused}
use Rattle.query_answer.specs.Told.{Told, in_language, in_ast, in_pql}
use Rattle.query_answer.specs.Language.{is_ast}
use Rattle.query_answer.specs.RefusalText.{refusal_text}
use Rattle.query_answer.specs.declared.refusal.QueryRefusal.TheVariants as why
use Rattle.query_answer.specs.declared.refusal.QueryRefusal.TheVariants.{BadPattern}
use Rattle.paging_params.specs.Params.{ParamValue}
use Rattle.paging_params.proofs.OnePaging.{one_paging}
use Rattle.routes_spec.specs.declared.route.Route.{Route}
use Rattle.routes_spec.specs.declared.route.Route.TheVariants.{Commands, Queries, RowsOf}
use Rattle.fleet_rows.specs.declared.submitted.Submitted.{Submitted}
use Rattle.routes_spec.specs.Answers.{Met, error, submitted_answer, paged_answer, IsPostAnswer, IsCommandAnswer, IsSummedAnswer, IsRowsAnswer, IsToldAnswer, IsQuestionAnswer, IsQueryAnswer, IsRouteAnswer, IsMethodAnswer, IsPathAnswer, IsAnswer}
use Rattle.routes_spec.specs.Commands.{Checked}
use Rattle.routes_spec.specs.Parameters.{Parameters, parameters_of}
use Rattle.routes_spec.specs.Queries.{Question, asked_by_members, IsQuestionOfBody, IsQuestionBy, IsToldOn}
use Rattle.routes_spec.specs.Routes.{route_at, path_of, query_of, is_post, takes_method}
use Rattle.routes_spec.proofs.Posted.{one_posted}

-- ---- what is told of a text

-- what is told of an answer of the definition
abbrev told_again : spelt.Answer → Told
told_again (Ok q) = Ok q
told_again (Err spelt.too_long) = Err why.TooLong
told_again (Err (spelt.not_json at)) = Err (why.NotJson at)
told_again (Err (spelt.not_query p)) = Err (why.NotQuery p)
told_again (Err (spelt.unknown_entity p)) = Err (why.UnknownEntity p)
told_again (Err (spelt.unknown_field p)) = Err (why.UnknownField p)
told_again (Err (spelt.bad_operand p)) = Err (why.BadOperand p)

-- it is the told one of that answer
of_ast : (P : spelt.Answer → Type 0) (told : Told) → in_ast P told → (answer : spelt.Answer) × P answer × (told ≡ told_again answer)
of_ast P (Ok q) h = (Ok q, h, refl)
of_ast P (Err why.TooLong) h = (Err spelt.too_long, h, refl)
of_ast P (Err (why.NotJson at)) h = (Err (spelt.not_json at), h, refl)
of_ast P (Err (why.NotQuery p)) h = (Err (spelt.not_query p), h, refl)
of_ast P (Err (why.UnknownEntity p)) h = (Err (spelt.unknown_entity p), h, refl)
of_ast P (Err (why.UnknownField p)) h = (Err (spelt.unknown_field p), h, refl)
of_ast P (Err (why.BadOperand p)) h = (Err (spelt.bad_operand p), h, refl)
of_ast P (Err (why.PqlBad at)) h = absurd h
of_ast P (Err (why.BadPattern p)) h = absurd h
of_ast P (Err (why.SumTooLarge p)) h = absurd h

abbrev pql_again : pql_text.Answer → Told
pql_again (Ok q) = Ok q
pql_again (Err pql_text.too_long) = Err why.TooLong
pql_again (Err (pql_text.pql_bad at)) = Err (why.PqlBad at)
pql_again (Err (pql_text.unknown_entity p)) = Err (why.UnknownEntity p)
pql_again (Err (pql_text.unknown_field p)) = Err (why.UnknownField p)
pql_again (Err (pql_text.bad_operand p)) = Err (why.BadOperand p)

of_pql : (text : List ℕ) (told : Told) → in_pql text told → (answer : pql_text.Answer) × pql_text.AnswerOf text answer × (told ≡ pql_again answer)
of_pql text (Ok q) h = (Ok q, h, refl)
of_pql text (Err why.TooLong) h = (Err pql_text.too_long, h, refl)
of_pql text (Err (why.PqlBad at)) h = (Err (pql_text.pql_bad at), h, refl)
of_pql text (Err (why.UnknownEntity p)) h = (Err (pql_text.unknown_entity p), h, refl)
of_pql text (Err (why.UnknownField p)) h = (Err (pql_text.unknown_field p), h, refl)
of_pql text (Err (why.BadOperand p)) h = (Err (pql_text.bad_operand p), h, refl)
of_pql text (Err (why.NotJson at)) h = absurd h
of_pql text (Err (why.NotQuery p)) h = absurd h
of_pql text (Err (why.BadPattern p)) h = absurd h
of_pql text (Err (why.SumTooLarge p)) h = absurd h

one_in_ast : (read : Json → Read Level) (text : List ℕ) (a b : Told) → in_ast (AnswerOf read text) a → in_ast (AnswerOf read text) b → a ≡ b
one_in_ast read text a b h k =
    let x = of_ast (AnswerOf read text) a h in
    let y = of_ast (AnswerOf read text) b k in
    x.2 ∙ ap told_again (ast.texts_have_one_answer read text x.0 y.0 x.1 y.1) ∙ sym y.2

one_told_in : (language : Bool) (text : List ℕ) (a b : Told) → in_language language text a → in_language language text b → a ≡ b
one_told_in true text a b h k = one_in_ast spelt.query text a b h k
one_told_in false text a b h k =
    let x = of_pql text a h in
    let y = of_pql text b k in
    x.2 ∙ ap pql_again (pql.one_answer text x.0 y.0 x.1 y.1) ∙ sym y.2

one_told_on : (route : Route) (query : Option (List ℕ)) (a b : Option Told) → IsToldOn route query a → IsToldOn route query b → a ≡ b
one_told_on Commands query a b h k = h ∙ sym k
one_told_on Queries None a b h k = h ∙ sym k
one_told_on Queries (Some text) None b h k = absurd h
one_told_on Queries (Some text) (Some a) None h k = absurd k
one_told_on Queries (Some text) (Some a) (Some b) h k = ap Some (one_told_in (is_ast text) text a b h k)
one_told_on (RowsOf e) None a b h k = h ∙ sym k
one_told_on (RowsOf e) (Some text) None b h k = absurd h
one_told_on (RowsOf e) (Some text) (Some a) None h k = absurd k
one_told_on (RowsOf e) (Some text) (Some a) (Some b) h k = ap Some (one_in_ast (spelt.route e) text a b h k)

-- ---- what is asked

same_members : (ms ns : Members) → object ms ≡ object ns → ms ≡ ns
same_members ms ns h = cc

one_question_of : (body : List ℕ) (a b : Option Question) → IsQuestionOfBody body a → IsQuestionOfBody body b → a ≡ b
one_question_of body (Some x) (Some y) (ms, sm, am) (ns, sn, an) =
    sym am ∙ ap (λ m. asked_by_members (members_list m)) (same_members ms ns (one_value 127 body (object ms) (object ns) sm sn)) ∙ an
one_question_of body (Some x) None (ms, sm, am) k = some_none x (sym am ∙ k ms sm)
one_question_of body None (Some y) h (ns, sn, an) = some_none y (sym an ∙ h ns sn)
one_question_of body None None h k = refl

one_question : (posted : Bool) (params : Parameters) (body : List ℕ) (a b : Option Question) → IsQuestionBy posted params body a → IsQuestionBy posted params body b → a ≡ b
one_question true params body a b h k = one_question_of body a b h k
one_question false params body a b h k = h ∙ sym k

-- ---- patterns that were read

parts : {A : Type 0} (x y : A) (xs ys : List A) → x ∷ xs ≡ y ∷ ys → (x ≡ y) × (xs ≡ ys)
parts x y xs ys h = (cc, cc)

flags : (x y : Asked) (xs ys : List Asked) → x ∷ xs ≡ y ∷ ys → x.1 ≡ y.1
flags x y xs ys h = ap (λ (a : Asked). a.1) (parts x y xs ys h).0

apart : (x y : Asked) (xs ys : List Asked) → x.1 ≡ false → y.1 ≡ true → x ∷ xs ≡ y ∷ ys → ⊥
apart x y xs ys unset set h = let same : false ≡ true = sym unset ∙ flags x y xs ys h ∙ set in cc

-- not all were taken where one was refused
not_all : (ps earlier : List Pattern) (text : List ℕ) → taken ps ≡ taken earlier ++ (text, true) ∷ [] → ⊥
not_all [] [] text h = cc
not_all [] (e ∷ earlier) text h = cc
not_all (p ∷ ps) [] text h = apart (p.text, false) (text, true) (taken ps) [] refl refl h
not_all (p ∷ ps) (e ∷ earlier) text h = not_all ps earlier text (parts (p.text, false) (e.text, false) (taken ps) (taken earlier ++ (text, true) ∷ []) h).1

-- the refused one is the same where the same was asked
one_refused : (e f : List Pattern) (p q : Pattern) (l m : List Pattern) → e ++ p ∷ l ≡ f ++ q ∷ m
    → taken e ++ (p.text, true) ∷ [] ≡ taken f ++ (q.text, true) ∷ [] → p ≡ q
one_refused [] [] p q l m h a = (parts p q l m h).0
one_refused [] (y ∷ f) p q l m h a = absurd (apart (y.text, false) (p.text, true) (taken f ++ (q.text, true) ∷ []) [] refl refl (sym a))
one_refused (x ∷ e) [] p q l m h a = absurd (apart (x.text, false) (q.text, true) (taken e ++ (p.text, true) ∷ []) [] refl refl a)
one_refused (x ∷ e) (y ∷ f) p q l m h a =
    one_refused e f p q l m (parts x y (e ++ p ∷ l) (f ++ q ∷ m) h).1
    (parts (x.text, false) (y.text, false) (taken e ++ (p.text, true) ∷ []) (taken f ++ (q.text, true) ∷ []) a).1

one_place : (ps : List Pattern) (asked : List Asked) (place other : List ℕ) → IsFirstRefused ps (Some []) (Some asked) place → IsFirstRefused ps (Some []) (Some asked) other
    → place ≡ other
one_place ps asked place other x y =
    sym x.place_is
    ∙ ap (λ (p : Pattern). p.place) (one_refused x.earlier y.earlier x.pattern y.pattern x.later y.later (sym x.patterns_are ∙ y.patterns_are) (some_is _ _ (sym x.asked ∙ y.asked)))
    ∙ y.place_is

-- ---- the answer

module _ (w : World) (print : OutRows → List ℕ) where
  one_summed : (ends : Bool) (q : Level) (under : List ℕ → Option ParamValue) (sum : Option (List ℕ)) (a b : Answer)
      → IsSummedAnswer w print ends q under sum a → IsSummedAnswer w print ends q under sum b → a ≡ b
  one_summed ends q under (Some place) a b h k = h ∙ sym k
  one_summed ends q under None a b (p, ph, pa) (r, rh, rb) =
      pa ∙ ap (paged_answer w print ends (means w q)) (one_paging (names_of q) under p r ph rh) ∙ sym rb

  one_rows : (ends : Bool) (q : Level) (under : List ℕ → Option ParamValue) (asked : List Asked) (a b : Answer)
      → IsRowsAnswer w print ends q under asked a → IsRowsAnswer w print ends q under asked b → a ≡ b
  one_rows ends q under asked a b (inl h) (inl k) = one_summed ends q under (too_large w q) a b h.1 k.1
  one_rows ends q under asked a b (inl h) (inr (place, first, k)) = absurd (not_all (level_patterns q) first.earlier first.pattern.text (sym h.0 ∙ some_is _ _ first.asked))
  one_rows ends q under asked a b (inr (place, first, h)) (inl k) = absurd (not_all (level_patterns q) first.earlier first.pattern.text (sym k.0 ∙ some_is _ _ first.asked))
  one_rows ends q under asked a b (inr (place, first, h)) (inr (other, second, k)) =
      h ∙ ap (λ p. error ends 400 (refusal_text (BadPattern p))) (one_place (level_patterns q) asked place other first second) ∙ sym k

  one_told : (ends : Bool) (under : List ℕ → Option ParamValue) (told : Option Told) (asked : List Asked) (a b : Answer)
      → IsToldAnswer w print ends under told asked a → IsToldAnswer w print ends under told asked b → a ≡ b
  one_told ends under None asked a b h k = h.1 ∙ sym k.1
  one_told ends under (Some (Err why)) asked a b h k = h.1 ∙ sym k.1
  one_told ends under (Some (Ok q)) asked a b h k = one_rows ends q under asked a b h k

  one_asked : (ends : Bool) (route : Route) (question : Option Question) (asked : List Asked) (a b : Answer)
      → IsQuestionAnswer w print ends route question asked a → IsQuestionAnswer w print ends route question asked b → a ≡ b
  one_asked ends route None asked a b h k = h.1 ∙ sym k.1
  one_asked ends route (Some question) asked a b (t, th, ta) (u, uh, ub) =
      one_told ends question.under t asked a b ta (subst (λ v. IsToldAnswer w print ends question.under v asked b) (one_told_on route question.query u t uh th) ub)

  one_query : (route : Route) (r : Request) (met : Met) (a b : Answer) → IsQueryAnswer w print route r met a → IsQueryAnswer w print route r met b → a ≡ b
  one_query route r met a b (_, (q, qh, qa)) (_, (s, sh, sb)) =
      one_asked r.ends route q met.asked a b qa
      (subst (λ v. IsQuestionAnswer w print r.ends route v met.asked b) (one_question (is_post r.method) (parameters_of (query_of r.target)) r.body s q sh qh) sb)

  one_post : (ends : Bool) (posted : Checked Command) (met : Met) (a b : Answer) → IsPostAnswer ends posted met a → IsPostAnswer ends posted met b → a ≡ b
  one_post ends (Err text) met a b h k = h.1 ∙ sym k.1
  one_post ends (Ok command) met a b (s, sm, sa) (t, tm, tb) = sa ∙ ap (submitted_answer ends) (same_submitted (ap (λ (m : Met). m.submitted) (sym sm ∙ tm))) ∙ sym tb
    where
      same_submitted : ◌≡◌ {A = Option (Command × Submitted)} (Some (command, s)) (Some (command, t)) → s ≡ t
      same_submitted h = ap (λ (p : Command × Submitted). p.1) (some_is (command, s) (command, t) h)

  one_command : (now : ℤ) (r : Request) (met : Met) (a b : Answer) → IsCommandAnswer now r met a → IsCommandAnswer now r met b → a ≡ b
  one_command now r met a b (p, ph, pa) (q, qh, qb) =
      one_post r.ends p met a b pa (subst (λ v. IsPostAnswer r.ends v met b) (one_posted now (parameters_of (query_of r.target)) r.body q p qh ph) qb)

  one_routed : (now : ℤ) (route : Route) (r : Request) (met : Met) (a b : Answer) → IsRouteAnswer w print now route r met a → IsRouteAnswer w print now route r met b → a ≡ b
  one_routed now Commands r met a b h k = one_command now r met a b h k
  one_routed now Queries r met a b h k = one_query Queries r met a b h k
  one_routed now (RowsOf e) r met a b h k = one_query (RowsOf e) r met a b h k

  one_by_method : (now : ℤ) (takes : Bool) (route : Route) (r : Request) (met : Met) (a b : Answer)
      → IsMethodAnswer w print now takes route r met a → IsMethodAnswer w print now takes route r met b → a ≡ b
  one_by_method now true route r met a b h k = one_routed now route r met a b h k
  one_by_method now false route r met a b h k = h.1 ∙ sym k.1

  one_by_path : (now : ℤ) (route : Option Route) (r : Request) (met : Met) (a b : Answer)
      → IsPathAnswer w print now route r met a → IsPathAnswer w print now route r met b → a ≡ b
  one_by_path now None r met a b h k = h.1 ∙ sym k.1
  one_by_path now (Some route) r met a b h k = one_by_method now (takes_method route r.method) route r met a b h k

  pub one_answer : (now : ℤ) (r : Request) (met : Met) (a b : Answer) → IsAnswer w print now r met a → IsAnswer w print now r met b → a ≡ b
  one_answer now r met a b h k = one_by_path now (route_at (path_of r.target)) r met a b h k
