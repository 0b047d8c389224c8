-- What a GET on an entity's route is answered, without parameters.
use Rattle.std.proofs.Common.{◌≡◌, ◌∙◌, ℕ, ℤ, List, [], refl, sym, ap, subst, inl, Bool, true, false, Option, Some, None, Ok, Err}
use Rattle.std.specs.Prelude.{codes, IsTrue, if◌then◌else◌}
use Rattle.form_urlencoded.proofs.OnLiterals.{form_urlencoded_on_literals}
use Rattle.query_answer.specs.fleet_rows.declared.row.Entity.{Entity}
use Rattle.query_answer.specs.fleet_rows.declared.row.Entity.TheVariants.{Nodes, Factsets, Facts, Catalogs, Resources, Edges, Reports, FactContents, Inventory, Events, EventCounts}
use Rattle.query_answer.specs.fleet_rows.declared.settings.Ttls.{Ttls}
use Rattle.query_answer.specs.history_spec.Trace.{Trace}
use Rattle.http_spec.specs.declared.request.Request.{Request}
use Rattle.query_answer.specs.query_spec.Answer.{is_queryable}
use Rattle.query_answer.specs.query_spec.Parts.{unpaged}
use Rattle.paging_params.specs.table_spec.Rows.{active_rows}
use Rattle.paging_params.specs.table_spec.RowsText.{rows_text}
use Rattle.query_answer.specs.declared.refusal.QueryRefusal.TheVariants.{UnknownEntity}
use Rattle.query_answer.specs.means_spec.Means.{selected}
use Rattle.query_answer.specs.means_spec.OutRows.{OutRows, names_of, means, lines_text}
use Rattle.query_answer.specs.means_spec.World.{World, world_of}
use Rattle.query_answer.specs.means_laws.Laws.{whole}
use Rattle.query_answer.proofs.of_means_laws.ActiveRows.{active_rows_are_selected, tied}
use Rattle.routes_spec.specs.declared.route.Route.TheVariants.{RowsOf}
use Rattle.routes_spec.specs.Answers.{nothing_met, done, IsMethodAnswer, IsPathAnswer, IsAnswer}
use Rattle.routes_spec.specs.Parameters.{parameters_of}
use Rattle.routes_spec.specs.Queries.{Question, asked_by_url, IsQuestionBy}
use Rattle.routes_spec.specs.Routes.{route_path, route_at, path_of, query_of, is_post, takes_method}
use Rattle.routes_spec.proofs.RoutePaths.{its_route}

path_is : (e : Entity) → path_of (route_path (RowsOf e)) ≡ route_path (RowsOf e)
path_is Nodes = refl
path_is Factsets = refl
path_is Facts = refl
path_is Catalogs = refl
path_is Resources = refl
path_is Edges = refl
path_is Reports = refl
path_is FactContents = refl
path_is Inventory = refl
path_is Events = refl
path_is EventCounts = refl

no_parameters : (e : Entity) → parameters_of (query_of (route_path (RowsOf e))) ≡ []
unfolding form_urlencoded_on_literals
no_parameters Nodes = refl
no_parameters Factsets = refl
no_parameters Facts = refl
no_parameters Catalogs = refl
no_parameters Resources = refl
no_parameters Edges = refl
no_parameters Reports = refl
no_parameters FactContents = refl
no_parameters Inventory = refl
no_parameters Events = refl
no_parameters EventCounts = refl

chosen : {A : Type 0} (b : Bool) (x y : A) → IsTrue b → (if b then x else y) ≡ x
chosen true x y h = refl
chosen false x y h = absurd (let apart : false ≡ true = h in cc)

module _ (w : World) (print : OutRows → List ℕ) (now : ℤ) (e : Entity) (asked : IsTrue (is_queryable e)) (r : Request) (method : r.method ≡ codes "GET") (target : r.target ≡ route_path (RowsOf e)) where
  asks : IsQuestionBy (is_post r.method) (parameters_of (query_of r.target)) r.body (Some (asked_by_url []))
  asks =
      let none : parameters_of (query_of r.target) ≡ [] = ap (λ t. parameters_of (query_of t)) target ∙ no_parameters e in
      let get : is_post r.method ≡ false = ap is_post method in
      let question : Option Question = Some (asked_by_url []) in
      subst (λ b. IsQuestionBy b (parameters_of (query_of r.target)) r.body question) (sym get) (ap (λ params. Some (asked_by_url params)) (sym none))

  is_shown : IsAnswer w print now r nothing_met (done r.ends None (print (means w (whole e))))
  is_shown =
      let answer = done r.ends None (print (means w (whole e))) in
      let at : route_at (path_of r.target) ≡ Some (RowsOf e) = ap (λ t. route_at (path_of t)) target ∙ ap route_at (path_is e) ∙ its_route (RowsOf e) ∙ chosen (is_queryable e) (Some (RowsOf e)) None asked in
      let takes : takes_method (RowsOf e) r.method ≡ true = ap (takes_method (RowsOf e)) method in
      let shown = ap (λ rows. done r.ends None (print (record { names = names_of (whole e); rows = rows }))) (sym (tied (selected w (whole e)))) in
      subst (λ route. IsPathAnswer w print now route r nothing_met answer) (sym at)
      (subst (λ t. IsMethodAnswer w print now t (RowsOf e) r nothing_met answer) (sym takes)
      (refl, (Some (asked_by_url []), asks, (Some (Ok (whole e)), ap Some (sym (chosen (is_queryable e) (Ok (whole e)) (Err (UnknownEntity [])) asked)), inl (refl, (Ok unpaged, (Some [], refl, refl), shown))))))

pub entity_is_shown : (e : Entity) (ttls : Ttls) (history : Trace) (matches : List ℕ → List ℕ → Bool) (now : ℤ) (r : Request)
    → IsTrue (is_queryable e) → r.method ≡ codes "GET" → r.target ≡ route_path (RowsOf e)
    → IsAnswer (world_of ttls history matches) lines_text now r nothing_met (done r.ends None (rows_text e (active_rows e ttls history)))
entity_is_shown e ttls history matches now r asked method target =
    let w = world_of ttls history matches in
    subst (IsAnswer w lines_text now r nothing_met)
    (ap (λ rows. done r.ends None (lines_text rows)) (active_rows_are_selected e ttls history matches asked))
    (is_shown w lines_text now e asked r method target)
