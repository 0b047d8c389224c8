-- The routes of the service, after PuppetDB's command endpoint (v1) and query endpoints (v4).
use Rattle.std.specs.Prelude.{ℕ, ◌==◌, Bool, true, ◌||◌, if◌then◌else◌, List, [], ◌∷◌, ◌++◌, map, codes, Option, Some, None}
use Rattle.std.specs.Str.{bytes_eq}
use Rattle.form_urlencoded.specs.Form.{split_once}
use Rattle.query_answer.specs.fleet_rows.declared.row.Entity.TheVariants.{Nodes, Factsets, Facts, Catalogs, Resources, Edges, Reports}
use Rattle.query_answer.specs.query_spec.Answer.{entity_name, is_queryable}
use Rattle.routes_spec.specs.declared.route.Route.{Route}
use Rattle.routes_spec.specs.declared.route.Route.TheVariants.{Commands, Queries, RowsOf}

-- `-` for each `_` of an entity's name
abbrev pub dashed : ℕ → ℕ
dashed c = if c == 95 then 45 else c

abbrev pub route_path : Route → List ℕ
route_path Commands = codes "/pdb/cmd/v1"
route_path Queries = codes "/pdb/query/v4"
route_path (RowsOf e) = codes "/pdb/query/v4/" ++ map dashed (entity_name e)

abbrev pub all_routes : List Route
all_routes =
    Commands ∷ Queries ∷ RowsOf Nodes ∷ RowsOf Factsets ∷ RowsOf Facts ∷ RowsOf Catalogs ∷ RowsOf Resources ∷ RowsOf Edges
    ∷ RowsOf Reports ∷ []

-- the routes that requests may use
abbrev pub is_route : Route → Bool
is_route (RowsOf e) = is_queryable e
is_route _ = true

-- the first of these routes with this path
abbrev pub route_among : List Route → List ℕ → Option Route
route_among [] path = None
route_among (r ∷ rs) path = if bytes_eq path (route_path r) then Some r else route_among rs path

unfoldable pub route_at : List ℕ → Option Route
route_at path = route_among all_routes path

-- the part of a request's target before the first `?`, and the part after it
abbrev pub path_of : List ℕ → List ℕ
path_of target = (split_once 63 target).0

abbrev pub query_of : List ℕ → List ℕ
query_of target = (split_once 63 target).1

-- the methods that a route allows
abbrev pub is_post : List ℕ → Bool
is_post method = bytes_eq method (codes "POST")

abbrev pub is_get : List ℕ → Bool
is_get method = bytes_eq method (codes "GET")

abbrev pub takes_method : Route → List ℕ → Bool
takes_method Commands method = is_post method
takes_method Queries method = is_get method || is_post method
takes_method (RowsOf e) method = is_get method || is_post method
