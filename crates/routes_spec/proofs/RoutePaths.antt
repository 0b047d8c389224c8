-- Routes and their paths.
use Rattle.std.proofs.Common.{◌≡◌, ℕ, List, [], ◌∷◌, refl, subst, Some, None}
use Rattle.std.specs.Prelude.{if◌then◌else◌}
use Rattle.std.specs.Str.{bytes_eq}
use Rattle.query_answer.proofs.of_plain_laws.Lists.{one_text}
use Rattle.query_answer.proofs.of_plain_laws.Options.{choose, none_some, some_is}
use Rattle.query_answer.specs.fleet_rows.declared.row.Entity.TheVariants.{Nodes, Factsets, Facts, Catalogs, Resources, Edges, Reports, FactContents, Inventory, Events, EventCounts}
use Rattle.routes_spec.specs.declared.route.Route.{Route}
use Rattle.routes_spec.specs.declared.route.Route.TheVariants.{Commands, Queries, RowsOf}
use Rattle.routes_spec.specs.Routes.{route_path, is_route, route_among, route_at, all_routes}

path_among : (rs : List Route) (path : List ℕ) (r : Route) → route_among rs path ≡ Some r → path ≡ route_path r
path_among [] path r h = none_some r h
path_among (s ∷ rs) path r h =
    choose (bytes_eq path (route_path s)) (Some s) (route_among rs path) (Some r) (path ≡ route_path r) h
    (λ same is. subst (λ t. path ≡ route_path t) (some_is s r is) (one_text path (route_path s) same))
    (λ other is. path_among rs path r is)

pub its_path : (path : List ℕ) (r : Route) → route_at path ≡ Some r → path ≡ route_path r
unfolding route_at
its_path path r h = path_among all_routes path r h

pub its_route : (r : Route) → route_at (route_path r) ≡ (if is_route r then Some r else None)
unfolding route_at
its_route Commands = refl
its_route Queries = refl
its_route (RowsOf Nodes) = refl
its_route (RowsOf Factsets) = refl
its_route (RowsOf Facts) = refl
its_route (RowsOf Catalogs) = refl
its_route (RowsOf Resources) = refl
its_route (RowsOf Edges) = refl
its_route (RowsOf Reports) = refl
its_route (RowsOf FactContents) = refl
its_route (RowsOf Inventory) = refl
its_route (RowsOf Events) = refl
its_route (RowsOf EventCounts) = refl
