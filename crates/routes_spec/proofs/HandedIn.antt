-- What is handed in is what a request posts, and each command that one posts is handed in.
use Rattle.std.proofs.Common.{◌≡◌, ◌∙◌, ℕ, ◌<◌, ◌^◌, ℤ, List, [], ◌∷◌, length, refl, sym, ap, subst, arith, Bool, true, false, Option, Some, None, Result, Ok, Err}
use Rattle.std.specs.Prelude.{codes, decimal, nat_lt, if◌then◌else◌}
use Rattle.std.specs.Str.{bytes_eq}
use Rattle.query_answer.proofs.of_plain_laws.Lists.{bytes_eq-itself, one_text}
use Rattle.query_answer.proofs.of_plain_laws.Options.{choose, none_some, some_is, when}
use Rattle.query_answer.specs.fleet_rows.declared.command.Command.{Command}
use Rattle.query_answer.specs.fleet_rows.declared.command.Kind.{Kind}
use Rattle.query_answer.specs.fleet_rows.declared.command.Kind.TheVariants.{Facts, Catalog, Report, Deactivate, Expiration}
use Rattle.http_spec.specs.declared.answer.Answer.{Answer}
use Rattle.http_spec.specs.declared.request.Request.{Request}
use Rattle.query_laws.proofs.Told.{refused}
use Rattle.query_answer.specs.means_spec.OutRows.{OutRows}
use Rattle.query_answer.specs.means_spec.World.{World}
use Rattle.query_answer.specs.spool_spec.Spool.{kind_word}
use Rattle.paging_params.specs.Params.{last_under}
use Rattle.routes_spec.specs.declared.route.Route.{Route}
use Rattle.routes_spec.specs.declared.route.Route.TheVariants.{Commands, Queries, RowsOf}
use Rattle.fleet_rows.specs.declared.submitted.Submitted.{Submitted}
use Rattle.routes_spec.specs.Answers.{Met, submitted_answer, IsPostAnswer, IsRouteAnswer, IsMethodAnswer, IsPathAnswer, IsAnswer}
use Rattle.routes_spec.specs.Commands.{Checked, needed, unless_bad, if_filled, all_kinds, kind_among, kind_named, IsVersion, has_checksum, command, checked_command, IsPosted}
use Rattle.routes_spec.specs.HandedIn.{IsCommandOf, Posts}
use Rattle.routes_spec.specs.Parameters.{Parameters, parameters_of}
use Rattle.routes_spec.specs.Routes.{route_at, path_of, query_of, is_post, takes_method}
use Rattle.routes_spec.proofs.RoutePaths.{its_path, its_route}

-- ---- the words of kinds

named_among : (ks : List Kind) (word : List ℕ) (k : Kind) → kind_among ks word ≡ Some k → word ≡ kind_word k
named_among [] word k h = none_some k h
named_among (j ∷ ks) word k h =
    choose (bytes_eq word (kind_word j)) (Some j) (kind_among ks word) (Some k) (word ≡ kind_word k) h
    (λ same is. subst (λ t. word ≡ kind_word t) (some_is j k is) (one_text word (kind_word j) same))
    (λ other is. named_among ks word k is)

its_word : (word : List ℕ) (k : Kind) → kind_named word ≡ Some k → word ≡ kind_word k
unfolding kind_named
its_word word k h = named_among all_kinds word k h

its_kind : (k : Kind) → kind_named (kind_word k) ≡ Some k
unfolding kind_named
its_kind Facts = refl
its_kind Catalog = refl
its_kind Report = refl
its_kind Deactivate = refl
its_kind Expiration = refl

-- ---- the checks, over what stands under the names

abbrev checks : ℤ → List ℕ → Option (List ℕ) → Option (List ℕ) → Option (List ℕ) → Option ℕ → Bool → Checked Command
checks now body word text name version sum =
    needed (codes "command") word (λ word.
    needed (codes "version") text (λ _.
    needed (codes "certname") name (λ _.
    unless_bad (codes "bad version") version (λ version.
    unless_bad (codes "bad command") (kind_named word) (λ kind.
    if sum then Ok (command kind version now body) else Err (codes "bad checksum"))))))

record Passed (now : ℤ) (body : List ℕ) (word name : Option (List ℕ)) (version : Option ℕ) (sum : Bool) (c : Command) : Type 0 where
  kind : word ≡ Some (kind_word c.kind)
  certname : (text : List ℕ) × (name ≡ Some text)
  number : version ≡ Some c.version
  summed : sum ≡ true
  received : c.received ≡ now
  payload : c.payload ≡ body

ok_is : {A E : Type 0} (x a : A) → ◌≡◌ {A = Result A E} (Ok x) (Ok a) → x ≡ a
ok_is x a h = cc

was_summed : {A : Type 0} (t : Bool) (x a : A) (e : List ℕ) → (if t then Ok x else Err e) ≡ Ok a → (t ≡ true) × (x ≡ a)
was_summed true x a e h = (refl, ok_is x a h)
was_summed false x a e h = refused e a h

passed : (now : ℤ) (body : List ℕ) (c : Command) (word text name : Option (List ℕ)) (version : Option ℕ) (sum : Bool)
    → checks now body word text name version sum ≡ Ok c → Passed now body word name version sum c
passed now body c None text name version sum h = refused _ c h
passed now body c (Some word) None name version sum h = refused _ c h
passed now body c (Some word) (Some text) None version sum h = refused _ c h
passed now body c (Some word) (Some text) (Some name) None sum h = refused _ c h
passed now body c (Some word) (Some text) (Some name) (Some version) sum h = by_kind (kind_named word) refl h
  where
    by_kind : (k : Option Kind) → kind_named word ≡ k
        → unless_bad (codes "bad command") k (λ kind. if sum then Ok (command kind version now body) else Err (codes "bad checksum")) ≡ Ok c
        → Passed now body (Some word) (Some name) (Some version) sum c
    by_kind None is h = refused _ c h
    by_kind (Some kind) is h =
        let good = was_summed sum (command kind version now body) c (codes "bad checksum") h in
        subst (Passed now body (Some word) (Some name) (Some version) sum) good.1
        (record { kind = ap Some (its_word word kind is); certname = (name, refl); number = refl; summed = good.0; received = refl; payload = refl })

-- ---- what is posted

is_some : (n : ℕ) → nat_lt 0 n ≡ true → 0 < n
is_some n h = grind arith

some_is_so : (n : ℕ) → 0 < n → nat_lt 0 n ≡ true
some_is_so n h = grind arith

was_filled : (o : Option (List ℕ)) (name : List ℕ) → if_filled o ≡ Some name → (o ≡ Some name) × (0 < length name)
was_filled None name h = none_some name h
was_filled (Some text) name h =
    let filled = when (nat_lt 0 (length text)) text name h in
    (ap Some filled.1, subst (λ t. 0 < length t) filled.1 (is_some (length text) filled.0))

filled : (o : Option (List ℕ)) (name : List ℕ) → o ≡ Some name → 0 < length name → if_filled o ≡ Some name
filled o name is h = ap if_filled is ∙ ap (λ t. if t then Some name else None) (some_is_so (length name) h)

versioned : (text : Option (List ℕ)) (version : Option ℕ) (n : ℕ) → version ≡ Some n → IsVersion text version → (n < 2 ^ 32) × (text ≡ Some (decimal n))
versioned None version n is h = none_some n (sym h ∙ is)
versioned (Some text) None n is h = none_some n is
versioned (Some text) (Some m) n is h =
    let same = some_is m n is in
    (subst (λ k. k < 2 ^ 32) same h.0, ap Some (h.1 ∙ ap decimal same))

pub as_posted : (now : ℤ) (params : Parameters) (body : List ℕ) (c : Command) → IsPosted now params body (Ok c) → IsCommandOf now params body c
as_posted now params body c (version, is, checked) =
    let name = last_under (codes "certname") params in
    let good =
    passed now body c (last_under (codes "command") params) (last_under (codes "version") params) (if_filled name) version (has_checksum (last_under (codes "checksum") params) body) (sym checked) in
    let number = versioned (last_under (codes "version") params) version c.version good.number is in
    let certname = was_filled name good.certname.0 good.certname.1 in
    record {
      kind = good.kind;
      version = number.1;
      fits = number.0;
      certname = (good.certname.0, certname.0, certname.1);
      checksum = good.summed;
      received = good.received;
      payload = good.payload;
    }

posted_so : (now : ℤ) (params : Parameters) (body : List ℕ) (c : Command) → IsCommandOf now params body c → IsPosted now params body (Ok c)
posted_so now params body c h =
    let name = h.certname.0 in
    let named = filled (last_under (codes "certname") params) name h.certname.1 h.certname.2 in
    let read : checked_command now params body (Some c.version) ≡ checks now body (Some (kind_word c.kind)) (Some (decimal c.version)) (Some name) (Some c.version) true =
    (λ i. checks now body (h.kind i) (h.version i) (named i) (Some c.version) (h.checksum i)) in
    let same : command c.kind c.version now body ≡ c =
    (λ i. record { kind = c.kind; version = c.version; received = sym h.received i; payload = sym h.payload i }) in (
      Some c.version,
      subst (λ t. IsVersion t (Some c.version)) (sym h.version) (h.fits, refl),
      sym (read ∙ ap (λ k. unless_bad (codes "bad command") k (λ kind. Ok (command kind c.version now body))) (its_kind c.kind) ∙ ap Ok same),
    )

-- ---- what a request hands in

nothing : {P : Type 0} (met : Met) (c : Command) (s : Submitted) → met.submitted ≡ None → met.submitted ≡ Some (c, s) → P
nothing met c s none there = none_some (c, s) (sym none ∙ there)

module _ (w : World) (print : OutRows → List ℕ) (now : ℤ) (r : Request) (met : Met) (a : Answer) (c : Command) (s : Submitted) (there : met.submitted ≡ Some (c, s)) where
  posted_hands_in : (posted : Checked Command) → IsPosted now (parameters_of (query_of r.target)) r.body posted → IsPostAnswer r.ends posted met a
      → IsCommandOf now (parameters_of (query_of r.target)) r.body c
  posted_hands_in (Err text) is h = nothing met c s (ap (λ (m : Met). m.submitted) h.0) there
  posted_hands_in (Ok handed) is (t, met_is, h) =
      let both = some_is (handed, t) (c, s) (sym (ap (λ (m : Met). m.submitted) met_is) ∙ there) in
      subst (IsCommandOf now (parameters_of (query_of r.target)) r.body) (ap (λ (p : Command × Submitted). p.0) both)
      (as_posted now (parameters_of (query_of r.target)) r.body handed is)

  routed_hands_in : (route : Route) → route_at (path_of r.target) ≡ Some route → takes_method route r.method ≡ true → IsRouteAnswer w print now route r met a → Posts now r c
  routed_hands_in Commands at takes (posted, is, h) =
      record { path = its_path (path_of r.target) Commands at; method = one_text r.method (codes "POST") takes; is_command = posted_hands_in posted is h }
  routed_hands_in Queries at takes h = nothing met c s h.0 there
  routed_hands_in (RowsOf e) at takes h = nothing met c s h.0 there

  method_hands_in : (takes : Bool) (route : Route) → takes_method route r.method ≡ takes → route_at (path_of r.target) ≡ Some route → IsMethodAnswer w print now takes route r met a
      → Posts now r c
  method_hands_in true route takes at h = routed_hands_in route at takes h
  method_hands_in false route takes at h = nothing met c s (ap (λ (m : Met). m.submitted) h.0) there

  path_hands_in : (route : Option Route) → route_at (path_of r.target) ≡ route → IsPathAnswer w print now route r met a → Posts now r c
  path_hands_in None at h = nothing met c s (ap (λ (m : Met). m.submitted) h.0) there
  path_hands_in (Some route) at h = method_hands_in (takes_method route r.method) route refl at h

pub handed_in_is_posted : (w : World) (print : OutRows → List ℕ) (now : ℤ) (r : Request) (met : Met) (a : Answer) (c : Command) (s : Submitted)
    → IsAnswer w print now r met a → met.submitted ≡ Some (c, s) → Posts now r c
handed_in_is_posted w print now r met a c s h there = path_hands_in w print now r met a c s there (route_at (path_of r.target)) refl h

pub posted_is_handed_in : (w : World) (print : OutRows → List ℕ) (now : ℤ) (r : Request) (c : Command) (s : Submitted)
    → Posts now r c → IsAnswer w print now r (record { submitted = Some (c, s); asked = [] }) (submitted_answer r.ends s)
posted_is_handed_in w print now r c s h =
    let met : Met = record { submitted = Some (c, s); asked = [] } in
    let a = submitted_answer r.ends s in
    let at : route_at (path_of r.target) ≡ Some Commands = ap route_at h.path ∙ its_route Commands in
    let takes : takes_method Commands r.method ≡ true = ap is_post h.method ∙ bytes_eq-itself (codes "POST") in
    subst (λ route. IsPathAnswer w print now route r met a) (sym at)
    (subst (λ t. IsMethodAnswer w print now t Commands r met a) (sym takes)
    (Ok c, posted_so now (parameters_of (query_of r.target)) r.body c h.is_command, (s, refl, refl)))
