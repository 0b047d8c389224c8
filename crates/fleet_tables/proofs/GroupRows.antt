-- The rows of groups: how many, and where they stand.
use Rattle.std.proofs.Common.{◌≡◌, ◌∙◌, ℕ, ℤ, zero, suc, ◌+◌, ◌-◌, ◌<◌, ◌≤◌, List, [], ◌∷◌, ◌++◌, length, take, drop, slice_get, Option, Some, None, refl, sym, ap, subst, arith, append_assoc, add-one, length-append}
use Rattle.std.specs.List.{flat_map}
use Rattle.std.proofs.Math.ListN.{set}
use Rattle.std.proofs.lemmas.Grind.{flat_map-append}
use Rattle.std.proofs.lemmas.List.{drop_all}
use Rattle.std.proofs.lemmas.Option.{slice_get_within}
use Rattle.checkpoint_spec.proofs.of_plain_laws.Lists.{get_left}
use Rattle.checkpoint_spec.specs.fleet_rows.Defaults.{default_ttls}
use Rattle.checkpoint_spec.specs.fleet_rows.declared.row.Entity.{Entity}
use Rattle.checkpoint_spec.specs.fleet_rows.declared.row.Entity.TheVariants.{Nodes, Factsets, Facts, Catalogs, Resources, Edges, Reports}
use Rattle.checkpoint_spec.specs.fleet_rows.declared.settings.Ttls.{Ttls}
use Rattle.checkpoint_spec.specs.table_machine.Rows.{node_rows}
use Rattle.checkpoint_spec.specs.table_machine.Table.{Node}
use Rattle.kept_nodes.specs.Counted.{plus, less, counts, count_of, IsWithin, IsPart}
use Rattle.kept_nodes.specs.Kept.{IsNode}
use Rattle.kept_nodes.specs.Seen.{node_seen}
use Rattle.kept_nodes.specs.declared.node.Node as kept
use Rattle.fleet_tables.specs.Groups.{joined, rows_of, AreCountsOf, AreFew, IsRowOf}
use Rattle.kept_nodes.specs.declared.counts.Counts.{Counts}
use Rattle.kept_nodes.proofs.Counting.{count-plus}
use Rattle.fleet_tables.proofs.JoinedNodes.{Groups, parted, parted_set, dropped, taken}
use Rattle.fleet_tables.proofs.RowBounds.{counts_joined, few_part, few_counted}
use Rattle.kept_nodes.proofs.RowCounts.{node_count}
use Rattle.kept_nodes.proofs.RowPlaces.{get_right}

-- ---- one group more is counted

module _ (groups : Groups) (k : ℕ) (g : List Node) (there : slice_get groups k ≡ Some g) (a b : Counts)
    (before : AreCountsOf a (joined (take k groups))) (here : AreCountsOf b g) where
  more : joined (take (k + 1) groups) ≡ joined (take k groups) ++ g
  more = ap (λ j. joined (take j groups)) (add-one k) ∙ taken groups k g there

  pub counted_more : AreCountsOf (plus a b) (joined (take (k + 1) groups))
  counted_more = subst (AreCountsOf (plus a b)) (sym more) (counts_joined a b (joined (take k groups)) g before here)

  pub within_more : AreFew (joined groups) → IsWithin (plus a b)
  within_more few =
      let front = joined (take k groups) ++ g in
      let all : joined groups ≡ front ++ joined (drop (suc k) groups) =
      parted groups k g there ∙ sym (append_assoc (joined (take k groups)) g (joined (drop (suc k) groups))) in
      few_counted (plus a b) front (counts_joined a b (joined (take k groups)) g before here) (few_part [] front (joined (drop (suc k) groups)) (subst AreFew all few))

-- ---- one group is changed, and counted with the others

count-less : (entity : Entity) (a b : Counts) → count_of entity b ≤ count_of entity a → count_of entity (less a b) + count_of entity b ≡ count_of entity a
count-less Nodes a b h = omega (arith, h)
count-less Factsets a b h = omega (arith, h)
count-less Facts a b h = omega (arith, h)
count-less Catalogs a b h = omega (arith, h)
count-less Resources a b h = omega (arith, h)
count-less Edges a b h = omega (arith, h)
count-less Reports a b h = omega (arith, h)
count-less _ a b h = refl

rows_parted : (entity : Entity) (ttls : Ttls) (expiry : Option ℤ) (front part behind : List Node)
    → length (rows_of entity ttls expiry (front ++ (part ++ behind))) ≡ length (rows_of entity ttls expiry front) + (length (rows_of entity ttls expiry part) + length (rows_of entity ttls expiry behind))
rows_parted entity ttls expiry front part behind =
    let f = node_rows entity ttls expiry in
    omega (
      arith,
      ap length (flat_map-append f front (part ++ behind)),
      length-append (flat_map f front) (flat_map f (part ++ behind)),
      ap length (flat_map-append f part behind),
      length-append (flat_map f part) (flat_map f behind),
    )

module _ (groups : Groups) (k : ℕ) (g : List Node) (there : slice_get groups k ≡ Some g) (a b : Counts) (all : AreCountsOf a (joined groups)) (here : AreCountsOf b g) where
  no_more : (entity : Entity) → count_of entity b ≤ count_of entity a
  no_more entity =
      let front = joined (take k groups) in
      let behind = joined (drop (suc k) groups) in
      omega (
        arith,
        all entity default_ttls None,
        here entity default_ttls None,
        ap (λ (ns : List Node). length (rows_of entity default_ttls None ns)) (parted groups k g there),
        rows_parted entity default_ttls None front g behind,
      )

  pub is_part : IsPart b a
  is_part = (no_more Factsets, no_more Facts, no_more Catalogs, no_more Resources, no_more Edges, no_more Reports, no_more Nodes)

  module _ (others d : Counts) (new : List Node) (rest : others ≡ less a b) (within : k < length groups) (then : AreCountsOf d new) where
    pub counted_anew : AreCountsOf (plus others d) (joined (set groups k new))
    counted_anew = λ entity ttls expiry.
        let front = joined (take k groups) in
        let behind = joined (drop (suc k) groups) in
        omega (
          arith,
          count-plus entity others d,
          ap (count_of entity) rest,
          count-less entity a b (no_more entity),
          all entity ttls expiry,
          here entity ttls expiry,
          then entity ttls expiry,
          ap (λ (ns : List Node). length (rows_of entity ttls expiry ns)) (parted groups k g there),
          rows_parted entity ttls expiry front g behind,
          ap (λ (ns : List Node). length (rows_of entity ttls expiry ns)) (parted_set groups k new within),
          rows_parted entity ttls expiry front new behind,
        )

    pub within_anew : AreFew (joined (set groups k new)) → IsWithin (plus others d)
    within_anew few = few_counted (plus others d) (joined (set groups k new)) counted_anew few

-- ---- a row of the groups that are left is one of the next group, or of those behind it

module _ (entity : Entity) (nodes : List Node) (i : ℕ) (groups : Groups) (k j count : ℕ) (g : List Node) (there : slice_get groups k ≡ Some g)
    (counted : (ttls : Ttls) (expiry : Option ℤ) → count ≡ length (rows_of entity ttls expiry g)) (left : IsRowOf entity nodes i (joined (drop k groups)) j) where
  abbrev rest : List Node
  rest = joined (drop (suc k) groups)

  parts : (ttls : Ttls) (expiry : Option ℤ) → rows_of entity ttls expiry (joined (drop k groups)) ≡ rows_of entity ttls expiry g ++ rows_of entity ttls expiry rest
  parts ttls expiry = ap (flat_map (node_rows entity ttls expiry)) (dropped groups k g there) ∙ flat_map-append (node_rows entity ttls expiry) g rest

  pub row_here : j < count → IsRowOf entity nodes i g j
  row_here h = λ ttls expiry.
      let within : j < length (rows_of entity ttls expiry g) = omega (arith, h, counted ttls expiry) in
      let f = rows_of entity ttls expiry in
      let long = ap length (parts ttls expiry) ∙ length-append (f g) (f rest) in (
        within,
        (left ttls expiry).1 ∙ ap (λ l. slice_get l j) (parts ttls expiry) ∙ get_left (f g) (f rest) j within,
        λ d lt. (left ttls expiry).2 d (omega (arith, lt, long)) ∙ ap (λ l. slice_get l (j + d)) (parts ttls expiry) ∙ get_left (f g) (f rest) (j + d) lt,
      )

  row_rest : count ≤ j → IsRowOf entity nodes i rest (j - count)
  row_rest h = λ ttls expiry.
      let f = rows_of entity ttls expiry in
      let place : j ≡ length (f g) + (j - count) = omega (arith, h, counted ttls expiry) in (
        omega (arith, h, counted ttls expiry, (left ttls expiry).0, ap length (parts ttls expiry), length-append (f g) (f rest)),
        (left ttls expiry).1 ∙ ap (λ l. slice_get l j) (parts ttls expiry) ∙ get_right (f g) (f rest) j (j - count) place,
        λ d lt.
            let further : j + d ≡ length (f g) + ((j - count) + d) = omega (arith, h, counted ttls expiry) in
            (left ttls expiry).2 d (omega (arith, h, lt, counted ttls expiry, ap length (parts ttls expiry), length-append (f g) (f rest)))
            ∙ ap (λ l. slice_get l (j + d)) (parts ttls expiry)
            ∙ get_right (f g) (f rest) (j + d) ((j - count) + d) further,
      )

  pub row_behind : count ≤ j → IsRowOf entity nodes i (joined (drop (k + 1) groups)) (j - count)
  row_behind h = subst (λ m. IsRowOf entity nodes i (joined (drop m groups)) (j - count)) (sym (add-one k)) (row_rest h)

pub no_row : (entity : Entity) (nodes : List Node) (i : ℕ) (groups : Groups) (k j : ℕ) → length groups ≤ k → IsRowOf entity nodes i (joined (drop k groups)) j → ⊥
no_row entity nodes i groups k j h row =
    let none : joined (drop k groups) ≡ [] = ap joined (drop_all k groups h) in
    omega (arith, (row default_ttls None).0, ap (λ (ns : List Node). length (rows_of entity default_ttls None ns)) none)

-- ---- the rows behind a row

-- what is there in one list is there in the other
there_too : {X : Type 0} (xs ys : List X) (i j : ℕ) → slice_get xs i ≡ slice_get ys j → j < length ys → i < length xs
there_too xs [] i j e h = absurd (omega (arith, h))
there_too xs (y ∷ ys) i zero e h = slice_get_within xs i y e
there_too xs (y ∷ ys) i (suc j) e h = there_too xs ys i j e (omega (arith, h))

-- where row j of a part is row k of a node, the node's further rows are those of all nodes
pub further_rows : (entity : Entity) (nodes part : List Node) (i j k : ℕ) (node : kept.Node) → IsRowOf entity nodes i part j → IsNode node
    → ((ttls : Ttls) (expiry : Option ℤ) (d : ℕ) → k + d < count_of entity (counts node) → slice_get (rows_of entity ttls expiry part) (j + d) ≡ slice_get (node_rows entity ttls expiry (node_seen node)) (k + d))
    → (ttls : Ttls) (expiry : Option ℤ) (d : ℕ) → k + d < count_of entity (counts node) → slice_get (rows_of entity ttls expiry nodes) (i + d) ≡ slice_get (node_rows entity ttls expiry (node_seen node)) (k + d)
further_rows entity nodes part i j k node row kept own ttls expiry d lt =
    let here = own ttls expiry d lt in
    let number = node_count ttls expiry entity node kept in
    let inside : k + d < length (node_rows entity ttls expiry (node_seen node)) = omega (arith, lt, number) in
    let within = there_too (rows_of entity ttls expiry part) (node_rows entity ttls expiry (node_seen node)) (j + d) (k + d) here inside in
    (row ttls expiry).2 d within ∙ here
