-- Where the sought rows of one node stand: among the rows of its group's nodes, and of all groups.
use Rattle.std.proofs.Common.{◌≡◌, ◌∙◌, ℕ, ℤ, zero, suc, ◌+◌, ◌≤◌, List, [], ◌∷◌, ◌++◌, length, take, drop, map, slice_get, Option, Some, Err, refl, sym, ap, subst, arith, add-one, length-append, Bool, false}
use Rattle.std.specs.List.{AllByRecursion}
use Rattle.std.specs.Ordering.{is_eq}
use Rattle.std.specs.declared.cmp.Ordering.{Ordering}
use Rattle.std.specs.declared.cmp.Ordering.TheVariants.{Less, Greater}
use Rattle.std.proofs.lemmas.Grind.{flat_map-append}
use Rattle.std.proofs.lemmas.List.{take-append-drop, take-map, drop-map}
use Rattle.checkpoint_spec.proofs.ListLaws.{turned_greater}
use Rattle.checkpoint_spec.proofs.of_history_laws.Members.{All-from_Among}
use Rattle.checkpoint_spec.proofs.of_plain_laws.Members.{all_both, all_take}
use Rattle.checkpoint_spec.specs.fleet_rows.declared.row.Entity.{Entity}
use Rattle.checkpoint_spec.specs.fleet_rows.declared.settings.Ttls.{Ttls}
use Rattle.checkpoint_spec.specs.table_machine.Rows.{node_rows}
use Rattle.checkpoint_spec.specs.table_machine.Table as machine
use Rattle.checkpoint_spec.specs.table_spec.Rows.{Cells}
use Rattle.checkpoint_spec.specs.text_spec.Compact.{text_cmp}
use Rattle.kept_nodes.specs.Counted.{none, count_of, limit, AreCountedFrom}
use Rattle.fleet_tables.specs.Groups.{joined, rows_of, AreBelow, AreAbove}
use Rattle.kept_nodes.specs.Kept.{IsNode}
use Rattle.kept_nodes.specs.Owned.{IsOwn}
use Rattle.kept_nodes.specs.Places.{InOrder, IsPlaceOf}
use Rattle.kept_nodes.specs.Seen.{node_seen}
use Rattle.kept_nodes.specs.Spans.{IsSpanOf}
use Rattle.kept_nodes.specs.Wanted.{WantedTexts, has_own, is_of_node}
use Rattle.kept_nodes.specs.declared.node.Node.{Node}
use Rattle.kept_nodes.specs.declared.wanted.Span.{Span}
use Rattle.kept_nodes.proofs.Counting.{before_is}
use Rattle.kept_nodes.proofs.FoundNodes.{at_place}
use Rattle.fleet_tables.proofs.JoinedNodes.{Groups, parted, taken}
use Rattle.kept_nodes.proofs.NodePlaces.{above_first, behind_first}
use Rattle.kept_nodes.proofs.PlaceLaws.{no_span, span_amid}
use Rattle.kept_nodes.proofs.RowCounts.{total_is}
use Rattle.kept_nodes.proofs.SoughtRows.{nodes_fail, own_span, rows_named}

-- ---- nodes of other certnames

abbrev pub AreOthers : List ℕ → List machine.Node → Type 0
AreOthers certname = AllByRecursion (λ node. is_eq (text_cmp node.certname certname) ≡ false)

below_others : (certname : List ℕ) (nodes : List machine.Node) → AreBelow certname nodes → AreOthers certname nodes
below_others certname [] h = tt
below_others certname (n ∷ ns) h = (ap is_eq h.0, below_others certname ns h.1)

above_others : (certname : List ℕ) (nodes : List machine.Node) → AreAbove certname nodes → AreOthers certname nodes
above_others certname [] h = tt
above_others certname (n ∷ ns) h = (ap is_eq h.0, above_others certname ns h.1)

-- the nodes before and behind the one at a place
node_parted : (nodes : List Node) (k : ℕ) (node : Node) → slice_get nodes k ≡ Some node → map node_seen nodes ≡ map node_seen (take k nodes) ++ (node_seen node ∷ map node_seen (drop (suc k) nodes))
node_parted [] k node e = cc
node_parted (n ∷ ns) zero node e = let same : n ≡ node = cc in ap (λ (m : Node). node_seen m ∷ map node_seen ns) same
node_parted (n ∷ ns) (suc k) node e = ap (λ l. node_seen n ∷ l) (node_parted ns k node e)

front_others : (nodes : List Node) (k : ℕ) (node : Node) → InOrder nodes → slice_get nodes k ≡ Some node → AreOthers node.certname (map node_seen (take k nodes))
front_others [] k node s e = cc
front_others (n ∷ ns) zero node s e = tt
front_others (n ∷ ns) (suc k) node s e = (ap is_eq (above_first n node ns s (at_place ns k node e)), front_others ns k node (behind_first n ns s) e)

all_greater : (node : Node) (ns : List Node) → AllByRecursion (λ (m : Node). text_cmp node.certname m.certname ≡ Less) ns → AreOthers node.certname (map node_seen ns)
all_greater node [] h = tt
all_greater node (m ∷ ms) h = (ap is_eq (turned_greater node.certname m.certname h.0), all_greater node ms h.1)

behind_others : (nodes : List Node) (k : ℕ) (node : Node) → InOrder nodes → slice_get nodes k ≡ Some node → AreOthers node.certname (map node_seen (drop (suc k) nodes))
behind_others [] k node s e = cc
behind_others (n ∷ ns) zero node s e =
    let same : n ≡ node = cc in
    subst (λ (m : Node). AreOthers m.certname (map node_seen ns)) same
    (all_greater n ns (All-from_Among (λ (m : Node). text_cmp n.certname m.certname ≡ Less) ns (λ m a. above_first n m ns s a)))
behind_others (n ∷ ns) (suc k) node s e = behind_others ns k node (behind_first n ns s) e

own_at : (nodes : List Node) (k : ℕ) (node : Node) → AllByRecursion IsOwn (map node_seen nodes) → slice_get nodes k ≡ Some node → IsOwn (node_seen node)
own_at [] k node h e = cc
own_at (n ∷ ns) zero node h e = let same : n ≡ node = cc in subst (λ (m : Node). IsOwn (node_seen m)) same h.0
own_at (n ∷ ns) (suc k) node h e = own_at ns k node h.1 e

own_front : (nodes : List Node) (k : ℕ) → AllByRecursion IsOwn (map node_seen nodes) → AllByRecursion IsOwn (map node_seen (take k nodes))
own_front nodes zero h = tt
own_front [] (suc k) h = tt
own_front (n ∷ ns) (suc k) h = (h.0, own_front ns k h.1)

own_behind : (nodes : List Node) (k : ℕ) → AllByRecursion IsOwn (map node_seen nodes) → AllByRecursion IsOwn (map node_seen (drop k nodes))
own_behind nodes zero h = h
own_behind [] (suc k) h = tt
own_behind (n ∷ ns) (suc k) h = own_behind ns k h.1

kept_front : (nodes : List Node) (k : ℕ) → AllByRecursion IsNode nodes → AllByRecursion IsNode (take k nodes)
kept_front nodes k h = all_take IsNode k nodes h

-- ---- the rows of the node at a place

module _ (entity : Entity) (ttls : Ttls) (expiry : Option ℤ) (nodes : List Node) (k : ℕ) (node : Node) (kept : AllByRecursion IsNode nodes) (counted : AreCountedFrom none nodes) (there : slice_get nodes k ≡ Some node) where
  abbrev front : List machine.Node
  front = map node_seen (take k nodes)

  abbrev behind : List machine.Node
  behind = map node_seen (drop (suc k) nodes)

  rows_parted : rows_of entity ttls expiry (map node_seen nodes) ≡ rows_of entity ttls expiry front ++ (node_rows entity ttls expiry (node_seen node) ++ rows_of entity ttls expiry behind)
  rows_parted = ap (rows_of entity ttls expiry) (node_parted nodes k node there) ∙ flat_map-append (node_rows entity ttls expiry) front (node_seen node ∷ behind)

  rows_front : count_of entity node.before ≡ length (rows_of entity ttls expiry front)
  rows_front = ap (count_of entity) (before_is none nodes k node counted there) ∙ total_is ttls expiry entity (take k nodes) (kept_front nodes k kept)

  -- where they stand can be counted
  pub place_fits : (from count : ℕ) → from + count ≤ length (node_rows entity ttls expiry (node_seen node)) → length (rows_of entity ttls expiry (map node_seen nodes)) ≤ limit → count_of entity node.before + from ≤ limit
  place_fits from count h few =
      omega (
        arith,
        h,
        few,
        rows_front,
        ap length rows_parted,
        length-append (rows_of entity ttls expiry front) (node_rows entity ttls expiry (node_seen node) ++ rows_of entity ttls expiry behind),
        length-append (node_rows entity ttls expiry (node_seen node)) (rows_of entity ttls expiry behind),
      )

  pub span_at : (certname : List ℕ) (texts : WantedTexts) (inner outer : Span) → InOrder nodes → AllByRecursion IsOwn (map node_seen nodes) → node.certname ≡ certname
      → IsSpanOf (has_own entity texts) (node_rows entity ttls expiry (node_seen node)) inner → outer.from ≡ count_of entity node.before + inner.from → outer.count ≡ inner.count
      → IsSpanOf (is_of_node entity certname texts) (rows_of entity ttls expiry (map node_seen nodes)) outer
  span_at certname texts inner outer order own named span from count =
      let test = is_of_node entity certname texts in
      let own_rows = subst (λ name. IsSpanOf (is_of_node entity name texts) (node_rows entity ttls expiry (node_seen node)) inner) named
      (own_span entity node.certname texts (node_rows entity ttls expiry (node_seen node)) inner (rows_named ttls expiry entity (node_seen node) (own_at nodes k node own there)) span) in
      subst (λ l. IsSpanOf test l outer) (sym rows_parted)
      (span_amid test (rows_of entity ttls expiry front) (node_rows entity ttls expiry (node_seen node)) (rows_of entity ttls expiry behind) inner outer
      (nodes_fail entity certname texts ttls expiry front (own_front nodes k own) (subst (λ name. AreOthers name front) named (front_others nodes k node order there)))
      (nodes_fail entity certname texts ttls expiry behind (own_behind nodes (suc k) own) (subst (λ name. AreOthers name behind) named (behind_others nodes k node order there)))
      own_rows (from ∙ ap (λ n. n + inner.from) rows_front) count)

-- where the node isn't there, no row is sought
seen_others : (certname : List ℕ) (p : Ordering) (nodes : List Node) → is_eq p ≡ false → AllByRecursion (λ (node : Node). text_cmp node.certname certname ≡ p) nodes → AreOthers certname (map node_seen nodes)
seen_others certname p [] other h = tt
seen_others certname p (n ∷ ns) other h = (ap is_eq h.0 ∙ other, seen_others certname p ns other h.1)

pub absent_span : (entity : Entity) (ttls : Ttls) (expiry : Option ℤ) (nodes : List Node) (k : ℕ) (certname : List ℕ) (texts : WantedTexts) (span : Span) → IsPlaceOf certname nodes (Err k)
    → AllByRecursion IsOwn (map node_seen nodes) → span.from ≡ 0 → span.count ≡ 0 → IsSpanOf (is_of_node entity certname texts) (rows_of entity ttls expiry (map node_seen nodes)) span
absent_span entity ttls expiry nodes k certname texts span place own from count =
    let front = seen_others certname Less (take k nodes) refl place.1 in
    let behind = seen_others certname Greater (drop k nodes) refl place.2 in
    let all : map node_seen nodes ≡ map node_seen (take k nodes) ++ map node_seen (drop k nodes) =
    sym (take-append-drop k (map node_seen nodes)) ∙ (λ i. take-map node_seen k nodes i ++ drop-map node_seen k nodes i) in
    let others : AreOthers certname (map node_seen nodes) =
    subst (AreOthers certname) (sym all) (all_both (λ (node : machine.Node). is_eq (text_cmp node.certname certname) ≡ false) (map node_seen (take k nodes)) (map node_seen (drop k nodes)) front behind) in
    no_span (is_of_node entity certname texts) (rows_of entity ttls expiry (map node_seen nodes)) span (nodes_fail entity certname texts ttls expiry (map node_seen nodes) own others) from count

-- ---- the rows of the group at a place

own_part : (ns part last : List machine.Node) → AllByRecursion IsOwn (ns ++ (part ++ last)) → AllByRecursion IsOwn ns × AllByRecursion IsOwn part × AllByRecursion IsOwn last
own_part [] [] last h = (tt, tt, h)
own_part [] (p ∷ part) last h = let rest = own_part [] part last h.1 in (tt, (h.0, rest.1), rest.2)
own_part (n ∷ ns) part last h = let rest = own_part ns part last h.1 in ((h.0, rest.0), rest.1, rest.2)

module _ (entity : Entity) (groups : Groups) (k : ℕ) (g : List machine.Node) (there : slice_get groups k ≡ Some g) (own : AllByRecursion IsOwn (joined groups)) where
  abbrev before : List machine.Node
  before = joined (take k groups)

  abbrev after : List machine.Node
  after = joined (drop (suc k) groups)

  owns : AllByRecursion IsOwn before × AllByRecursion IsOwn g × AllByRecursion IsOwn after
  owns = own_part before g after (subst (AllByRecursion IsOwn) (parted groups k g there) own)

  pub group_own : AllByRecursion IsOwn g
  group_own = owns.1

  module _ (ttls : Ttls) (expiry : Option ℤ) where
    groups_parted : rows_of entity ttls expiry (joined groups) ≡ rows_of entity ttls expiry before ++ (rows_of entity ttls expiry g ++ rows_of entity ttls expiry after)
    groups_parted =
        ap (rows_of entity ttls expiry) (parted groups k g there) ∙ flat_map-append (node_rows entity ttls expiry) before (g ++ after)
        ∙ ap (λ l. rows_of entity ttls expiry before ++ l) (flat_map-append (node_rows entity ttls expiry) g after)

    pub group_fits : (from count : ℕ) → from + count ≤ length (rows_of entity ttls expiry g) → length (rows_of entity ttls expiry (joined groups)) ≤ limit → length (rows_of entity ttls expiry before) + from ≤ limit
    group_fits from count h few =
        omega (
          arith,
          h,
          few,
          ap length groups_parted,
          length-append (rows_of entity ttls expiry before) (rows_of entity ttls expiry g ++ rows_of entity ttls expiry after),
          length-append (rows_of entity ttls expiry g) (rows_of entity ttls expiry after),
        )

    pub group_span_at : (certname : List ℕ) (texts : WantedTexts) (inner outer : Span) → AreBelow certname before → AreAbove certname (joined (drop (k + 1) groups))
        → IsSpanOf (is_of_node entity certname texts) (rows_of entity ttls expiry g) inner → outer.from ≡ length (rows_of entity ttls expiry before) + inner.from → outer.count ≡ inner.count
        → IsSpanOf (is_of_node entity certname texts) (rows_of entity ttls expiry (joined groups)) outer
    group_span_at certname texts inner outer below above span from count =
        let test = is_of_node entity certname texts in
        let higher : AreAbove certname after = subst (λ i. AreAbove certname (joined (drop i groups))) (add-one k) above in
        subst (λ l. IsSpanOf test l outer) (sym groups_parted)
        (span_amid test (rows_of entity ttls expiry before) (rows_of entity ttls expiry g) (rows_of entity ttls expiry after) inner outer
        (nodes_fail entity certname texts ttls expiry before owns.0 (below_others certname before below)) (nodes_fail entity certname texts ttls expiry after owns.2 (above_others certname after higher)) span from count)

-- ---- the rows of the groups so far

module _ (entity : Entity) (ttls : Ttls) (expiry : Option ℤ) (groups : Groups) (k : ℕ) (g : List machine.Node) (there : slice_get groups k ≡ Some g) where
  pub one_group_more : length (rows_of entity ttls expiry (joined (take (k + 1) groups))) ≡ length (rows_of entity ttls expiry (joined (take k groups))) + length (rows_of entity ttls expiry g)
  one_group_more =
      rw add-one (ap (λ (ns : List machine.Node). length (rows_of entity ttls expiry ns)) (taken groups k g there)
      ∙ ap length (flat_map-append (node_rows entity ttls expiry) (joined (take k groups)) g) ∙ length-append (rows_of entity ttls expiry (joined (take k groups))) (rows_of entity ttls expiry g))

  pub one_group_fits : length (rows_of entity ttls expiry (joined groups)) ≤ limit → length (rows_of entity ttls expiry (joined (take k groups))) + length (rows_of entity ttls expiry g) ≤ limit
  one_group_fits few =
      let before = joined (take k groups) in
      let after = joined (drop (suc k) groups) in
      omega (
        arith,
        few,
        ap (λ (ns : List machine.Node). length (rows_of entity ttls expiry ns)) (parted groups k g there),
        ap length (flat_map-append (node_rows entity ttls expiry) before (g ++ after)),
        length-append (rows_of entity ttls expiry before) (rows_of entity ttls expiry (g ++ after)),
        ap length (flat_map-append (node_rows entity ttls expiry) g after),
        length-append (rows_of entity ttls expiry g) (rows_of entity ttls expiry after),
      )

-- the rows of one group are few, where those of all are
pub group_in_few : (entity : Entity) (ttls : Ttls) (expiry : Option ℤ) (groups : Groups) (k : ℕ) (g : List machine.Node) → slice_get groups k ≡ Some g → length (rows_of entity ttls expiry (joined groups)) ≤ limit
    → length (rows_of entity ttls expiry g) ≤ limit
group_in_few entity ttls expiry groups k g there few = omega (arith, one_group_fits entity ttls expiry groups k g there few)

no_rows : (entity : Entity) (ttls : Ttls) (expiry : Option ℤ) (groups : Groups) → length groups ≡ 0 → rows_of entity ttls expiry (joined groups) ≡ []
no_rows entity ttls expiry [] h = refl
no_rows entity ttls expiry (g ∷ gs) h = absurd (omega (arith, h))

-- without groups nothing is sought
pub no_group_span : (entity : Entity) (ttls : Ttls) (expiry : Option ℤ) (groups : Groups) (test : Cells → Bool) (span : Span) → length groups ≡ 0 → span.from ≡ 0 → span.count ≡ 0
    → IsSpanOf test (rows_of entity ttls expiry (joined groups)) span
no_group_span entity ttls expiry groups test span h from count = subst (λ (l : List Cells). IsSpanOf test l span) (sym (no_rows entity ttls expiry groups h)) (no_span test [] span tt from count)
