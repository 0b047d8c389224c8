-- The walks over nodes and groups that find places: what one step adds to what is done, and takes from what is left.
use Rattle.std.proofs.Common.{◌≡◌, ◌∙◌, ℕ, ℤ, suc, ◌+◌, ◌-◌, ◌<◌, ◌≤◌, List, [], ◌∷◌, ◌++◌, length, drop, get_or, slice_get, Bool, Option, Some, refl, sym, ap, arith, add-one, append_assoc, append-nil, length-append}
use Rattle.std.specs.declared.alloc.Global.{Global}
use Rattle.std.specs.declared.boxed.Box.{Box}
use Rattle.std.proofs.lemmas.Grind.{flat_map-append}
use Rattle.std.proofs.lemmas.List.{drop_all}
use Rattle.std.proofs.lemmas.Option.{slice_get_read}
use Rattle.checkpoint_spec.proofs.of_plain_laws.Lists.{left_at}
use Rattle.checkpoint_spec.specs.fleet_rows.declared.row.Entity.{Entity}
use Rattle.checkpoint_spec.specs.fleet_rows.declared.settings.Ttls.{Ttls}
use Rattle.checkpoint_spec.specs.table_machine.Rows.{node_rows}
use Rattle.checkpoint_spec.specs.table_machine.Table as machine
use Rattle.fleet_tables.specs.Groups.{joined, rows_of}
use Rattle.kept_nodes.specs.Places.{Boxes, seen_in}
use Rattle.kept_nodes.specs.Runs.{number}
use Rattle.kept_nodes.specs.Seen.{node_seen}
use Rattle.kept_nodes.specs.Spans.{neighbours, places_from, IsSpanOf}
use Rattle.kept_nodes.specs.declared.node.Node.{Node}
use Rattle.kept_nodes.specs.declared.wanted.Span.{Span}
use Rattle.fleet_tables.proofs.JoinedNodes.{Groups, dropped}
use Rattle.kept_nodes.proofs.PlaceLaws.{nth_behind, nth_front, nth_neighbour, number_both, places_both, span_many}

-- ---- what is left is the next part, and what is left behind it

pub rows_left : (entity : Entity) (ttls : Ttls) (expiry : Option ℤ) (nodes : Boxes) (k : ℕ) (b : Box Node Global) (node : Node) → k < length nodes → b ≡ get_or nodes k b → node ≡ b.value
    → rows_of entity ttls expiry (seen_in (drop k nodes)) ≡ node_rows entity ttls expiry (node_seen node) ++ rows_of entity ttls expiry (seen_in (drop (k + 1) nodes))
rows_left entity ttls expiry nodes k b node within is value =
    let next : drop k nodes ≡ b ∷ drop (suc k) nodes = left_at nodes k b (slice_get_read nodes (length nodes) k b refl within is) in
    rw add-one (ap (λ (l : Boxes). rows_of entity ttls expiry (seen_in l)) next ∙ ap (λ (n : Node). node_rows entity ttls expiry (node_seen n) ++ rows_of entity ttls expiry (seen_in (drop (suc k) nodes))) (sym value))

-- nothing is left behind the last
pub none_left : (entity : Entity) (ttls : Ttls) (expiry : Option ℤ) (nodes : Boxes) (k : ℕ) → length nodes ≤ k → rows_of entity ttls expiry (seen_in (drop k nodes)) ≡ []
none_left entity ttls expiry nodes k h = ap (λ (l : Boxes). rows_of entity ttls expiry (seen_in l)) (drop_all k nodes h)

pub none_left_joined : (entity : Entity) (ttls : Ttls) (expiry : Option ℤ) (groups : Groups) (k : ℕ) → length groups ≤ k → rows_of entity ttls expiry (joined (drop k groups)) ≡ []
none_left_joined entity ttls expiry groups k h = ap (λ (l : Groups). rows_of entity ttls expiry (joined l)) (drop_all k groups h)

pub rows_left_joined : (entity : Entity) (ttls : Ttls) (expiry : Option ℤ) (groups : Groups) (k : ℕ) (g : List machine.Node) → slice_get groups k ≡ Some g
    → rows_of entity ttls expiry (joined (drop k groups)) ≡ rows_of entity ttls expiry g ++ rows_of entity ttls expiry (joined (drop (k + 1) groups))
rows_left_joined entity ttls expiry groups k g there =
    rw add-one (ap (rows_of entity ttls expiry) (dropped groups k g there) ∙ flat_map-append (node_rows entity ttls expiry) g (joined (drop (suc k) groups)))

-- ---- one part more, of a list whose rows stand from k on

module _ {A : Type 0} (test : A → Bool) (k : ℕ) (left own rest : List A) (parts : left ≡ own ++ rest) where
  -- its places are appended
  pub push_step : (next : ℕ) (old pushed whole : List ℕ) → pushed ≡ old ++ places_from k test own → next ≡ k + length own → old ++ places_from k test left ≡ whole → pushed ++ places_from next test rest ≡ whole
  push_step next old pushed whole e n done =
      (λ i. e i ++ places_from (n i) test rest) ∙ append_assoc old (places_from k test own) (places_from (k + length own) test rest)
      ∙ ap (λ l. old ++ l) (sym (places_both test k own rest)) ∙ ap (λ l. old ++ places_from k test l) (sym parts) ∙ done

  -- the places go on behind it
  pub long_step : (next most : ℕ) → next ≡ k + length own → k + length left ≡ most → next + length rest ≡ most
  long_step next most n h = omega (arith, n, h, ap length parts, length-append own rest)

  pub fits_step : (most : ℕ) → k + length left ≡ most → k + length own ≤ most
  fits_step most h = omega (arith, h, ap length parts, length-append own rest)

  -- its rows are counted
  pub count_step : (count next all : ℕ) → next ≡ count + number test own → count + number test left ≡ all → next + number test rest ≡ all
  count_step count next all n h = omega (arith, n, h, ap (number test) parts, number_both test own rest)

  pub count_fits : (count all : ℕ) → count + number test left ≡ all → count + number test own ≤ all
  count_fits count all h = omega (arith, h, ap (number test) parts, number_both test own rest)

  -- place i is among its places
  pub here_step : (i place : ℕ) → slice_get (places_from k test own) i ≡ Some place → slice_get (places_from k test left) i ≡ Some place
  here_step i place e = ap (λ l. slice_get (places_from k test l) i) parts ∙ nth_front test k own rest i place e

  -- or behind them
  pub behind_step : (next i j : ℕ) (found : Option ℕ) → next ≡ k + length own → i ≡ number test own + j → found ≡ slice_get (places_from k test left) i → found ≡ slice_get (places_from next test rest) j
  behind_step next i j found n e h =
      h ∙ ap (λ l. slice_get (places_from k test l) i) parts ∙ nth_behind test k own rest i j e ∙ ap (λ m. slice_get (places_from m test rest) j) (sym n)

  pub left_step : (i j all whole : ℕ) → i ≡ number test own + j → all + number test left ≡ i + whole → all + number test rest ≡ j + whole
  left_step i j all whole e h = omega (arith, e, h, ap (number test) parts, number_both test own rest)

-- one neighbour more
pub next_neighbour : (places pushed : List ℕ) (place to : ℕ) → place < to → pushed ≡ places ++ (place ∷ []) → pushed ++ neighbours (place + 1) (to - (place + 1)) ≡ places ++ neighbours place (to - place)
next_neighbour places pushed place to less e =
    let many : suc (to - (place + 1)) ≡ to - place = omega (arith, less) in
    ap (λ l. l ++ neighbours (place + 1) (to - (place + 1))) e ∙ append_assoc places (place ∷ []) (neighbours (place + 1) (to - (place + 1)))
    ∙ ap (λ n. places ++ (place ∷ neighbours n (to - (place + 1)))) (add-one place) ∙ ap (λ n. places ++ neighbours place n) many

pub no_neighbour : (pushed whole : List ℕ) (place to : ℕ) → to ≤ place → pushed ++ neighbours place (to - place) ≡ whole → pushed ≡ whole
no_neighbour pushed whole place to h done =
    let none : 0 ≡ to - place = omega (arith, h) in sym (append-nil pushed) ∙ ap (λ n. pushed ++ neighbours place n) none ∙ done

-- the places of a span
module _ {A : Type 0} (test : A → Bool) (own : List A) (span : Span) (h : IsSpanOf test own span) (k : ℕ) where
  pub span_pushed : (old pushed : List ℕ) (outer : Span) → pushed ≡ old ++ neighbours outer.from outer.count → outer.from ≡ k + span.from → outer.count ≡ span.count → pushed ≡ old ++ places_from k test own
  span_pushed old pushed outer e from count = e ∙ ap (λ l. old ++ l) ((λ i. neighbours (from i) (count i)) ∙ sym (h.0 k))

  pub span_nth : (i : ℕ) → i < span.count → slice_get (places_from k test own) i ≡ Some ((k + span.from) + i)
  span_nth i less = ap (λ l. slice_get l i) (h.0 k) ∙ nth_neighbour (k + span.from) span.count i less

  pub span_number : number test own ≡ span.count
  span_number = span_many test own span h

-- ---- at the end nothing is left

module _ {A : Type 0} (test : A → Bool) (left : List A) (none : left ≡ []) where
  pub all_pushed : (k : ℕ) (pushed whole : List ℕ) → pushed ++ places_from k test left ≡ whole → pushed ≡ whole
  all_pushed k pushed whole done = sym (append-nil pushed) ∙ ap (λ l. pushed ++ places_from k test l) (sym none) ∙ done

  pub all_counted : (count all : ℕ) → count + number test left ≡ all → count ≡ all
  all_counted count all done = omega (arith, done, ap (number test) none)

  pub all_passed : (i rest all : ℕ) → i + number test left ≡ rest + all → i ≡ all + rest
  all_passed i rest all done = omega (arith, done, ap (number test) none)
