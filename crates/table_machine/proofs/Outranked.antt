-- A command that the newest of its kind outranks changes nothing, now and after any further events.
use Rattle.std.proofs.Common.{◌≡◌, ◌≢◌, ◌∙◌, ℕ, ℤ, List, [], ◌∷◌, ◌++◌, refl, sym, ap, arith, Bool, true, false, not, ◌||◌, Option, Some, None, if◌then◌else◌, map, inl, inr}
use Rattle.std.specs.Prelude.{◌<ℤ◌, int_lt}
use Rattle.std.proofs.lemmas.Int.{ints}
use Rattle.std.proofs.lemmas.Cmp.{int_ranked, tied_itself}
use Rattle.std.specs.List.{AllByRecursion}
use Rattle.std.specs.List.Sorted.{IsStrictlySortedBy}
use Rattle.std.specs.declared.cmp.Ordering.{Ordering}
use Rattle.std.specs.declared.cmp.Ordering.TheVariants.{Less, Equal, Greater}
use Rattle.std.specs.Ordering.{is_lt, int_cmp, nat_cmp, ordering_then, match_ordering}
use Rattle.table_spec.specs.text_spec.Compact.{text_cmp}
use Rattle.table_spec.specs.fleet_rows.declared.change.Change.{Change}
use Rattle.table_spec.specs.fleet_rows.declared.change.Change.TheVariants as change
use Rattle.table_spec.specs.fleet_rows.declared.command.Kind.{Kind}
use Rattle.table_spec.specs.fleet_rows.declared.command.Kind.TheVariants as kind
use Rattle.table_spec.specs.fleet_rows.declared.settings.Ttls.{Ttls}
use Rattle.table_spec.specs.fleet_rows.Change.{change_certname, change_stamp, change_kind}
use Rattle.table_spec.specs.fleet_rows.declared.applied.Applied.{Applied}
use Rattle.table_spec.specs.history_spec.Trace.{applied_as, applied, swept, Trace, IsTrace, receipts, is_kind, rank_of}
use Rattle.table_spec.specs.history_spec.Node.{later, greater, newest, is_activity, greatest_activity}
use Rattle.table_spec.specs.history_spec.Report.{is_below}
use Rattle.table_spec.specs.history_spec.Life.{life, is_empty, nodes, greatest_retention}
use Rattle.table_spec.proofs.of_plain_laws.Members.{Among, Among-from_Contains}
use Rattle.history_laws.proofs.NewestIsGreatest.{newest_is_greatest, none_of_kind}
use Rattle.history_laws.proofs.Ranks.{is_kind_from_kind, not_below_further}
use Rattle.history_laws.proofs.SortedTexts.{text_cmp_total}
use Rattle.table_spec.proofs.of_plain_laws.StrictlySorted.{sorted-rest}
use Rattle.history_laws.proofs.TraceLemmas.{nodes_are_strictly_sorted}
use Rattle.table_machine.specs.Places.{put}
use Rattle.table_machine.specs.Table.{node_with, node_of, table_of}
use Rattle.table_machine.specs.Steps.{with_applied, apply, sweep}
use Rattle.table_machine.specs.Laws.{OutrankedCommandsChangeNothing, TablesGoOnAlike, SupersededCommandsSayNothing}
use Rattle.table_machine.proofs.Risen.{below_all}
use Rattle.table_machine.proofs.CommandSteps.{is_there, nodes_put, commands_are_followed}
use Rattle.table_machine.proofs.SweepSteps.{sweeps_are_followed}

-- ---- the greatest activity

stays : (m a : ℤ) → int_lt a m ≡ false → later m (Some a) ≡ Some a
stays m a h = let same : ◌≡◌ {A = ℤ} (if int_lt m a then a else m) a = grind (arith, ints) in ap (λ x. Some x) same

-- there is a greatest, and it isn't before m
record IsReached (m : ℤ) (greatest : Option ℤ) : Type 0 where
  a : ℤ
  is : greatest ≡ Some a
  reached : int_lt a m ≡ false

itself : (m : ℤ) → int_lt m m ≡ false
itself m = grind (arith, ints)

reached_first : (m : ℤ) (o : Option ℤ) → IsReached m (later m o)
reached_first m None = record { a = m; is = refl; reached = itself m }
reached_first m (Some n) = record { a = if int_lt m n then n else m; is = refl; reached = grind (arith, ints) }

reached_on : (m n a : ℤ) → int_lt a m ≡ false → int_lt (if int_lt n a then a else n) m ≡ false
reached_on m n a h = grind (arith, ints)

reached_later : (m n : ℤ) (o : Option ℤ) → IsReached m o → IsReached m (later n o)
reached_later m n o h = record {
  a = if int_lt n h.a then h.a else n;
  is = ap (later n) h.is;
  reached = reached_on m n h.a h.reached;
}

reached_if : (b : Bool) (m n : ℤ) (o : Option ℤ) → IsReached m o → IsReached m (if b then later n o else o)
reached_if true m n o h = reached_later m n o h
reached_if false m n o h = h

activity_reached : (xs : List Applied) (y : Applied) → Among y xs → is_activity y ≡ true → IsReached (change_stamp y.change) (greatest_activity xs)
activity_reached [] y a e = absurd a
activity_reached (x ∷ xs) y (inl same) e = rw same (let active : is_activity x ≡ true = ap is_activity (sym same) ∙ e in rw active (reached_first (change_stamp x.change) (greatest_activity xs)))
activity_reached (x ∷ xs) y (inr a) e = reached_if (is_activity x) (change_stamp y.change) (change_stamp x.change) (greatest_activity xs) (activity_reached xs y a e)

-- ---- what is below in rank has no later stamp

by_order : (m n : ℤ) (o p : Ordering) → int_cmp m n ≡ o → is_lt (ordering_then o p) ≡ true → int_lt n m ≡ false
by_order m n Less p e h = let less : m <ℤ n = int_ranked m n Less (sym e) in grind (arith, ints)
by_order m n Equal p e h = let same : m ≡ n = int_ranked m n Equal (sym e) in rw same (itself n)
by_order m n Greater p e h = absurd (let apart : false ≡ true = h in cc)

not_later : (x y : Applied) → is_below x y ≡ true → int_lt (change_stamp y.change) (change_stamp x.change) ≡ false
not_later x y h = by_order (change_stamp x.change) (change_stamp y.change) (int_cmp (change_stamp x.change) (change_stamp y.change)) (nat_cmp x.receipt y.receipt) refl h

further : (m n a : ℤ) → int_lt a n ≡ false → int_lt n m ≡ false → int_lt a m ≡ false
further m n a h k = grind (arith, ints)

later_stays : (m n : ℤ) (o : Option ℤ) → IsReached n o → int_lt n m ≡ false → later m o ≡ o
later_stays m n o h k = rw h.is (stays m h.a (further m n h.a h.reached k))

-- ---- the node

outranked_stays : (x y : Applied) (o : Option Applied) → o ≡ Some y → is_below x y ≡ true → greater x o ≡ o
outranked_stays x y o e h = ap (greater x) e ∙ ap (λ b. Some (if b then y else x)) h ∙ sym e

second : (a b c : Bool) → b ≡ true → (a || b || c) ≡ true
second true b c h = refl
second false true c h = refl
second false false c h = absurd (let apart : false ≡ true = h in cc)

module _ (ttls : Ttls) (retention : Option ℤ) (certname : List ℕ) (xs : List Applied) (y : Applied) where
  active_stays : (x : Applied) (k : Kind) → newest k xs ≡ Some y → (is_kind k y ≡ true → is_activity y ≡ true) → is_below x y ≡ true → later (change_stamp x.change) (greatest_activity xs) ≡ greatest_activity xs
  active_stays x k e active h =
      let g = newest_is_greatest k xs y e in
      later_stays (change_stamp x.change) (change_stamp y.change) (greatest_activity xs) (activity_reached xs y g.among (active g.kind)) (not_later x y h)

  node_same : (r : ℕ) (at : Option ℤ) (c : Change) → change_kind c ≢ kind.Report → newest (change_kind c) xs ≡ Some y → is_below (applied_as r at c) y ≡ true
      → with_applied ttls retention (applied_as r at c) (node_with ttls retention certname xs) ≡ node_with ttls retention certname xs
  node_same r at (change.Facts c) k e h =
      let x : Applied = applied_as r at (change.Facts c) in
      let active = active_stays x kind.Facts e (λ f. rw f refl) h in
      let facts = outranked_stays x y (newest kind.Facts xs) e h in
      λ i. record (node_with ttls retention certname xs) { active = active i; facts = facts i }
  node_same r at (change.Catalog c) k e h =
      let x : Applied = applied_as r at (change.Catalog c) in
      let active = active_stays x kind.Catalog e (second (is_kind kind.Facts y) (is_kind kind.Catalog y) (is_kind kind.Report y)) h in
      let catalog = outranked_stays x y (newest kind.Catalog xs) e h in
      λ i. record (node_with ttls retention certname xs) { active = active i; catalog = catalog i }
  node_same r at (change.Report c) k e h = absurd (k refl)
  node_same r at (change.Deactivate c) k e h =
      let x : Applied = applied_as r at (change.Deactivate c) in
      λ i. record (node_with ttls retention certname xs) { deactivate = outranked_stays x y (newest kind.Deactivate xs) e h i }
  node_same r at (change.Expiration c) k e h =
      let x : Applied = applied_as r at (change.Expiration c) in
      λ i. record (node_with ttls retention certname xs) { expiration = outranked_stays x y (newest kind.Expiration xs) e h i }

-- ---- the nodes

put_stays_step : (c n : List ℕ) (ns : List (List ℕ)) (p : Ordering) → text_cmp c n ≡ p → IsStrictlySortedBy text_cmp (n ∷ ns) → Among c (n ∷ ns) → (Among c ns → put (text_cmp c) c (λ m. m) ns ≡ ns)
    → match_ordering p (c ∷ n ∷ ns) (n ∷ ns) (n ∷ put (text_cmp c) c (λ m. m) ns) ≡ n ∷ ns
put_stays_step c n ns Less e s a next =
    absurd (let apart : Less ≡ Equal = sym (below_all text_cmp text_cmp_total c n ns e s c a) ∙ tied_itself text_cmp_total c in cc)
put_stays_step c n ns Equal e s a next = refl
put_stays_step c n ns Greater e s (inl same) next =
    absurd (let apart : Greater ≡ Equal = sym e ∙ ap (text_cmp c) (sym same) ∙ tied_itself text_cmp_total c in cc)
put_stays_step c n ns Greater e s (inr a) next = ap (λ ms. n ∷ ms) (next a)

put_stays : (c : List ℕ) (ns : List (List ℕ)) → IsStrictlySortedBy text_cmp ns → Among c ns → put (text_cmp c) c (λ m. m) ns ≡ ns
put_stays c [] s a = absurd a
put_stays c (n ∷ ns) s a = put_stays_step c n ns (text_cmp c n) refl s a (put_stays c ns (sorted-rest text_cmp n ns s))

some_alive : (k : Kind) (xs : List Applied) (y : Applied) → newest k xs ≡ Some y → not (is_empty xs) ≡ true
some_alive k [] y e = absurd (let none : ◌≡◌ {A = Option Applied} None (Some y) = e in cc)
some_alive k (x ∷ xs) y e = refl

by_newest : (ttls : Ttls) (history : Trace) (x y : Applied) → change_kind x.change ≢ kind.Report → newest (change_kind x.change) (life ttls (change_certname x.change) history) ≡ Some y → is_below x y ≡ true → apply x (table_of ttls history) ≡ table_of ttls history
by_newest ttls history x y k e h =
    let c = change_certname x.change in
    let retention = greatest_retention history in
    let ns = nodes ttls history in
    let sorted_nodes = nodes_are_strictly_sorted ttls history in
    let there : Among c ns = is_there ttls history c (some_alive (change_kind x.change) (life ttls c history) y e) in
    let here = node_same ttls retention c (life ttls c history) y x.receipt x.received x.change k e h in
    let put_in = nodes_put ttls retention c (with_applied ttls retention x) (λ n. life ttls n history) (λ n. life ttls n history) (λ n apart. refl) (sym here) ns sorted_nodes (λ none. absurd (none there)) in
    let all = sym put_in ∙ ap (map (node_of ttls history)) (put_stays c ns sorted_nodes there) in
    λ i. record (table_of ttls history) { nodes = all i }

-- what one of the kind outranks the newest of the kind outranks

below_newest : (b : Bool) (x y z : Applied) → is_below x z ≡ b → is_below z y ≡ false → is_below x y ≡ true → is_below x z ≡ true
below_newest true x y z e f h = e
below_newest false x y z e f h = absurd (let apart : true ≡ false = sym h ∙ not_below_further (rank_of x) (rank_of z) (rank_of y) e f in cc)

outranked_step : (o : Option Applied) (k : Kind) (xs : List Applied) (x y : Applied) → newest k xs ≡ o → Among y xs → is_kind k y ≡ true → is_below x y ≡ true → (z : Applied) × (newest k xs ≡ Some z) × (is_below x z ≡ true)
outranked_step None k xs x y e a f h = absurd (let apart : true ≡ false = sym f ∙ none_of_kind k xs e y a in cc)
outranked_step (Some z) k xs x y e a f h = (z, e, below_newest (is_below x z) x y z refl ((newest_is_greatest k xs z e).greatest y a f) h)

pub outranked_commands_change_nothing : OutrankedCommandsChangeNothing
outranked_commands_change_nothing ttls history x y k same a h =
    let xs = life ttls (change_certname x.change) history in
    let found = outranked_step (newest (change_kind x.change) xs) (change_kind x.change) xs x y refl (Among-from_Contains xs y a) (is_kind_from_kind (change_kind x.change) y same) h in
    by_newest ttls history x found.0 k found.1 found.2

-- ---- and after any further events

pub tables_go_on_alike : TablesGoOnAlike
tables_go_on_alike ttls [] history other h k e = e
tables_go_on_alike ttls (applied x ∷ later) history other h k e =
    sym (commands_are_followed ttls x (later ++ history) h) ∙ ap (apply x) (tables_go_on_alike ttls later history other h.4 k.4 e) ∙ commands_are_followed ttls x (later ++ other) k
tables_go_on_alike ttls (swept kinds m ∷ later) history other h k e =
    sym (sweeps_are_followed ttls kinds m (later ++ history)) ∙ ap (sweep kinds m) (tables_go_on_alike ttls later history other h.1 k.1 e) ∙ sweeps_are_followed ttls kinds m (later ++ other)

pub fewer_receipts : (P : ℕ → Type 0) (later earlier : Trace) (x : Applied) → AllByRecursion P (receipts (later ++ applied x ∷ earlier)) → AllByRecursion P (receipts (later ++ earlier))
fewer_receipts P [] earlier x h = h.1
fewer_receipts P (applied z ∷ later) earlier x h = (h.0, fewer_receipts P later earlier x h.1)
fewer_receipts P (swept kinds m ∷ later) earlier x h = fewer_receipts P later earlier x h

pub without : (later earlier : Trace) (x : Applied) → IsTrace (later ++ applied x ∷ earlier) → IsTrace (later ++ earlier)
without [] earlier x h = h.4
without (applied z ∷ later) earlier x h = (h.0, h.1, h.2, fewer_receipts (λ r. r ≢ z.receipt) later earlier x h.3, without later earlier x h.4)
without (swept kinds m ∷ later) earlier x h = (h.0, without later earlier x h.1)

past : (later earlier : Trace) (x : Applied) → IsTrace (later ++ applied x ∷ earlier) → IsTrace (applied x ∷ earlier)
past [] earlier x h = h
past (applied z ∷ later) earlier x h = past later earlier x h.4
past (swept kinds m ∷ later) earlier x h = past later earlier x h.1

pub superseded_commands_say_nothing : SupersededCommandsSayNothing
superseded_commands_say_nothing ttls later earlier x y h k same a below =
    tables_go_on_alike ttls later (applied x ∷ earlier) earlier h (without later earlier x h)
    (sym (commands_are_followed ttls x earlier (past later earlier x h)) ∙ outranked_commands_change_nothing ttls earlier x y k same a below)
