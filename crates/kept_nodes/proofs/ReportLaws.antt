-- The reports of a node: their order, their places and the latest.
use Rattle.std.proofs.Common.{◌≡◌, ◌∙◌, ℕ, zero, suc, ◌<◌, ◌≤◌, ◌+◌, List, [], ◌∷◌, length, get_or, set, drop, map, refl, sym, ap, subst, arith, Bool, true, false, cond, Option, Some, None, Ok, Err, if◌then◌else◌, ℤ, lit≤}
use Rattle.std.specs.List.{insert, filter, AllByRecursion, Contains}
use Rattle.std.specs.List.Sorted.{IsStrictlySortedBy}
use Rattle.std.specs.Ordering.{ordering_index}
use Rattle.std.specs.declared.cmp.Ordering.{Ordering}
use Rattle.std.specs.declared.cmp.Ordering.TheVariants.{Less, Equal, Greater}
use Rattle.std.proofs.lemmas.Cmp.{tied_itself, tied_back}
use Rattle.std.proofs.lemmas.List.{map-set, get_or-map, set-get_or, at_drop_more}
use Rattle.std.proofs.lemmas.Option.{get_or_from_slice_get, slice_get_read}
use Rattle.std.proofs.lemmas.List.Elements.{filter_agree}
use Rattle.std.proofs.lemmas.List.Kept.{IsStrictlySortedBy-filter}
use Rattle.checkpoint_spec.specs.fleet_rows.declared.settings.Ttls.{Ttls}
use Rattle.checkpoint_spec.specs.fleet_rows.declared.command.Kind.TheVariants as kind
use Rattle.checkpoint_spec.specs.fleet_rows.declared.applied.Applied.{Applied}
use Rattle.checkpoint_spec.specs.fleet_rows.declared.change.Change.TheVariants as changes
use Rattle.checkpoint_spec.specs.fleet_rows.declared.change.ReportChange.{ReportChange}
use Rattle.checkpoint_spec.specs.history_spec.Trace.{applied_as, rank_of}
use Rattle.checkpoint_spec.specs.history_spec.Node.{greater, newest}
use Rattle.checkpoint_spec.specs.history_spec.Report.{is_retained, is_below}
use Rattle.checkpoint_spec.proofs.of_history_laws.Limits.{below_on}
use Rattle.checkpoint_spec.proofs.of_history_laws.Ranks.{not_below_further}
use Rattle.checkpoint_spec.specs.table_spec.Sorted.{report_cmp}
use Rattle.checkpoint_spec.specs.table_machine.Steps.{put_report, of_greater_rank}
use Rattle.checkpoint_spec.proofs.of_table_machine.Risen.{sorted-put}
use Rattle.checkpoint_spec.proofs.of_table_machine.ReportOrder.{report_cmp_total}
use Rattle.kept_nodes.specs.declared.kept.Report.{Report}
use Rattle.kept_nodes.specs.Seen.{report_seen, is_retained_at}
use Rattle.kept_nodes.specs.Kept.{IsReport}
use Rattle.kept_nodes.specs.ReportPlaces.{change_cmp, IsReportPlace, IsPlaceAmong}
use Rattle.kept_nodes.proofs.NodeLaws.{retained_is}
use Rattle.kept_nodes.proofs.Placed.{put-found, put-gap, searchable}

-- ---- each

module _ {X : Type 0} (P : X → Type 0) where
  pub each-at : (xs : List X) (at : ℕ) (d : X) → at < length xs → AllByRecursion P xs → P (get_or xs at d)
  each-at [] at d h all = absurd (omega (arith, h))
  each-at (x ∷ xs) zero d h all = all.0
  each-at (x ∷ xs) (suc k) d h all = each-at xs k d (omega (arith, h)) all.1

  pub each-set : (xs : List X) (at : ℕ) (y : X) → P y → AllByRecursion P xs → AllByRecursion P (set xs at y)
  each-set [] at y h all = tt
  each-set (x ∷ xs) zero y h all = (h, all.1)
  each-set (x ∷ xs) (suc k) y h all = (all.0, each-set xs k y h all.1)

  pub each-insert : (xs : List X) (at : ℕ) (y : X) → P y → AllByRecursion P xs → AllByRecursion P (insert xs at y)
  each-insert xs zero y h all = (h, all)
  each-insert [] (suc k) y h all = (h, tt)
  each-insert (x ∷ xs) (suc k) y h all = (all.0, each-insert xs k y h all.1)

  kept_if : (b : Bool) (x : X) (xs : List X) → P x → AllByRecursion P xs → AllByRecursion P (cond b (x ∷ xs) xs)
  kept_if true x xs h all = (h, all)
  kept_if false x xs h all = all

  pub each-filter : (test : X → Bool) (xs : List X) → AllByRecursion P xs → AllByRecursion P (filter test xs)
  each-filter test [] all = tt
  each-filter test (x ∷ xs) all = kept_if (test x) x (filter test xs) all.0 (each-filter test xs all.1)

pub map-insert : {X Y : Type 0} (f : X → Y) (xs : List X) (at : ℕ) (y : X) → map f (insert xs at y) ≡ insert (map f xs) at (f y)
map-insert f xs zero y = refl
map-insert f [] (suc k) y = refl
map-insert f (x ∷ xs) (suc k) y = ap (λ ws. f x ∷ ws) (map-insert f xs k y)

map_if : {X Y : Type 0} (f : X → Y) (b : Bool) (x : X) (xs : List X) (ys : List Y) → map f xs ≡ ys → map f (cond b (x ∷ xs) xs) ≡ cond b (f x ∷ ys) ys
map_if f true x xs ys h = ap (λ ws. f x ∷ ws) h
map_if f false x xs ys h = h

pub map-filter : {X Y : Type 0} (f : X → Y) (test : Y → Bool) (xs : List X) → map f (filter (λ x. test (f x)) xs) ≡ filter test (map f xs)
map-filter f test [] = refl
map-filter f test (x ∷ xs) = map_if f (test (f x)) x (filter (λ x. test (f x)) xs) (filter test (map f xs)) (map-filter f test xs)

-- ---- the place of a report

-- what holds of each report's command holds of the list of commands
each_seen : (P : Applied → Type 0) (xs : List Report) (k : ℕ) (e : Applied) → k < length xs → ((d : Report) → P (report_seen (get_or xs k d))) → P (get_or (map report_seen xs) k e)
each_seen P [] k e lt h = absurd (omega (arith, lt))
each_seen P (y ∷ ys) zero e lt h = h y
each_seen P (y ∷ ys) (suc k) e lt h = each_seen P ys k e (omega (arith, lt)) (λ d. h d)

pub length_seen : (xs : List Report) → length (map report_seen xs) ≡ length xs
length_seen [] = refl
length_seen (x ∷ xs) = ap suc (length_seen xs)

least : (o : Ordering) → ordering_index o ≤ 0 → o ≡ Less
least Less h = refl
least Equal h = absurd (omega (arith, h))
least Greater h = absurd (omega (arith, h))

most : (o : Ordering) → 2 ≤ ordering_index o → o ≡ Greater
most Less h = absurd (omega (arith, h))
most Equal h = absurd (omega (arith, h))
most Greater h = refl

module _ (reports : List Report) (change : ReportChange) (s : IsStrictlySortedBy report_cmp (map report_seen reports)) where
  -- the order does not depend on the receipt
  abbrev any : Applied
  any = applied_as 0 None (changes.Report change)

  rises_to : (i j : ℕ) (d : Report) → i ≤ j → j < length reports → ordering_index (change_cmp (get_or reports i d).change change) ≤ ordering_index (change_cmp (get_or reports j d).change change)
  rises_to i j d le lt = searchable report_cmp report_cmp_total report_seen reports any s i j d le lt

  module _ (middle : ℕ) (r : Report) (within : middle < length reports) (read : r ≡ get_or reports middle r) where
    at_middle : (d : Report) → get_or reports middle d ≡ r
    at_middle d = get_or_from_slice_get reports middle r d (slice_get_read reports (length reports) middle r refl within read)

    pub all_below : change_cmp r.change change ≡ Less → (k : ℕ) (d : Report) → k < middle + 1 → change_cmp (get_or reports k d).change change ≡ Less
    all_below less k d lt =
        let here : ordering_index (change_cmp (get_or reports middle d).change change) ≡ 0 = ap (λ (q : Report). ordering_index (change_cmp q.change change)) (at_middle d) ∙ ap ordering_index less in
        let up = rises_to k middle d (omega (arith, lt)) within in
        least (change_cmp (get_or reports k d).change change) (omega (arith, here, up))

    pub all_above : change_cmp r.change change ≡ Greater → (k : ℕ) (d : Report) → middle ≤ k → k < length reports → change_cmp (get_or reports k d).change change ≡ Greater
    all_above greater k d low high =
        let here : ordering_index (change_cmp (get_or reports middle d).change change) ≡ 2 = ap (λ (q : Report). ordering_index (change_cmp q.change change)) (at_middle d) ∙ ap ordering_index greater in
        let up = rises_to middle k d low high in
        most (change_cmp (get_or reports k d).change change) (omega (arith, here, up))

    pub place_there : change_cmp r.change change ≡ Equal → IsPlaceAmong change (map report_seen reports) (Ok middle)
    place_there equal = λ receipt received. (
      omega (arith, length_seen reports, within),
      λ e. each_seen (λ y. report_cmp y (applied_as receipt received (changes.Report change)) ≡ Equal) reports middle e within (λ d. ap (λ (q : Report). change_cmp q.change change) (at_middle d) ∙ equal),
    )

  pub place_between : (at : ℕ) → at ≤ length reports → ((k : ℕ) (d : Report) → k < at → change_cmp (get_or reports k d).change change ≡ Less)
      → ((k : ℕ) (d : Report) → at ≤ k → k < length reports → change_cmp (get_or reports k d).change change ≡ Greater) → IsPlaceAmong change (map report_seen reports) (Err at)
  place_between at within below above = λ receipt received. (
    omega (arith, length_seen reports, within),
    (
      λ k e low high. each_seen (λ y. report_cmp y (applied_as receipt received (changes.Report change)) ≡ Less) reports k e (omega (arith, within, high)) (λ d. below k d high),
      λ k e low high. let inside : k < length reports = omega (arith, length_seen reports, high) in each_seen (λ y. report_cmp y (applied_as receipt received (changes.Report change)) ≡ Greater) reports k e inside (λ d. above k d low inside),
    ),
  )

-- a node without reports has the first place for any
pub none_there : (change : ReportChange) (reports : List Applied) → reports ≡ [] → IsPlaceAmong change reports (Err 0)
none_there change reports none =
    subst (λ (xs : List Applied). IsPlaceAmong change xs (Err 0)) (sym none)
    (λ receipt received. (lit≤ tt, (λ k d low high. absurd (omega (arith, high)), λ k d low high. absurd (omega (arith, high)))))

-- ---- a report comes to its place

keeps_key : (b : Bool) (x y : Applied) → report_cmp x y ≡ Equal → report_cmp x (if b then y else x) ≡ Equal
keeps_key true x y h = h
keeps_key false x y h = tied_itself report_cmp_total x

pub put_report-sorted : (x : Applied) (xs : List Applied) → IsStrictlySortedBy report_cmp xs → IsStrictlySortedBy report_cmp (put_report x xs)
put_report-sorted x xs s = sorted-put report_cmp report_cmp_total x (of_greater_rank x) (λ y h. keeps_key (is_below x y) x y h) xs s

module _ (report : Report) (reports : List Report) (in_order : IsStrictlySortedBy report_cmp (map report_seen reports)) where
  -- at the place of a report that is one with it the one of the greater rank is put
  found_there : (at : ℕ) (other : Report) → IsReportPlace (report_seen report) (map report_seen reports) (Ok at) → other ≡ get_or reports at other → put_report (report_seen report) (map report_seen reports) ≡ set (map report_seen reports) at (of_greater_rank (report_seen report) (report_seen other))
  found_there at other found read =
      let within : at < length reports = omega (arith, length_seen reports, found.0) in
      let seen : report_seen other ≡ get_or (map report_seen reports) at (report_seen other) = ap report_seen read ∙ sym (get_or-map report_seen reports at other (report_seen other) within) in
      let same : report_cmp (report_seen other) (report_seen report) ≡ Equal = ap (λ y. report_cmp y (report_seen report)) seen ∙ found.1 (report_seen other) in
      put-found report_cmp report_cmp_total (report_seen report) (of_greater_rank (report_seen report)) (map report_seen reports) at (report_seen other) in_order found.0 seen
      (tied_back report_cmp_total (report_seen other) (report_seen report) same)

  pub put-replaced : (at : ℕ) (other : Report) → IsReportPlace (report_seen report) (map report_seen reports) (Ok at) → other ≡ get_or reports at other → is_below (report_seen report) (report_seen other) ≡ false → map report_seen (set reports at report) ≡ put_report (report_seen report) (map report_seen reports)
  put-replaced at other found read first =
      map-set report_seen reports at report ∙ sym (found_there at other found read ∙ ap (λ b. set (map report_seen reports) at (if b then report_seen other else report_seen report)) first)

  pub put-left : (at : ℕ) (other : Report) → IsReportPlace (report_seen report) (map report_seen reports) (Ok at) → other ≡ get_or reports at other → is_below (report_seen report) (report_seen other) ≡ true → map report_seen reports ≡ put_report (report_seen report) (map report_seen reports)
  put-left at other found read second =
      let same : set reports at other ≡ reports = ap (set reports at) read ∙ set-get_or reports at other in
      sym (found_there at other found read ∙ ap (λ b. set (map report_seen reports) at (if b then report_seen other else report_seen report)) second ∙ sym (map-set report_seen reports at other) ∙ ap (map report_seen) same)

  pub put-inserted : (at : ℕ) → IsReportPlace (report_seen report) (map report_seen reports) (Err at) → map report_seen (insert reports at report) ≡ put_report (report_seen report) (map report_seen reports)
  put-inserted at gap =
      map-insert report_seen reports at report ∙ sym (put-gap report_cmp report_cmp_total (report_seen report) (of_greater_rank (report_seen report)) (map report_seen reports) at gap.0 gap.1)

-- ---- the latest

-- of a report that was chosen so far and the newest of the rest
abbrev pub chosen : Option Applied → Option Applied → Option Applied
chosen None rest = rest
chosen (Some x) rest = greater x rest

-- a, b and d say whether x is below y, y below z and x below z
greatest_of_three : (a b d : Bool) (x y z : Applied) → is_below x y ≡ a → is_below y z ≡ b → is_below x z ≡ d →
    greater x (Some (if b then z else y)) ≡ greater (if a then y else x) (Some z)
greatest_of_three true true d x y z h k l = rw (k, below_on x y z h k) refl
greatest_of_three true false d x y z h k l = rw (h, k) refl
greatest_of_three false true d x y z h k l = refl
greatest_of_three false false d x y z h k l = rw (h, not_below_further (rank_of x) (rank_of y) (rank_of z) h k) refl

pub chosen-more : (x y : Applied) (rest : Option Applied) → chosen (Some x) (greater y rest) ≡ chosen (Some (of_greater_rank x y)) rest
chosen-more x y None = refl
chosen-more x y (Some z) = greatest_of_three (is_below x y) (is_below y z) (is_below x z) x y z refl refl refl

rest_is : (reports : List Report) (i : ℕ) (report : Report) → i < length reports → report ≡ get_or reports i report →
    newest kind.Report (map report_seen (drop i reports)) ≡ greater (report_seen report) (newest kind.Report (map report_seen (drop (i + 1) reports)))
rest_is reports i report h read =
    at_drop_more (λ l. newest kind.Report (map report_seen l)) reports i report h
    ∙ ap (λ (r : Report). greater (report_seen r) (newest kind.Report (map report_seen (drop (i + 1) reports)))) (sym read)

module _ (report : Report) (reports : List Report) (i : ℕ) (all : Option Applied) (within : i < length reports) (read : report ≡ get_or reports i report) where
  pub latest-first : chosen None (newest kind.Report (map report_seen (drop i reports))) ≡ all → chosen (Some (report_seen report)) (newest kind.Report (map report_seen (drop (i + 1) reports))) ≡ all
  latest-first h = sym (rest_is reports i report within read) ∙ h

  pub latest-more : (x : Applied) → chosen (Some x) (newest kind.Report (map report_seen (drop i reports))) ≡ all → chosen (Some (of_greater_rank x (report_seen report))) (newest kind.Report (map report_seen (drop (i + 1) reports))) ≡ all
  latest-more x h =
      sym (chosen-more x (report_seen report) (newest kind.Report (map report_seen (drop (i + 1) reports))))
      ∙ ap (greater x) (sym (rest_is reports i report within read)) ∙ h

seen_if : (b : Bool) (x y : Report) → report_seen (if b then y else x) ≡ (if b then report_seen y else report_seen x)
seen_if true x y = refl
seen_if false x y = refl

pub of_greater_rank-seen : (x y : Report) → report_seen (if is_below (report_seen x) (report_seen y) then y else x) ≡ of_greater_rank (report_seen x) (report_seen y)
of_greater_rank-seen x y = seen_if (is_below (report_seen x) (report_seen y)) x y

among_if : (b : Bool) (x y : Report) (reports : List Report) → Contains reports x → Contains reports y → Contains reports (if b then y else x)
among_if true x y reports h k = k
among_if false x y reports h k = h

pub of_greater_rank-among : (x y : Report) (reports : List Report) → Contains reports x → Contains reports y → Contains reports (if is_below (report_seen x) (report_seen y) then y else x)
of_greater_rank-among x y reports h k = among_if (is_below (report_seen x) (report_seen y)) x y reports h k

pub read-among : (report : Report) (reports : List Report) (i : ℕ) → i < length reports → report ≡ get_or reports i report → Contains reports report
read-among report reports i within read = (i, within, sym read)

-- ---- reports that a sweep leaves

module _ (ttls : Ttls) (retention : Option ℤ) where
  abbrev pub stays : Report → Bool
  stays r = is_retained_at ttls retention r.change.stamp

  pub retained_seen : (xs ys : List Report) → ys ≡ filter stays xs → map report_seen ys ≡ filter (is_retained ttls retention) (map report_seen xs)
  retained_seen xs ys e =
      ap (map report_seen) (e ∙ filter_agree stays (λ r. is_retained ttls retention (report_seen r)) (λ r. retained_is ttls retention (report_seen r)) xs)
      ∙ map-filter report_seen (is_retained ttls retention) xs

  pub retained_each : (xs ys : List Report) → ys ≡ filter stays xs → AllByRecursion IsReport xs → AllByRecursion IsReport ys
  retained_each xs ys e each = subst (AllByRecursion IsReport) (sym e) (each-filter IsReport stays xs each)

  pub retained_in_order : (xs ys : List Report) → ys ≡ filter stays xs → IsStrictlySortedBy report_cmp (map report_seen xs) → IsStrictlySortedBy report_cmp (map report_seen ys)
  retained_in_order xs ys e s =
      subst (IsStrictlySortedBy report_cmp) (sym (retained_seen xs ys e)) (IsStrictlySortedBy-filter report_cmp (is_retained ttls retention) (map report_seen xs) s)
