-- What is read of a table by places: the rows in reach, or those of some nodes among them.
use Rattle.std.proofs.Common.{◌≡◌, ◌∙◌, ◌<◌, ◌≤◌, ◌+◌, inl, inr, ℕ, zero, suc, List, [], ◌∷◌, ◌++◌, length, map, take, get_or, refl, sym, ap, subst, Bool, true, false, ◌&&◌, ◌||◌, Option, Some, None, codes, arith}
use Rattle.std.specs.Prelude.{IfSome, filter, slice_get}
use Rattle.std.specs.Borrow.{Bor}
use Rattle.std.specs.List.{AllByRecursion, list_any}
use Rattle.std.proofs.lemmas.Option.{slice_get_within}
use Rattle.std.proofs.lemmas.List.{take_more}
use Rattle.std.proofs.lemmas.List.Folds.{list_any-append}
use Rattle.fleet_tables.proofs.of_plain_laws.Booleans.{true_both}
use Rattle.fleet_tables.proofs.of_plain_laws.Lists.{map_both}
use Rattle.fleet_tables.proofs.PlaceLaws.{places_show, all_same, no_places, same_places}
use Rattle.fleet_tables.specs.Spans.{places_of}
use Rattle.fleet_tables.specs.Wanted.{is_wanted, texts_of}
use Rattle.fleet_tables.specs.fleet_rows.declared.row.Entity.{Entity}
use Rattle.fleet_tables.specs.kept_nodes.declared.wanted.Wanted.{Wanted}
use Rattle.query_plan.specs.table_spec.Columns.{columns}
use Rattle.query_plan.specs.table_spec.Named.{cell_under, text_equals}
use Rattle.query_plan.specs.table_spec.Rows.{Cells}
use Rattle.query_reach.proofs.LeastLaws.{fewer}
use Rattle.query_reach.specs.Reach.{Pin, demanded, shows, shows_own, is_found}
use Rattle.query_reach.specs.Seen.{texts_seen}
use Rattle.query_reading.specs.Fetched.{picked}
use Rattle.query_reading.specs.Joins.{is_of, stands_behind, AreReadBy}
use Rattle.query_reading.specs.Wanted.{IsOwnBy}
use Rattle.query_reading.proofs.PlacedRows.{picked_is, as_many, all_found, both_step, skip_step}
use Rattle.query_reading.proofs.UnionLaws.{union_from, either_and, or-false}
use Rattle.query_reading.proofs.WantedLaws.{own_same, own_alike}

-- ---- the places of one node more

-- what is asked for a node
pub one_node : (e : Entity) (ps : List Pin) (own w : Wanted) (node : Bor (List ℕ)) → IsOwnBy e ps (Some own) → w.certname ≡ Some node → w.name ≡ own.name → w.resource ≡ own.resource
    → (row : Cells) → is_wanted e (texts_of w) row ≡ (is_of e (node.now ∷ []) row && shows_own (Some e) ps row)
one_node e ps own w node h c n r row =
    let whole : Option (Bor (List ℕ)) → Wanted = λ o. record { certname = o; name = w.name; resource = w.resource } in
    ap (λ o. is_wanted e (texts_of (whole o)) row) c
    ∙ (λ i. sym (or-false (text_equals node.now (cell_under (columns e) (codes "certname") row))) i
    && (own_same e (Some node) w.certname w.name w.resource row ∙ own_alike e w own row n r ∙ h row) i)

pub node_more : (rows : List Cells) (before after own : Cells → Bool) (old more new : List ℕ) → old ≡ places_of before rows → more ≡ places_of own rows → ((row : Cells) → own row ≡ after row)
    → stands_behind old more ≡ true → new ≡ old ++ more → new ≡ places_of (λ row. before row || after row) rows
node_more rows before after own old more new was are same behind is =
    let more_is : more ≡ places_of after rows = are ∙ same_places own after 0 rows (all_same own after rows same) in
    let stands : stands_behind (places_of before rows) (places_of after rows) ≡ true = subst (λ l. stands_behind l (places_of after rows) ≡ true) was (subst (λ l. stands_behind old l ≡ true) more_is behind) in
    is ∙ (λ i. was i ++ more_is i) ∙ union_from before after 0 rows stands

nobody : (e : Entity) (own : Cells → Bool) (rows : List Cells) → AllByRecursion (λ row. (is_of e [] row && own row) ≡ false) rows
nobody e own [] = tt
nobody e own (x ∷ rows) = (refl, nobody e own rows)

pub no_node : (e : Entity) (own : Cells → Bool) (rows : List Cells) → [] ≡ places_of (λ row. is_of e [] row && own row) rows
no_node e own rows = sym (no_places (λ row. is_of e [] row && own row) 0 rows (nobody e own rows))

pub default_off : {A : Type 0} (xs : List A) (i : ℕ) (d b : A) → i < length xs → get_or xs i d ≡ get_or xs i b
default_off [] i d b lt = absurd (omega (arith, lt))
default_off (x ∷ xs) zero d b lt = refl
default_off (x ∷ xs) (suc i) d b lt = default_off xs i d b (omega (arith, lt))

seen_more : (p : List ℕ → Bool) (nodes : List (Bor (List ℕ))) (i : ℕ) (node : Bor (List ℕ)) → i < length nodes → node ≡ get_or nodes i node
    → (list_any p (texts_seen (take i nodes)) || p node.now) ≡ list_any p (texts_seen (take (i + 1) nodes))
seen_more p nodes i node lt at =
    sym (ap (λ l. list_any p (texts_seen l)) (take_more nodes i node lt ∙ ap (λ y. take i nodes ++ y ∷ []) (sym at))
    ∙ ap (list_any p) (map_both (λ (t : Bor (List ℕ)). t.now) (take i nodes) (node ∷ []))
    ∙ list_any-append p (texts_seen (take i nodes)) (node.now ∷ [])
    ∙ ap (λ b. list_any p (texts_seen (take i nodes)) || b) (or-false (p node.now)))

pub nodes_on : (e : Entity) (own : Cells → Bool) (rows : List Cells) (nodes : List (Bor (List ℕ))) (i : ℕ) (d : Bor (List ℕ)) → i < length nodes → (new : List ℕ)
    → new ≡ places_of (λ row. (is_of e (texts_seen (take i nodes)) row && own row) || (is_of e ((get_or nodes i d).now ∷ []) row && own row)) rows
    → new ≡ places_of (λ row. is_of e (texts_seen (take (i + 1) nodes)) row && own row) rows
nodes_on e own rows nodes i d lt new is =
    let node : Bor (List ℕ) = get_or nodes i d in
    is
    ∙ same_places (λ row. (is_of e (texts_seen (take i nodes)) row && own row) || (is_of e (node.now ∷ []) row && own row)) (λ row. is_of e (texts_seen (take (i + 1) nodes)) row && own row) 0 rows
    (all_same _ _ rows (λ row.
    either_and (is_of e (texts_seen (take i nodes)) row) (is_of e (node.now ∷ []) row) (own row)
    ∙ ap (λ b. b && own row)
    (ap (λ b. is_of e (texts_seen (take i nodes)) row || b) (or-false (text_equals node.now (cell_under (columns e) (codes "certname") row)))
    ∙ seen_more (λ s. text_equals s (cell_under (columns e) (codes "certname") row)) nodes i node lt (default_off nodes i d node lt))))

-- where no certname is demanded
pub reach_is : (e : Entity) (ps : List Pin) (nodes : List (List ℕ)) (rows : List Cells) (places : List ℕ) → demanded (codes "certname") ps ≡ [] → places ≡ places_of (λ row. is_of e nodes row && shows_own (Some e) ps row) rows
    → places ≡ places_of (λ row. is_of e nodes row && is_found (Some e) ps row) rows
reach_is e ps nodes rows places none is =
    is
    ∙ same_places (λ row. is_of e nodes row && shows_own (Some e) ps row) (λ row. is_of e nodes row && is_found (Some e) ps row) 0 rows
    (all_same _ _ rows (λ row. ap (λ texts. is_of e nodes row && (shows (Some e) (codes "certname") texts row && shows_own (Some e) ps row)) (sym none)))

-- ---- what is read so

within_all : (rows : List Cells) (places : List ℕ) (xs : List Cells) → map (slice_get rows) places ≡ map Some xs → AllByRecursion (λ p. p < length rows) places
within_all rows [] xs h = tt
within_all rows (p ∷ ps) [] h = cc
within_all rows (p ∷ ps) (x ∷ xs) h =
    let there : slice_get rows p ≡ Some x = cc in
    let rest : map (slice_get rows) ps ≡ map Some xs = cc in
    (slice_get_within rows p x there, within_all rows ps xs rest)

implied_on : (p q : Cells → Bool) (xs : List Cells) → AllByRecursion (λ x. p x ≡ true → q x ≡ true) xs → filter p (filter q xs) ≡ filter p xs
implied_on p q [] h = refl
implied_on p q (x ∷ xs) h = skip_step p (q x) x (filter q xs) ∙ both_step (p x) (q x) x (filter p (filter q xs)) (filter p xs) h.0 (implied_on p q xs h.1)

module _ (test : Cells → Bool) (rows : List Cells) (places : List ℕ) (are : places ≡ places_of test rows) where
  shown_at : map (slice_get rows) places ≡ map Some (filter test rows)
  shown_at = ap (map (slice_get rows)) are ∙ places_show test rows

  all_within : AllByRecursion (λ p. p < length rows) places
  all_within = within_all rows places (filter test rows) shown_at

  found_on : (p : Cells → Bool) → AllByRecursion (λ row. p row ≡ true → test row ≡ true) rows → filter p (picked rows places) ≡ filter p rows
  found_on p h = ap (filter p) (picked_is rows places (filter test rows) shown_at) ∙ implied_on p test rows h

right_of : (a b : Bool) → (a && b) ≡ true → b ≡ true
right_of true b h = h
right_of false b h = absurd (let apart : false ≡ true = h in cc)

all_and : (p q r : Cells → Bool) (xs : List Cells) → ((row : Cells) → p row ≡ true → r row ≡ true) → AllByRecursion (λ row. p row ≡ true → q row ≡ true) xs → AllByRecursion (λ row. p row ≡ true → (q row && r row) ≡ true) xs
all_and p q r [] f h = tt
all_and p q r (x ∷ xs) f h = (λ k. true_both (q x) (r x) (h.0 k) (f x k), all_and p q r xs f h.1)

pub at_place : (n : ℕ) (places : List ℕ) (i d : ℕ) → AllByRecursion (λ q. q < n) places → i < length places → get_or places i d < n
at_place n [] i d h lt = absurd (omega (arith, lt))
at_place n (q ∷ qs) zero d h lt = h.0
at_place n (q ∷ qs) (suc i) d h lt = at_place n qs i d h.1 (omega (arith, lt))

module _ (e : Entity) (ps : List Pin) (nodes : List (List ℕ)) (rows : List Cells) (places : List ℕ) where
  abbrev found : Cells → Bool
  found = is_found (Some e) ps

  abbrev own : Cells → Bool
  own row = is_of e nodes row && found row

  pub read_within : (b : Bool) → AreReadBy b e ps nodes rows places → AllByRecursion (λ p. p < length rows) places
  read_within true (inl h) = all_within found rows places h
  read_within true (inr h) = all_within own rows places h
  read_within false h = all_within found rows places h

  pub read_few : (b : Bool) → AreReadBy b e ps nodes rows places → length places ≤ length (filter found rows)
  read_few true (inl h) = subst (λ n. n ≤ length (filter found rows)) (sym (as_many found rows places h)) (omega arith)
  read_few true (inr h) = subst (λ n. n ≤ length (filter found rows)) (sym (as_many own rows places h)) (fewer own found (λ row. right_of (is_of e nodes row) (found row)) rows)
  read_few false h = subst (λ n. n ≤ length (filter found rows)) (sym (as_many found rows places h)) (omega arith)

  pub read_all : (p : Cells → Bool) → ((row : Cells) → p row ≡ true → found row ≡ true) → (b : Bool) → (b ≡ true → AllByRecursion (λ row. p row ≡ true → is_of e nodes row ≡ true) rows) → AreReadBy b e ps nodes rows places
      → filter p (picked rows places) ≡ filter p rows
  read_all p f true joined (inl h) = all_found found rows places h p f
  read_all p f true joined (inr h) = found_on own rows places h p (all_and p (is_of e nodes) found rows f (joined refl))
  read_all p f false joined h = all_found found rows places h p f

-- the pins and the places as they are held
pub read_so : (b : Bool) (e : Entity) (qs ps : List Pin) (nodes : List (List ℕ)) (rows : List Cells) (places held : List ℕ) → qs ≡ ps → held ≡ places → AreReadBy b e qs nodes rows places → AreReadBy b e ps nodes rows held
read_so b e qs ps nodes rows places held same is h = subst (λ l. AreReadBy b e ps nodes rows l) (sym is) (subst (λ x. AreReadBy b e x nodes rows places) same h)

pub some_weaker : {A : Type 0} (P Q : A → Type 0) (o : Option A) → ((x : A) → P x → Q x) → IfSome o P → IfSome o Q
some_weaker P Q None f h = tt
some_weaker P Q (Some x) f h = f x h
