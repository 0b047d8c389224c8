-- The rows of the facts that are named serve in place of all rows of facts.
use Rattle.std.proofs.Common.{◌≡◌, ◌∙◌, ℕ, ◌+◌, ◌<◌, List, [], ◌∷◌, ◌++◌, length, drop, get_or, refl, sym, ap, subst, Bool, true, false, ◌||◌, ◌&&◌, if◌then◌else◌, Option, Some, None, append_assoc}
use Rattle.std.specs.Borrow.{Bor}
use Rattle.std.proofs.lemmas.List.{drop_more}
use Rattle.query_reach.specs.Seen.{texts_seen}
use Rattle.std.specs.Prelude.{codes}
use Rattle.std.specs.List.{find, list_any, AllByRecursion}
use Rattle.std.specs.Option.{option_map_or}
use Rattle.std.specs.Str.{bytes_eq}
use Rattle.std.proofs.lemmas.Cmp.{nat_list_eq_equiv}
use Rattle.fleet_tables.proofs.of_plain_laws.Booleans.{both_true, or_left, or_right}
use Rattle.fleet_tables.proofs.of_plain_laws.Lists.{one_text, bytes_eq-itself}
use Rattle.fleet_tables.specs.Wanted as wanted
use Rattle.fleet_tables.specs.fleet_rows.declared.row.Entity.TheVariants.{Facts}
use Rattle.fleet_tables.specs.fleet_rows.Cell.{CellValue}
use Rattle.fleet_tables.specs.table_machine.Rows.{table_rows}
use Rattle.fleet_tables.specs.table_machine.Table.{Table}
use Rattle.query_plan.specs.means_spec.Cells.{cell_in, has_text, is_fact, text_in}
use Rattle.query_plan.specs.table_spec.Cells.{text_cell}
use Rattle.query_plan.specs.table_spec.Columns.{columns}
use Rattle.query_plan.specs.table_spec.Named.{cell_under, text_equals}
use Rattle.query_plan.specs.table_spec.Rows.{Cells}
use Rattle.query_reading.specs.Fetched.{one_in, fact_row, fetched, SameFact}
use Rattle.query_reading.proofs.TextCells.{IsTextIn, certnames_are_texts, names_are_texts}

-- ---- what is found

found_step : (p : Cells → Bool) (b : Bool) (x r : Cells) (xs : List Cells) → p x ≡ b → (find p xs ≡ Some r → p r ≡ true) → (if b then Some x else find p xs) ≡ Some r → p r ≡ true
found_step p true x r xs e next h = let same : x ≡ r = cc in subst (λ y. p y ≡ true) same e
found_step p false x r xs e next h = next h

found_passes : (p : Cells → Bool) (xs : List Cells) (r : Cells) → find p xs ≡ Some r → p r ≡ true
found_passes p [] r h = cc
found_passes p (x ∷ xs) r h = found_step p (p x) x r xs refl (found_passes p xs r) h

one_name : (x : Option (List ℕ)) (n m : List ℕ) → option_map_or (bytes_eq m) x false ≡ true → option_map_or (bytes_eq n) x false ≡ true → n ≡ m
one_name None n m a b = absurd (let apart : false ≡ true = a in cc)
one_name (Some s) n m a b = one_text n s b ∙ sym (one_text m s a)

module _ (node : List ℕ) (rows : List Cells) where
  abbrev own : List ℕ → Cells → Bool
  own = is_fact node

  both_same : (n m : List ℕ) (r : Cells) → own m r ≡ true → own n r ≡ true → n ≡ m
  both_same n m r a b =
      let left = both_true (has_text node (cell_in (Some Facts) (codes "certname") r)) (has_text m (cell_in (Some Facts) (codes "name") r)) a in
      let right = both_true (has_text node (cell_in (Some Facts) (codes "certname") r)) (has_text n (cell_in (Some Facts) (codes "name") r)) b in
      one_name (text_in (cell_in (Some Facts) (codes "name") r)) n m left.1 right.1

  -- a row that was fetched for a name is the one that is sought, or isn't of its name
  front_step : (n m : List ℕ) (rest : List Cells) (r : Cells) (b : Bool) → find (own m) rows ≡ Some r → own n r ≡ b
      → (b ≡ false → find (own n) rest ≡ find (own n) rows) → (if b then Some r else find (own n) rest) ≡ find (own n) rows
  front_step n m rest r true found e later =
      let same = both_same n m r (found_passes (own m) rows r found) e in
      sym found ∙ ap (λ k. find (own k) rows) (sym same)
  front_step n m rest r false found e later = later refl

  fetched_step : (n m : List ℕ) (rest : List Cells) (o : Option Cells) → find (own m) rows ≡ o
      → ((n ≡ m → ⊥) → find (own n) rest ≡ find (own n) rows) → (o ≡ None → find (own n) rest ≡ find (own n) rows)
      → find (own n) (one_in o ++ rest) ≡ find (own n) rows
  fetched_step n m rest None found later none = none refl
  fetched_step n m rest (Some r) found later none =
      front_step n m rest r (own n r) found refl
      (λ f. later (λ same. let p = found_passes (own m) rows r found in let q : own n r ≡ true = subst (λ k. own k r ≡ true) (sym same) p in absurd (let apart : true ≡ false = sym q ∙ f in cc)))

  -- where no row has the name, none that was fetched has it
  none_front : (n m : List ℕ) (rest : List Cells) (r : Cells) (b : Bool) → find (own m) rows ≡ Some r → own n r ≡ b → find (own n) rows ≡ None → find (own n) rest ≡ None
      → (if b then Some r else find (own n) rest) ≡ None
  none_front n m rest r true found e nothing h =
      let same = both_same n m r (found_passes (own m) rows r found) e in
      let there : find (own n) rows ≡ Some r = ap (λ k. find (own k) rows) same ∙ found in
      absurd (let apart : None ≡ Some r = sym nothing ∙ there in cc)
  none_front n m rest r false found e nothing h = h

  none_step : (n m : List ℕ) (rest : List Cells) (o : Option Cells) → find (own m) rows ≡ o → find (own n) rows ≡ None → find (own n) rest ≡ None → find (own n) (one_in o ++ rest) ≡ None
  none_step n m rest None found nothing h = h
  none_step n m rest (Some r) found nothing h = none_front n m rest r (own n r) found refl nothing h

  none_fetched : (names : List (List ℕ)) (n : List ℕ) → find (own n) rows ≡ None → find (own n) (fetched node rows names) ≡ None
  none_fetched [] n h = refl
  none_fetched (m ∷ ms) n h = none_step n m (fetched node rows ms) (find (own m) rows) refl h (none_fetched ms n h)

  name_step : (b c : Bool) (n m : List ℕ) → bytes_eq n m ≡ b → (b || c) ≡ true → (n ≡ m → ⊥) → c ≡ true
  name_step true c n m e h apart = absurd (apart (one_text n m e))
  name_step false c n m e h apart = h

  by_name : (ms : List (List ℕ)) (n m : List ℕ) (b : Bool) → bytes_eq n m ≡ b → (b || list_any (bytes_eq n) ms) ≡ true → find (own m) rows ≡ None
      → (list_any (bytes_eq n) ms ≡ true → find (own n) (fetched node rows ms) ≡ find (own n) rows) → find (own n) (fetched node rows ms) ≡ find (own n) rows
  by_name ms n m true e h nothing next =
      let gone : find (own n) rows ≡ None = ap (λ k. find (own k) rows) (one_text n m e) ∙ nothing in
      none_fetched ms n gone ∙ sym gone
  by_name ms n m false e h nothing next = next h

  one_serves : (names : List (List ℕ)) (n : List ℕ) → list_any (bytes_eq n) names ≡ true → SameFact node (fetched node rows names) rows n
  one_serves [] n h = absurd (let apart : false ≡ true = h in cc)
  one_serves (m ∷ ms) n h =
      fetched_step n m (fetched node rows ms) (find (own m) rows) refl
      (λ apart. one_serves ms n (name_step (bytes_eq n m) (list_any (bytes_eq n) ms) n m refl h apart))
      (λ nothing. by_name ms n m (bytes_eq n m) refl h nothing (one_serves ms n))

  -- for each of the names that were fetched
  is_member : (before after : List (List ℕ)) (n : List ℕ) → list_any (bytes_eq n) (before ++ n ∷ after) ≡ true
  is_member [] after n = or_left (bytes_eq n n) (list_any (bytes_eq n) after) (bytes_eq-itself n)
  is_member (m ∷ before) after n = or_right (bytes_eq n m) (list_any (bytes_eq n) (before ++ n ∷ after)) (is_member before after n)

  each_serves : (before after names : List (List ℕ)) → names ≡ before ++ after → AllByRecursion (SameFact node (fetched node rows names) rows) after
  each_serves before [] names e = tt
  each_serves before (n ∷ after) names e = (
    one_serves names n (ap (list_any (bytes_eq n)) e ∙ is_member before after n),
    each_serves (before ++ n ∷ []) after names (e ∙ sym (append_assoc before (n ∷ []) after)),
  )

  pub fetched_serve : (names : List (List ℕ)) → AllByRecursion (SameFact node (fetched node rows names) rows) names
  fetched_serve names = each_serves [] names names refl

-- ---- the row that tables find for a fact

text_alike : (s : List ℕ) (x : CellValue) (t : List ℕ) → x ≡ text_cell t → text_equals s x ≡ has_text s x
text_alike s x t e = ap (text_equals s) e ∙ nat_list_eq_equiv.symm t s ∙ sym (ap (has_text s) e)

facts_alike : (node name : List ℕ) (rows : List Cells) → AllByRecursion (IsTextIn Facts (codes "certname")) rows → AllByRecursion (IsTextIn Facts (codes "name")) rows
    → find (wanted.is_fact node name) rows ≡ find (is_fact node name) rows
facts_alike node name [] h k = refl
facts_alike node name (row ∷ rows) h k =
    let one = text_alike node (cell_under (columns Facts) (codes "certname") row) h.0.0 h.0.1 in
    let two = text_alike name (cell_under (columns Facts) (codes "name") row) k.0.0 k.0.1 in
    let rest = facts_alike node name rows h.1 k.1 in
    λ i. if one i && two i then Some row else rest i

pub fact_there : (table : Table) (node name : List ℕ) → find (wanted.is_fact node name) (table_rows Facts table) ≡ find (is_fact node name) (table_rows Facts table)
fact_there table node name = facts_alike node name (table_rows Facts table) (certnames_are_texts Facts table) (names_are_texts table)

-- ---- one name more

pub fetched_on : (node : List ℕ) (rows : List Cells) (names : List (Bor (List ℕ))) (i : ℕ) (name : Bor (List ℕ)) → i < length names → name ≡ get_or names i name → (old new whole : List Cells)
    → new ≡ old ++ fact_row node rows name.now → old ++ fetched node rows (texts_seen (drop i names)) ≡ whole → new ++ fetched node rows (texts_seen (drop (i + 1) names)) ≡ whole
fetched_on node rows names i name lt at old new whole e h =
    let rest = fetched node rows (texts_seen (drop (i + 1) names)) in
    ap (λ l. l ++ rest) e
    ∙ append_assoc old (fact_row node rows name.now) rest
    ∙ ap (λ l. old ++ fetched node rows (texts_seen l)) (ap (λ y. y ∷ drop (i + 1) names) at ∙ sym (drop_more names i name lt))
    ∙ h
