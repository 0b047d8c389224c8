-- Rows under their marks.
use Rattle.std.proofs.Common.{◌≡◌, ◌∙◌, ℕ, zero, suc, ◌<◌, ◌==◌, List, [], ◌∷◌, ◌++◌, Bool, true, false, if◌then◌else◌, Some, refl, sym, ap, subst, get_or, set, length, append_assoc, append-nil, true≢false, arith}
use Rattle.std.specs.Prelude.{filter, slice_get}
use Rattle.std.specs.Borrow.{Bor}
use Rattle.std.specs.List.{list_any}
use Rattle.std.proofs.lemmas.Bool.Decides.{Decides-eqb}
use Rattle.std.proofs.lemmas.List.{map-append}
use Rattle.std.proofs.lemmas.List.Elements.{filter-append}
use Rattle.std.proofs.lemmas.Map.Views.{any-filter_same}
use Rattle.std.proofs.lemmas.Option.{slice_get-get_or}
use Rattle.query_plan.specs.means_spec.Groups.{in_one_group}
use Rattle.query_plan.specs.table_spec.Rows.{Cells}
use Rattle.query_rows.specs.Referred.{row_of, rows_of}
use Rattle.query_rows.specs.Marked.{rows_there, part_at, IsMark, AreParted}
use Rattle.query_rows.specs.declared.parts.Part.{Part}

-- ---- what stands at a place that was set

pub get-set_same : {A : Type 0} (xs : List A) (i : ℕ) (x : A) → i < length xs → slice_get (set xs i x) i ≡ Some x
get-set_same [] i x lt = absurd (omega (arith, lt))
get-set_same (y ∷ xs) zero x lt = refl
get-set_same (y ∷ xs) (suc i) x lt = get-set_same xs i x (omega (arith, lt))

pub get-set_other : {A : Type 0} (xs : List A) (i q : ℕ) (x : A) → (i ≡ q → ⊥) → slice_get (set xs i x) q ≡ slice_get xs q
get-set_other [] i q x apart = refl
get-set_other (y ∷ xs) zero zero x apart = absurd (apart refl)
get-set_other (y ∷ xs) zero (suc q) x apart = refl
get-set_other (y ∷ xs) (suc i) zero x apart = refl
get-set_other (y ∷ xs) (suc i) (suc q) x apart = get-set_other xs i q x (λ e. apart (ap suc e))

module _ (ps : List Part) (i : ℕ) (p new : Part) (row : Bor Cells) (lt : i < length ps) (is : p ≡ get_or ps i p) (pushed : new.rows.items ≡ p.rows.items ++ row ∷ []) where
  set_here : part_at (set ps i new) i ≡ part_at ps i ++ row_of row ∷ []
  set_here =
      ap rows_there (get-set_same ps i new lt)
      ∙ ap rows_of pushed
      ∙ map-append row_of p.rows.items (row ∷ [])
      ∙ ap (λ o. rows_there o ++ row_of row ∷ []) (sym (slice_get-get_or ps i p lt ∙ ap (λ (x : Part). Some x) (sym is)))

  set_step : (b : Bool) (q : ℕ) → (i == q) ≡ b → part_at (set ps i new) q ≡ part_at ps q ++ (if b then row_of row ∷ [] else [])
  set_step true q e = subst (λ k. part_at (set ps i new) k ≡ part_at ps k ++ row_of row ∷ []) ((Decides-eqb i q).0 e) set_here
  set_step false q e =
      ap rows_there (get-set_other ps i q new (λ same. true≢false (sym ((Decides-eqb i q).1 same) ∙ e))) ∙ sym (append-nil (part_at ps q))

  -- one row more under a mark
  pub put_is : (q : ℕ) → part_at (set ps i new) q ≡ part_at ps q ++ (if i == q then row_of row ∷ [] else [])
  put_is q = set_step (i == q) q refl

-- nothing stands under a mark behind all
pub part_at-push : (ps : List Part) (new : Part) → new.rows.items ≡ [] → (q : ℕ) → part_at (ps ++ new ∷ []) q ≡ part_at ps q
part_at-push [] new e zero = ap rows_of e
part_at-push [] new e (suc q) = refl
part_at-push (p ∷ ps) new e zero = refl
part_at-push (p ∷ ps) new e (suc q) = part_at-push ps new e q

-- ---- rows of one group under their mark

module _ {A : Type 0} (p q : A → Bool) (within : (x : A) → p x ≡ true → q x ≡ true) where
  filter_step : (b c : Bool) (x : A) (xs more : List A) → p x ≡ b → q x ≡ c → filter p more ≡ filter p xs → filter p (if c then x ∷ more else more) ≡ (if b then x ∷ filter p xs else filter p xs)
  filter_step true true x xs more e f h = ap (λ t. if t then x ∷ filter p more else filter p more) e ∙ ap (λ l. x ∷ l) h
  filter_step false true x xs more e f h = ap (λ t. if t then x ∷ filter p more else filter p more) e ∙ h
  filter_step true false x xs more e f h = absurd (true≢false (sym (within x e) ∙ f))
  filter_step false false x xs more e f h = h

  filter-within : (xs : List A) → filter p (filter q xs) ≡ filter p xs
  filter-within [] = refl
  filter-within (x ∷ xs) = filter_step (p x) (q x) x xs (filter q xs) refl refl (filter-within xs)

module _ (key : Cells → Cells) (b : Cells → ℕ) (mark : IsMark key b) (r : Cells) (m : ℕ) (is : m ≡ b r) where
  of_mark : (x : Cells) → in_one_group key r x ≡ true → (b x == m) ≡ true
  of_mark x h = (Decides-eqb (b x) m).1 (sym (mark r x h) ∙ sym is)

  module _ (xs part : List Cells) (parted : part ≡ filter (λ x. b x == m) xs) where
    pub part_any : list_any (in_one_group key r) part ≡ list_any (in_one_group key r) xs
    part_any = ap (list_any (in_one_group key r)) parted ∙ any-filter_same (in_one_group key r) (λ x. b x == m) true of_mark xs

    pub part_rows : filter (in_one_group key r) part ≡ filter (in_one_group key r) xs
    part_rows = ap (filter (in_one_group key r)) parted ∙ filter-within (in_one_group key r) (λ x. b x == m) of_mark xs

-- ---- one row more

module _ (b : Cells → ℕ) (r : Cells) (m : ℕ) (is : m ≡ b r) where
  -- under each mark the rows that have it, of one row more
  pub parted-push : (old new : List Part) (xs : List Cells) → ((q : ℕ) → part_at new q ≡ part_at old q ++ (if m == q then r ∷ [] else [])) → AreParted b old xs → AreParted b new (xs ++ r ∷ [])
  parted-push old new xs put h q =
      put q
      ∙ (λ i. h q i ++ (if is i == q then r ∷ [] else []))
      ∙ sym (filter-append (λ x. b x == q) xs (r ∷ []))

  rest_step : (t : Bool) (old new more whole : List Cells) → new ≡ old ++ (if t then r ∷ [] else []) → old ++ (if t then r ∷ more else more) ≡ whole → new ++ more ≡ whole
  rest_step true old new more whole n h = ap (λ l. l ++ more) n ∙ append_assoc old (r ∷ []) more ∙ h
  rest_step false old new more whole n h = ap (λ l. l ++ more) (n ∙ append-nil old) ∙ h

  -- and of those that are left
  pub parted_on : (q : ℕ) (old new rest whole : List Cells) → new ≡ old ++ (if m == q then r ∷ [] else []) → old ++ filter (λ x. b x == q) (r ∷ rest) ≡ whole → new ++ filter (λ x. b x == q) rest ≡ whole
  parted_on q old new rest whole n h =
      rest_step (b r == q) old new (filter (λ x. b x == q) rest) whole (n ∙ ap (λ k. old ++ (if k == q then r ∷ [] else [])) is) h

-- none is left
pub parted_all : (b : Cells → ℕ) (parts : List Part) (rows rest : List Cells) → rest ≡ [] → ((q : ℕ) → part_at parts q ++ filter (λ x. b x == q) rest ≡ filter (λ x. b x == q) rows) → AreParted b parts rows
parted_all b parts rows rest e h q = sym (append-nil (part_at parts q)) ∙ sym (ap (λ l. part_at parts q ++ filter (λ x. b x == q) l) e) ∙ h q
