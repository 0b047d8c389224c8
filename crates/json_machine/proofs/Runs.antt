-- What the machine does over a string, white space and a literal.
use Rattle.std.proofs.Common.{◌≡◌, ℕ, List, [], ◌∷◌, ◌++◌, refl, ap, Option, Some, None}
use Rattle.std.specs.Prelude.{option_map}
use Rattle.text_spec.proofs.of_plain_laws.Booleans.{eqb-refl}
use Rattle.text_spec.specs.Json as spec
use Rattle.text_spec.specs.Json.{Json}
use Rattle.text_spec.specs.JsonText.{IsSpace}
use Rattle.json_machine.specs.Machine.{TextState, Reading, within, closed, text_step, text_on, text_run, is_nil, and_then, Frame, Mode, value, first_item, first_key, next_key, key, colon, owed, string, State, as_string, as_key, step, read, run}

pub not_closed : (t : TextState) (s f : List ℕ) → Some (within t s) ≡ Some (closed f) → ⊥
not_closed t s f h = cc

pub none_some : {A : Type 0} (a : A) → None ≡ Some a → ⊥
none_some a h = cc

closed_same : (s f : List ℕ) → Some (closed s) ≡ Some (closed f) → s ≡ f
closed_same s f h = cc

module _ (n : ℕ) (fs : List Frame) (f r : List ℕ) where
  string_step : (o : Option Reading) (ds : List ℕ) → ((t : TextState) (s : List ℕ) → text_run t s ds ≡ Some (closed f) → read n fs (string t s) (ds ++ r) ≡ read n fs (owed [] (spec.string f)) r) → and_then o (λ q. text_on q (is_nil ds) (λ t s. text_run t s ds)) ≡ Some (closed f) → and_then (option_map (as_string fs) o) (λ q. read n q.0 q.1 (ds ++ r)) ≡ read n fs (owed [] (spec.string f)) r
  string_step None ds next h = absurd (none_some _ h)
  string_step (Some (within t s)) ds next h = next t s h
  string_step (Some (closed s)) [] next h = ap (λ x. read n fs (owed [] (spec.string x)) r) (closed_same s f h)
  string_step (Some (closed s)) (d ∷ ds) next h = absurd (none_some _ h)

  pub read-string : (ds : List ℕ) (t : TextState) (s : List ℕ) → text_run t s ds ≡ Some (closed f) → read n fs (string t s) (ds ++ r) ≡ read n fs (owed [] (spec.string f)) r
  read-string [] t s h = absurd (not_closed t s f h)
  read-string (d ∷ ds) t s h = string_step (text_step t s d) ds (read-string ds) h

  key_step : (ms : List (List ℕ × Json)) (o : Option Reading) (ds : List ℕ) → ((t : TextState) (s : List ℕ) → text_run t s ds ≡ Some (closed f) → read n fs (key ms t s) (ds ++ r) ≡ read n fs (colon ms f) r) → and_then o (λ q. text_on q (is_nil ds) (λ t s. text_run t s ds)) ≡ Some (closed f) → and_then (option_map (as_key fs ms) o) (λ q. read n q.0 q.1 (ds ++ r)) ≡ read n fs (colon ms f) r
  key_step ms None ds next h = absurd (none_some _ h)
  key_step ms (Some (within t s)) ds next h = next t s h
  key_step ms (Some (closed s)) [] next h = ap (λ x. read n fs (colon ms x) r) (closed_same s f h)
  key_step ms (Some (closed s)) (d ∷ ds) next h = absurd (none_some _ h)

  pub read-key : (ms : List (List ℕ × Json)) (ds : List ℕ) (t : TextState) (s : List ℕ) → text_run t s ds ≡ Some (closed f) → read n fs (key ms t s) (ds ++ r) ≡ read n fs (colon ms f) r
  read-key ms [] t s h = absurd (not_closed t s f h)
  read-key ms (d ∷ ds) t s h = key_step ms (text_step t s d) ds (read-key ms ds) h

-- the owed bytes come
pub read-owed : (n : ℕ) (fs : List Frame) (j : Json) (cs r : List ℕ) → read n fs (owed cs j) (cs ++ r) ≡ read n fs (owed [] j) r
read-owed n fs j [] r = refl
read-owed n fs j (c ∷ cs) r = rw (eqb-refl c) (read-owed n fs j cs r)

-- white space is passed
pub space-value : (n : ℕ) (fs : List Frame) (xs r : List ℕ) → IsSpace xs → read n fs value (xs ++ r) ≡ read n fs value r
space-value n fs [] r h = refl
space-value n fs (x ∷ xs) r h = rw h.0 (space-value n fs xs r h.1)

pub space-first_item : (n : ℕ) (fs : List Frame) (xs r : List ℕ) → IsSpace xs → read n fs first_item (xs ++ r) ≡ read n fs first_item r
space-first_item n fs [] r h = refl
space-first_item n fs (x ∷ xs) r h = rw h.0 (space-first_item n fs xs r h.1)

pub space-first_key : (n : ℕ) (fs : List Frame) (xs r : List ℕ) → IsSpace xs → read n fs first_key (xs ++ r) ≡ read n fs first_key r
space-first_key n fs [] r h = refl
space-first_key n fs (x ∷ xs) r h = rw h.0 (space-first_key n fs xs r h.1)

pub space-next_key : (n : ℕ) (fs : List Frame) (ms : List (List ℕ × Json)) (xs r : List ℕ) → IsSpace xs → read n fs (next_key ms) (xs ++ r) ≡ read n fs (next_key ms) r
space-next_key n fs ms [] r h = refl
space-next_key n fs ms (x ∷ xs) r h = rw h.0 (space-next_key n fs ms xs r h.1)

pub space-colon : (n : ℕ) (fs : List Frame) (ms : List (List ℕ × Json)) (k xs r : List ℕ) → IsSpace xs → read n fs (colon ms k) (xs ++ r) ≡ read n fs (colon ms k) r
space-colon n fs ms k [] r h = refl
space-colon n fs ms k (x ∷ xs) r h = rw h.0 (space-colon n fs ms k xs r h.1)

pub space-after : (n : ℕ) (fs : List Frame) (j : Json) (xs r : List ℕ) → IsSpace xs → read n fs (owed [] j) (xs ++ r) ≡ read n fs (owed [] j) r
space-after n fs j [] r h = refl
space-after n fs j (x ∷ xs) r h = rw h.0 (space-after n fs j xs r h.1)

-- what is read behind a part is read from where the machine stands there
run_step : (n : ℕ) (o : Option State) (bs r : List ℕ) → ((fs : List Frame) (m : Mode) → read n fs m (bs ++ r) ≡ and_then (run n fs m bs) (λ q. read n q.0 q.1 r)) → and_then o (λ q. read n q.0 q.1 (bs ++ r)) ≡ and_then (and_then o (λ q. run n q.0 q.1 bs)) (λ q. read n q.0 q.1 r)
run_step n None bs r next = refl
run_step n (Some q) bs r next = next q.0 q.1

pub read-append : (n : ℕ) (bs r : List ℕ) (fs : List Frame) (m : Mode) → read n fs m (bs ++ r) ≡ and_then (run n fs m bs) (λ q. read n q.0 q.1 r)
read-append n [] r fs m = refl
read-append n (b ∷ bs) r fs m = run_step n (step n fs m b) bs r (read-append n bs r)

run_run_step : (n : ℕ) (o : Option State) (bs r : List ℕ) → ((fs : List Frame) (m : Mode) → run n fs m (bs ++ r) ≡ and_then (run n fs m bs) (λ q. run n q.0 q.1 r)) → and_then o (λ q. run n q.0 q.1 (bs ++ r)) ≡ and_then (and_then o (λ q. run n q.0 q.1 bs)) (λ q. run n q.0 q.1 r)
run_run_step n None bs r next = refl
run_run_step n (Some q) bs r next = next q.0 q.1

pub run-append : (n : ℕ) (bs r : List ℕ) (fs : List Frame) (m : Mode) → run n fs m (bs ++ r) ≡ and_then (run n fs m bs) (λ q. run n q.0 q.1 r)
run-append n [] r fs m = refl
run-append n (b ∷ bs) r fs m = run_run_step n (step n fs m b) bs r (run-append n bs r)
