-- What two filters leave, one after the other, and a filter of a map.
use Rattle.std.proofs.Common.{◌≡◌, ◌∙◌, List, [], ◌∷◌, refl, sym, ap, Bool, true, false, cond, ◌&&◌, ◌||◌, map, inl, inr}
use Rattle.std.specs.List.{filter, list_any}
use Rattle.history_laws.proofs.Members.{Among}

module _ {X : Type 0} where
  both_step : (b : Bool) (p q : X → Bool) (x : X) (xs : List X) → filter p (filter q xs) ≡ filter (λ y. q y && p y) xs → filter p (cond b (x ∷ filter q xs) (filter q xs)) ≡ cond (b && p x) (x ∷ filter (λ y. q y && p y) xs) (filter (λ y. q y && p y) xs)
  both_step true p q x xs h = ap (λ ys. cond (p x) (x ∷ ys) ys) h
  both_step false p q x xs h = h

  pub filter-filter : (p q : X → Bool) (xs : List X) → filter p (filter q xs) ≡ filter (λ x. q x && p x) xs
  filter-filter p q [] = refl
  filter-filter p q (x ∷ xs) = both_step (q x) p q x xs (filter-filter p q xs)

  pub filter-same : (p q : X → Bool) → ((x : X) → p x ≡ q x) → (xs : List X) → filter p xs ≡ filter q xs
  filter-same p q h xs = λ i. filter (λ x. h x i) xs

  among_step : (p q : X → Bool) (x : X) (xs : List X) → p x ≡ q x → filter p xs ≡ filter q xs → cond (p x) (x ∷ filter p xs) (filter p xs) ≡ cond (q x) (x ∷ filter q xs) (filter q xs)
  among_step p q x xs e h = λ i. cond (e i) (x ∷ h i) (h i)

  -- tests that agree on the elements leave the same
  pub filter-among : (p q : X → Bool) (xs : List X) → ((x : X) → Among x xs → p x ≡ q x) → filter p xs ≡ filter q xs
  filter-among p q [] h = refl
  filter-among p q (x ∷ xs) h = among_step p q x xs (h x (inl refl)) (filter-among p q xs (λ y a. h y (inr a)))

  fails : (b : Bool) (p t : X → Bool) (x : X) (xs : List X) → t x ≡ b → p x ≡ false → ((y : X) → t y ≡ true → p y ≡ true) → list_any t xs ≡ (b || list_any t xs)
  fails true p t x xs e f h = let passes : p x ≡ true = h x e in absurd (let apart : true ≡ false = sym passes ∙ f in cc)
  fails false p t x xs e f h = refl

  passing_step : (b : Bool) (p t : X → Bool) (x : X) (xs : List X) → p x ≡ b → ((y : X) → t y ≡ true → p y ≡ true) → list_any t (filter p xs) ≡ list_any t xs → list_any t (cond b (x ∷ filter p xs) (filter p xs)) ≡ (t x || list_any t xs)
  passing_step true p t x xs e h next = ap (λ b. t x || b) next
  passing_step false p t x xs e h next = next ∙ fails (t x) p t x xs refl e h

  -- what is left out by a filter that all who pass the test pass
  pub any-filter : (p t : X → Bool) → ((x : X) → t x ≡ true → p x ≡ true) → (xs : List X) → list_any t (filter p xs) ≡ list_any t xs
  any-filter p t h [] = refl
  any-filter p t h (x ∷ xs) = passing_step (p x) p t x xs refl h (any-filter p t h xs)

  pub filter-all : (xs : List X) → filter (λ x. true) xs ≡ xs
  filter-all [] = refl
  filter-all (x ∷ xs) = ap (λ ys. x ∷ ys) (filter-all xs)

module _ {X Y : Type 0} where
  map_step : (b : Bool) (f : X → Y) (p : Y → Bool) (x : X) (xs : List X) → filter p (map f xs) ≡ map f (filter (λ z. p (f z)) xs) → cond b (f x ∷ filter p (map f xs)) (filter p (map f xs)) ≡ map f (cond b (x ∷ filter (λ z. p (f z)) xs) (filter (λ z. p (f z)) xs))
  map_step true f p x xs h = ap (λ ys. f x ∷ ys) h
  map_step false f p x xs h = h

  pub filter-map : (f : X → Y) (p : Y → Bool) (xs : List X) → filter p (map f xs) ≡ map f (filter (λ x. p (f x)) xs)
  filter-map f p [] = refl
  filter-map f p (x ∷ xs) = map_step (p (f x)) f p x xs (filter-map f p xs)

  -- functions that agree on the elements
  pub map-among : (f g : X → Y) (xs : List X) → ((x : X) → Among x xs → f x ≡ g x) → map f xs ≡ map g xs
  map-among f g [] h = refl
  map-among f g (x ∷ xs) h = let rest = map-among f g xs (λ y a. h y (inr a)) in λ i. h x (inl refl) i ∷ rest i

  pub map-map : {Z : Type 0} (f : X → Y) (g : Y → Z) (xs : List X) → map g (map f xs) ≡ map (λ x. g (f x)) xs
  map-map f g [] = refl
  map-map f g (x ∷ xs) = ap (λ ys. g (f x) ∷ ys) (map-map f g xs)
