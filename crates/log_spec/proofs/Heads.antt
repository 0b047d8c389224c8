-- What the head of a file says, and what is read behind it.
use Rattle.std.proofs.Common.{◌≡◌, ◌≢◌, ℕ, ◌<◌, ◌≤◌, Bool, true, false, ◌&&◌, if◌then◌else◌, ◌==◌, nat_lt, List, [], ◌∷◌, ◌++◌, length, take, drop, get_or, bytes_eq, refl, sym, ◌∙◌, ap, arith, length-append, take-append-drop, length-drop}
use Rattle.std.proofs.lemmas.Bool.Decides.{nat_tests}
use Rattle.std.proofs.lemmas.Bool.{and_from}
use Rattle.std.proofs.lemmas.List.{length-take-le, get_or-take, drop-append-le, take-append-le}
use Rattle.std.specs.Int.{w64, from_le_bytes}
use Rattle.plain_laws.proofs.Booleans.{if_true}
use Rattle.log_spec.specs.Image.{closed, damaged, magic}
use Rattle.log_spec.specs.ImageOf.{Found, breaks, behind, found, opened, image_of}
use Rattle.log_spec.proofs.Walks.{prepends, nat_lt-true, eq-true}
use Rattle.log_spec.proofs.Opens.{head_step}
use Rattle.log_spec.proofs.Found.{enough}

pub image_short : (file : List ℕ) → length file < 17 → image_of file ≡ closed
unfolding image_of
image_short file short = grind (arith, nat_tests)

pub image_shut : (file : List ℕ) → get_or file 0 0 ≢ 1 → image_of file ≡ closed
unfolding image_of
image_shut file shut = grind (arith, nat_tests)

module _ (file : List ℕ) (long : 17 ≤ length file) (first : get_or file 0 0 ≡ 1) where
  abbrev head : List ℕ
  head = take 16 file

  head_long : length head ≡ 16
  head_long = length-take-le 16 file (omega arith)

  magic_same : take 7 (drop 1 file) ≡ take 7 (drop 1 head)
  magic_same =
      ap (λ (l : List ℕ). take 7 (drop 1 l)) (sym (take-append-drop 16 file)) ∙ ap (λ (l : List ℕ). take 7 l) (drop-append-le 1 head (drop 16 file) (omega (arith, head_long)))
      ∙ take-append-le 7 (drop 1 head) (drop 16 file) (omega (arith, head_long, length-drop 1 head))

  open_test : (nat_lt 16 (length file) && (get_or file 0 0 == 1)) ≡ true
  open_test = and_from _ _ (nat_lt-true 16 (length file) (omega arith)) (eq-true (get_or file 0 0) 1 first)

  if_false : {A : Type 0} (b : Bool) (x y : A) → b ≡ false → (if b then x else y) ≡ y
  if_false true x y is = cc
  if_false false x y is = refl

  pub image_other : bytes_eq (take 7 (drop 1 head)) magic ≡ false → image_of file ≡ damaged 1
  unfolding image_of
  image_other is =
      if_true _ _ closed open_test
      ∙ if_false (bytes_eq (take 7 (drop 1 file)) magic) _ (damaged 1) (ap (λ (l : List ℕ). bytes_eq l magic) magic_same ∙ is)

  pub image_read : bytes_eq (take 7 (drop 1 head)) magic ≡ true → image_of file ≡ opened (from_le_bytes w64 (take 8 (drop 8 head))) (found 16 (drop 16 file))
  image_read is =
      let g = from_le_bytes w64 (take 8 (drop 8 head)) in
      let more = drop 16 file in
      ap image_of (sym (take-append-drop 16 file))
      ∙ head_step head more g head_long (omega (arith, length-drop 16 file)) (get_or-take 16 file 0 0 (omega arith) ∙ first) is refl
      ∙ ap (λ w. opened g w) (enough (length (head ++ more)) (length more) 16 more (omega (arith, length-append head more)) (omega arith))

pub prepends-breaks : (fs : List (List ℕ)) (q : ℕ) → prepends fs (breaks q) ≡ breaks q
prepends-breaks [] q = refl
prepends-breaks (f ∷ fs) q = ap (λ w. behind f w) (prepends-breaks fs q)

pub prepends-behind : (fs : List (List ℕ)) (f : List ℕ) (w : Found) → prepends fs (behind f w) ≡ prepends (fs ++ f ∷ []) w
prepends-behind [] f w = refl
prepends-behind (g ∷ fs) f w = ap (λ v. behind g v) (prepends-behind fs f w)
