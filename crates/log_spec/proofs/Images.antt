-- Each file has one image, and the function gives it.
use Rattle.std.proofs.Common.{◌≡◌, inl, inr, ℕ, ◌+◌, ◌^◌, ◌<◌, ◌≤◌, Bool, true, false, ◌&&◌, ◌==◌, nat_lt, List, ◌∷◌, length, take, drop, get_or, bytes_eq, refl, sym, ◌∙◌, ap, subst, arith, length-drop}
use Rattle.std.proofs.lemmas.Bool.{and_from, cases_eq, true≢false}
use Rattle.std.specs.Int.{w64, from_le_bytes}
use Rattle.std.proofs.lemmas.List.{length-take, get_or-take}
use Rattle.std.proofs.lemmas.Slice.Eq.{bytes_eq-Decides}
use Rattle.plain_laws.proofs.Booleans.{if_false, if_true}
use Rattle.log_spec.specs.Image.{Image, closed, damaged, standing, magic, generation_in, IsOpen, HasMagic, IsStanding, BreaksOff, IsBrokenAt, IsImage}
use Rattle.log_spec.specs.ImageOf.{Found, ends, breaks, found, opened, image_of, AllShort, rest_text, laid_image}
use Rattle.log_spec.proofs.Walks.{nat_lt-true, eq-true}
use Rattle.log_spec.proofs.Found.{enough}
use Rattle.log_spec.proofs.Heads.{image_short, image_shut}
use Rattle.log_spec.proofs.Runs.{IsFound, is_found, split, run_unique, shut_stops, broken_stops, run_kept, run_rises, shut_kept, take_within}
use Rattle.log_spec.proofs.Laid.{laid_is}

open_test : (file : List ℕ) → IsOpen file → (nat_lt 16 (length file) && (get_or file 0 0 == 1)) ≡ true
open_test file is = and_from _ _ (nat_lt-true 16 (length file) (omega (arith, is.0))) (eq-true (get_or file 0 0) 1 is.1)

image_other : (file : List ℕ) → IsOpen file → bytes_eq (take 7 (drop 1 file)) magic ≡ false → image_of file ≡ damaged 1
unfolding image_of
image_other file is differs = if_true _ _ closed (open_test file is) ∙ if_false (bytes_eq (take 7 (drop 1 file)) magic) _ (damaged 1) differs

image_read : (file : List ℕ) → IsOpen file → bytes_eq (take 7 (drop 1 file)) magic ≡ true → image_of file ≡ opened (generation_in file) (found 16 (drop 16 file))
unfolding image_of
image_read file is agrees =
    if_true _ _ closed (open_test file is) ∙ if_true (bytes_eq (take 7 (drop 1 file)) magic) _ (damaged 1) agrees
    ∙ ap (λ (w : Found). opened (generation_in file) w) (enough (length file) (length (drop 16 file)) 16 (drop 16 file) (omega (arith, length-drop 16 file)) (omega arith))

found_image : (file : List ℕ) (w : Found) → IsOpen file → HasMagic file → IsFound file 16 w → IsImage file (opened (generation_in file) w)
found_image file (ends frames gate) is has here = record { is_open = is; has_magic = has; generation_is = refl; run = here.0; shut = here.1 }
found_image file (breaks at) is has here = inr (record { is_open = is; has_magic = has; frames = here.0; run = here.1; broken = here.2 })

pub is_image : (file : List ℕ) → IsImage file (image_of file)
is_image file = elim (split 16 (length file)) [
  | inr short ↦ subst (λ (image : Image). IsImage file image) (sym (image_short file (omega (arith, short)))) (λ is. absurd (omega (arith, is.0, short)))
  | inl long ↦ elim (cases_eq (get_or file 0 0) 1) [
    | inr shut ↦ subst (λ (image : Image). IsImage file image) (sym (image_shut file shut)) (λ is. shut is.1)
    | inl first ↦ by_magic (omega (arith, long), first) (bytes_eq (take 7 (drop 1 file)) magic) refl
  ]
]
  where
    by_magic : IsOpen file → (b : Bool) → bytes_eq (take 7 (drop 1 file)) magic ≡ b → IsImage file (image_of file)
    by_magic is true agrees =
        subst (λ (image : Image). IsImage file image) (sym (image_read file is agrees))
        (found_image file (found 16 (drop 16 file)) is ((bytes_eq-Decides (take 7 (drop 1 file)) magic).0 agrees) (is_found (length file) file 16 (omega arith)))
    by_magic is false differs =
        subst (λ (image : Image). IsImage file image) (sym (image_other file is differs))
        (inl (record { is_open = is; no_magic = λ has. true≢false (sym ((bytes_eq-Decides (take 7 (drop 1 file)) magic).1 has) ∙ differs) }, refl))

-- frames that end at a closed gate don't break off
apart : (file : List ℕ) (at : ℕ) {g : ℕ} (fs : List (List ℕ)) (q : ℕ) → BreaksOff file at → IsStanding file g fs q → ⊥
apart file at fs q x y =
    let same = (run_unique file 16 x.frames fs at q x.run y.run (broken_stops file at x.broken) (shut_stops file q y.shut)).1 in
    by_place (subst (λ (k : ℕ). IsBrokenAt file k) same x.broken)
  where
    by_place : IsBrokenAt file q → ⊥
    by_place (inl past) = absurd (omega (arith, past, y.shut.0))
    by_place (inr cut) = y.shut.1 cut.0

pub one_image : (file : List ℕ) (a b : Image) → IsImage file a → IsImage file b → a ≡ b
one_image file closed closed x y = refl
one_image file closed (damaged at) x (inl y) = absurd (x y.0.is_open)
one_image file closed (damaged at) x (inr y) = absurd (x y.is_open)
one_image file closed (standing g fs q) x y = absurd (x y.is_open)
one_image file (damaged at) closed (inl x) y = absurd (y x.0.is_open)
one_image file (damaged at) closed (inr x) y = absurd (y x.is_open)
one_image file (damaged at) (damaged to) (inl x) (inl y) = ap damaged (x.1 ∙ sym y.1)
one_image file (damaged at) (damaged to) (inl x) (inr y) = absurd (x.0.no_magic y.has_magic)
one_image file (damaged at) (damaged to) (inr x) (inl y) = absurd (y.0.no_magic x.has_magic)
one_image file (damaged at) (damaged to) (inr x) (inr y) = ap damaged (run_unique file 16 x.frames y.frames at to x.run y.run (broken_stops file at x.broken) (broken_stops file to y.broken)).1
one_image file (damaged at) (standing g fs q) (inl x) y = absurd (x.0.no_magic y.has_magic)
one_image file (damaged at) (standing g fs q) (inr x) y = absurd (apart file at fs q x y)
one_image file (standing g fs q) closed x y = absurd (y x.is_open)
one_image file (standing g fs q) (damaged at) x (inl y) = absurd (y.0.no_magic x.has_magic)
one_image file (standing g fs q) (damaged at) x (inr y) = absurd (apart file at fs q y x)
one_image file (standing g fs q) (standing h gs r) x y =
    let same = run_unique file 16 fs gs q r x.run y.run (shut_stops file q x.shut) (shut_stops file r y.shut) in
    λ i. standing ((x.generation_is ∙ sym y.generation_is) i) (same.0 i) (same.1 i)

pub image_is : (file : List ℕ) (image : Image) → IsImage file image → image_of file ≡ image
image_is file image is = one_image file (image_of file) image (is_image file) is

-- a file that agrees with an open one up to and with its first closed gate
pub past_the_gate : (file other : List ℕ) (g : ℕ) (fs : List (List ℕ)) (q : ℕ) → IsStanding file g fs q → take (q + 1) other ≡ take (q + 1) file → IsStanding other g fs q
past_the_gate file other g fs q is same =
    let low = run_rises file 16 fs q is.run in
    let agrees : (k n : ℕ) → k + n ≤ q + 1 → take n (drop k other) ≡ take n (drop k file) = λ k n le.
    take_within other (q + 1) k n le ∙ ap (λ (l : List ℕ). take n (drop k l)) same ∙ sym (take_within file (q + 1) k n le) in
    record {
      is_open = (
        omega (arith, is.shut.0, low, ap length same, length-take (q + 1) other, length-take (q + 1) file),
        sym (get_or-take (q + 1) other 0 0 (omega arith)) ∙ ap (λ (l : List ℕ). get_or l 0 0) same ∙ get_or-take (q + 1) file 0 0 (omega arith) ∙ is.is_open.1,
      );
      has_magic = agrees 1 7 (omega (arith, low)) ∙ is.has_magic;
      generation_is = is.generation_is ∙ ap (λ (l : List ℕ). from_le_bytes w64 l) (sym (agrees 8 8 (omega (arith, low))));
      run = run_kept file other 16 fs q same is.shut.0 is.run;
      shut = shut_kept file other q same is.shut;
    }

pub laid_image_is : (g : ℕ) (fs : List (List ℕ)) → g < 2 ^ 64 → AllShort fs → IsImage (1 ∷ rest_text g fs) (laid_image g fs)
laid_image_is g fs small short = subst (λ (image : Image). IsImage (1 ∷ rest_text g fs) image) (laid_is g fs small short) (is_image (1 ∷ rest_text g fs))
