-- The frames of a file that is laid.
use Rattle.std.proofs.Common.{◌≡◌, ◌⊎◌, inl, inr, ℕ, ◌+◌, ◌^◌, ◌<◌, ◌≤◌, List, [], ◌∷◌, ◌++◌, length, drop, set, get_or, refl, sym, ◌∙◌, ap, subst, arith}
use Rattle.std.proofs.lemmas.Bool.{cases_eq}
use Rattle.std.proofs.lemmas.List.{drop_more, get_or-take}
use Rattle.fleet_ports.specs.Disks.{Torn, Cut}
use Rattle.log_spec.specs.ImageOf.{image_of, block_text, frame_texts}
use Rattle.log_spec.specs.Image.{Image, closed, IsImage}
use Rattle.log_spec.specs.ImageOf.{AllShort, rest_text, laid_image}
use Rattle.log_spec.proofs.Laid.{laid_is}
use Rattle.record_log.specs.Lay.{Fits, AnyLong, IsTooLong, IsOldOrClosed, IsLaying, IsLaidOrTorn}
use Rattle.log_spec.proofs.Heads.{image_shut, image_short}
use Rattle.log_spec.proofs.Images.{is_image, image_is}
use Rattle.record_log.proofs.Crash.{torn_gate}

module _ (frames : List (List ℕ)) (k : ℕ) (x : List ℕ) (inside : k < length frames) (is : x ≡ get_or frames k x) where
  frames_step : drop k frames ≡ x ∷ drop (k + 1) frames
  frames_step = drop_more frames k x inside ∙ ap (λ (v : List ℕ). v ∷ drop (k + 1) frames) (sym is)

  pub texts_step : frame_texts (drop k frames) ≡ (1 ∷ block_text x) ++ frame_texts (drop (k + 1) frames)
  texts_step = ap (λ (l : List (List ℕ)). frame_texts l) frames_step

  pub short_step : AllShort (drop k frames) → (length x < 2 ^ 32) × AllShort (drop (k + 1) frames)
  short_step short = subst (λ (l : List (List ℕ)). AllShort l) frames_step short

  pub short_back : length x < 2 ^ 32 → AllShort (drop (k + 1) frames) → AllShort (drop k frames)
  short_back here rest = subst (λ (l : List (List ℕ)). AllShort l) (sym frames_step) (here, rest)

  pub long_here : 2 ^ 32 ≤ length x → AnyLong (drop k frames)
  long_here long = subst (λ (l : List (List ℕ)). AnyLong l) (sym frames_step) (inl long)

  pub long_later : AnyLong (drop (k + 1) frames) → AnyLong (drop k frames)
  long_later any = subst (λ (l : List (List ℕ)). AnyLong l) (sym frames_step) (inr any)

-- its first byte torn
pub torn_first : (g : ℕ) (fs : List (List ℕ)) (first : ℕ) (c : List ℕ) → g < 2 ^ 64 → AllShort fs → Torn 0 1 (first ∷ rest_text g fs) c → (image_of c ≡ closed) ⊎ (image_of c ≡ laid_image g fs)
torn_first g fs first c small short torn =
    let b = torn_gate [] first (rest_text g fs) 0 c refl torn in
    elim (cases_eq b.0 1) [
      | inl is_open ↦ inr (ap image_of b.1 ∙ ap (λ (n : ℕ). image_of (n ∷ rest_text g fs)) is_open ∙ laid_is g fs small short)
      | inr shut ↦ inl (ap image_of b.1 ∙ image_shut (b.0 ∷ rest_text g fs) shut)
    ]

-- a first byte that is 1, or not there, is torn
pub torn_old : (images : List ℕ → Type 0) (seen d c : List ℕ) → ((f : List ℕ) (i v : ℕ) → images f → i < length f → v < 2 ^ 8 → (i < length seen → v ≡ get_or seen i 0) → images (set f i v))
    → (0 < length seen → get_or seen 0 0 ≡ 1) → images d → Torn 0 1 d c → IsOldOrClosed images c
torn_old images seen [] c mixes first old torn = inr (image_short c (omega (arith, torn.no_longer)))
torn_old images seen (x ∷ r) c mixes first old torn =
    let b = torn_gate [] x r 0 c refl torn in
    elim (cases_eq b.0 1) [
      | inl is_open ↦ inl (subst images (sym (b.1 ∙ ap (λ (n : ℕ). n ∷ r) is_open)) (mixes (x ∷ r) 0 1 old (omega arith) (omega arith) (λ some. sym (first some))))
      | inr shut ↦ inr (ap image_of b.1 ∙ image_shut (b.0 ∷ r) shut)
    ]

-- torn once more it is that again
pub torn_laid : (g : ℕ) (fs : List (List ℕ)) (d c : List ℕ) → IsLaidOrTorn g fs d → Torn 0 1 d c → IsLaidOrTorn g fs c
torn_laid g fs d c laid torn = torn_gate [] laid.0 (rest_text g fs) 0 c refl (subst (λ (f : List ℕ). Torn 0 1 f c) laid.1 torn)

-- so it is closed, or the laid file
pub laid_or_closed : (g : ℕ) (fs : List (List ℕ)) (c : List ℕ) → g < 2 ^ 64 → AllShort fs → IsLaidOrTorn g fs c → (image_of c ≡ closed) ⊎ (image_of c ≡ laid_image g fs)
laid_or_closed g fs c small short laid = elim (cases_eq laid.0 1) [
  | inl is_open ↦ inr (ap image_of laid.1 ∙ ap (λ (n : ℕ). image_of (n ∷ rest_text g fs)) is_open ∙ laid_is g fs small short)
  | inr shut ↦ inl (ap image_of laid.1 ∙ image_shut (laid.0 ∷ rest_text g fs) shut)
]

-- the same in the words of a laying
pub shut_again : (images : List ℕ → Type 0) (g : ℕ) (fs : List (List ℕ)) → g < 2 ^ 64 → AllShort fs → (c : List ℕ) → IsLaidOrTorn g fs c → IsLaying images g fs c
shut_again images g fs small short c laid = by_image (laid_or_closed g fs c small short laid)
  where
    by_image : (image_of c ≡ closed) ⊎ (image_of c ≡ laid_image g fs) → IsLaying images g fs c
    by_image (inl shut) = inl (inr shut)
    by_image (inr is) = inr is

pub cut_same : (n : ℕ) (c : List ℕ) → Cut n c c
cut_same n c = record { front = refl; no_shorter = omega arith; no_longer = omega arith }

-- a closed file that is cut to its first byte is closed
pub cut_closed : (d c : List ℕ) → image_of d ≡ closed → Cut 1 d c → image_of c ≡ closed
cut_closed d c shut cut =
    image_is c closed
    (λ opens. subst (λ (i : Image). IsImage d i) shut (is_image d) (
      omega (arith, opens.0, cut.no_longer),
      sym (get_or-take 1 d 0 0 (omega arith)) ∙ ap (λ (l : List ℕ). get_or l 0 0) (sym cut.front) ∙ get_or-take 1 c 0 0 (omega arith) ∙ opens.1,
    ))

-- frames that fit aren't too long
short_not_long : (frames : List (List ℕ)) → AllShort frames → AnyLong frames → ⊥
short_not_long [] short long = long
short_not_long (f ∷ fs) short (inl here) = absurd (omega (arith, short.0, here))
short_not_long (f ∷ fs) short (inr later) = short_not_long fs short.1 later

pub fits_not_long : (frames : List (List ℕ)) → Fits frames → IsTooLong frames → ⊥
fits_not_long frames fits (inl long) = short_not_long frames fits.short long
fits_not_long frames fits (inr past) = absurd (omega (arith, fits.small, past))
