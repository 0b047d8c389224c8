-- The frames of a file that is laid.
use Rattle.std.proofs.Common.{◌≡◌, ℕ, zero, suc, ◌+◌, ◌^◌, ◌<◌, ◌≤◌, List, [], ◌∷◌, ◌++◌, length, ◌∙◌, ap, arith, append_assoc, length-append, refl}
use Rattle.std.proofs.lemmas.List.{take_at, drop_at}
use Rattle.std.proofs.lemmas.Nat.{from_le_bytes-to_le_bytes_4, from_le_bytes-to_le_bytes_8}
use Rattle.std.specs.Int.{w32, w64, from_le_bytes, to_le_bytes}
use Rattle.log_spec.specs.Image.{magic}
use Rattle.log_spec.specs.ImageOf.{ends, behind, stated, walk, opened, image_of, block_text, frame_texts, AllShort, rest_text, laid_image}
use Rattle.log_spec.proofs.Walks.{block_step, shut_step}
use Rattle.log_spec.proofs.Opens.{head_step}

pub all_texts : (m p : ℕ) (fs : List (List ℕ)) (tail : List ℕ) → AllShort fs → length (frame_texts fs ++ 0 ∷ tail) ≤ m → walk m p (frame_texts fs ++ 0 ∷ tail) ≡ ends fs (p + length (frame_texts fs))
all_texts m p [] tail short le = shut_step m p 0 tail (omega arith) (omega arith) ∙ ap (λ (n : ℕ). ends [] n) (omega arith)
all_texts zero p (f ∷ fs) tail short le = absurd (omega arith)
all_texts (suc m) p (f ∷ fs) tail short le =
    let n = length f in
    let bytes = to_le_bytes w32 n in
    let more = frame_texts fs ++ 0 ∷ tail in
    let says : stated (block_text f) ≡ n = ap (λ (l : List ℕ). from_le_bytes w32 l) (take_at bytes f 4 refl) ∙ from_le_bytes-to_le_bytes_4 n short.0 in
    let joined : frame_texts (f ∷ fs) ++ 0 ∷ tail ≡ 1 ∷ (block_text f ++ more) = ap (λ (l : List ℕ). 1 ∷ l) (append_assoc (block_text f) (frame_texts fs) (0 ∷ tail)) in
    let long : length (block_text f) ≡ 4 + n = length-append bytes f in
    let place : p + 5 + n + length (frame_texts fs) ≡ p + length (frame_texts (f ∷ fs)) = omega (arith, long, length-append (block_text f) (frame_texts fs)) in
    ap (λ (l : List ℕ). walk (suc m) p l) joined
    ∙ block_step (block_text f) more n m p long says (omega (arith, length-append (frame_texts fs) (0 ∷ tail)))
    ∙ ap (λ (l : List ℕ). behind l (walk m (p + 5 + n) more)) (drop_at bytes f 4 refl)
    ∙ ap (λ w. behind f w) (all_texts m (p + 5 + n) fs tail short.1 (omega (arith, ap length joined, length-append (block_text f) more)))
    ∙ ap (λ (k : ℕ). ends (f ∷ fs) k) place

pub laid_is : (g : ℕ) (fs : List (List ℕ)) → g < 2 ^ 64 → AllShort fs → image_of (1 ∷ rest_text g fs) ≡ laid_image g fs
laid_is g fs small short =
    let head = 1 ∷ magic ++ to_le_bytes w64 g in
    let more = frame_texts fs ++ 0 ∷ [] in
    head_step head more g refl (omega (arith, length-append (frame_texts fs) (0 ∷ []))) refl refl (from_le_bytes-to_le_bytes_8 g small)
    ∙ ap (λ w. opened g w) (all_texts (length (head ++ more)) 16 fs [] short (omega (arith, length-append head more)))
