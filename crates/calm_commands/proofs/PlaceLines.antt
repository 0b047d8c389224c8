-- The numbers of a place, printed one by one.
use Rattle.std.proofs.Common.{◌≡◌, ◌∙◌, ◌≤◌, ◌-◌, ℕ, List, [], ◌∷◌, ◌++◌, length, take, drop, get_or, arith, refl, sym, ap, append_assoc, append-nil, codes}
use Rattle.std.proofs.Math.Seq.{take-length}
use Rattle.std.specs.Prelude.{decimal}
use Rattle.query_answer.specs.RefusalText.{dotted, path_text}
use Rattle.calm_commands.specs.Refused.{numbers_line}

dotted_line : (ns : List ℕ) → numbers_line (codes ".") ns ≡ dotted ns ++ 10 ∷ []
dotted_line [] = refl
dotted_line (n ∷ ns) = ap (λ t. codes "." ++ (decimal n ++ t)) (dotted_line ns) ∙ ap (λ t. codes "." ++ t) (sym (append_assoc (decimal n) (dotted ns) (10 ∷ [])))

pub place_line : (words ns : List ℕ) → words ++ numbers_line (codes " ") ns ≡ (words ++ path_text ns) ++ 10 ∷ []
place_line words [] = ap (λ t. t ++ 10 ∷ []) (sym (append-nil words))
place_line words (n ∷ ns) =
    ap (λ t. words ++ (codes " " ++ (decimal n ++ t))) (dotted_line ns) ∙ ap (λ t. words ++ (codes " " ++ t)) (sym (append_assoc (decimal n) (dotted ns) (10 ∷ []))) ∙ sym (append_assoc words (path_text (n ∷ ns)) (10 ∷ []))

-- the first number, and the others
pub numbers_at : (mark ns digits : List ℕ) → 1 ≤ length ns → digits ≡ decimal (get_or ns 0 0) → mark ++ (digits ++ numbers_line (codes ".") (take (length ns - 1) (drop 1 ns))) ≡ numbers_line mark ns
numbers_at mark [] digits some is = absurd (omega (arith, some))
numbers_at mark (n ∷ ns) digits some is =
    let rest : length (n ∷ ns) - 1 ≡ length ns = omega arith in
    let others : take (length (n ∷ ns) - 1) ns ≡ ns = ap (λ k. take k ns) rest ∙ take-length ns in
    (λ i. mark ++ (is i ++ numbers_line (codes ".") (others i)))
