-- A word is read byte by byte.
use Rattle.std.proofs.Common.{◌≡◌, ◌∙◌, ℕ, ◌+◌, ◌<◌, List, [], ◌∷◌, length, drop, get_or, refl, sym, ap, Bool, true, false, eqb, if◌then◌else◌, Option, Some, None}
use Rattle.std.proofs.lemmas.List.{drop_more}
use Rattle.text_spec.specs.StampReader.{◌>>=◌}
use Rattle.history_laws.specs.Reading.{after_word}

word_step : (b : Bool) (w xs : List ℕ) → (if b then after_word w xs else None) ≡ ((if b then Some xs else None) >>= after_word w)
word_step true w xs = refl
word_step false w xs = refl

by_byte : (a : ℕ) (w xs : List ℕ) → after_word (a ∷ w) xs ≡ (after_word (a ∷ []) xs >>= after_word w)
by_byte a w [] = refl
by_byte a w (x ∷ xs) = word_step (eqb a x) w xs

at_byte : (word rest : List ℕ) (i : ℕ) (o : Option (List ℕ)) → i < length word → after_word (drop i word) rest ≡ o → (after_word (get_or word i 0 ∷ []) rest >>= after_word (drop (i + 1) word)) ≡ o
at_byte word rest i o h e =
    sym (by_byte (get_or word i 0) (drop (i + 1) word) rest) ∙ sym (ap (λ w. after_word w rest) (drop_more word i 0 h)) ∙ e

pub went_on : (word rest more : List ℕ) (i : ℕ) (o : Option (List ℕ)) → i < length word → Some more ≡ after_word (get_or word i 0 ∷ []) rest → after_word (drop i word) rest ≡ o → after_word (drop (i + 1) word) more ≡ o
went_on word rest more i o h found e = ap (λ f. f >>= after_word (drop (i + 1) word)) found ∙ at_byte word rest i o h e

pub stopped : (word rest : List ℕ) (i : ℕ) (o : Option (List ℕ)) → i < length word → None ≡ after_word (get_or word i 0 ∷ []) rest → after_word (drop i word) rest ≡ o → None ≡ o
stopped word rest i o h missing e = ap (λ f. f >>= after_word (drop (i + 1) word)) missing ∙ at_byte word rest i o h e
