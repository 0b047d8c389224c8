-- What a word looks like to clap, by the parts that the definition names.
use Rattle.std.proofs.Common.{◌≡◌, ◌∙◌, ◌⊎◌, inl, inr, ℕ, ◌==◌, ◌+◌, [], ◌∷◌, ◌++◌, Bool, true, false, cond, Option, Some, None, codes, refl, sym, ap, subst, true≢false, eqb-true, arith}
use Rattle.std.specs.Prelude.{slice_get, option_and_then, take, drop, suc}
use Rattle.std.specs.Char.{encode_utf8}
use Rattle.std.specs.Str.{chars, IsUtf8, encode_utf8_all}
use Rattle.std.specs.List.{before_first, after_first, position_or_len}
use Rattle.std.proofs.lemmas.Str.{encodes-chars}
use Rattle.std.proofs.lemmas.Slice.Eq.{bytes_eq-Decides}
use Rattle.clap.specs.Lexer.{long_of, has_byte, name_and_value, long_of_rest, strip_byte}
use Rattle.program_words.specs.Words.{Word, Name, serve_option, links_option, name_word, is_dashed}
use Rattle.program_words.specs.Scanning.{ends, names, other, look, name_id, Takes}
use Rattle.program_words.proofs.Turns.{Seen, dashes, is_taken}

-- ---- from a part to what its words look like

pub look_ends : (t : Takes) → look t (codes "--") ≡ ends
unfolding look
look_ends t = refl

pub look_apart : (t : Takes) (name : Name) → t name ≡ true → look t (name_word name) ≡ names name None
unfolding look
look_apart t serve_option taken = rw taken refl
look_apart t links_option taken = rw taken refl

pub look_in_one : (t : Takes) (name : Name) (value : Word) → t name ≡ true → look t (name_word name ++ 61 ∷ value) ≡ names name (Some value)
unfolding look
look_in_one t serve_option value taken = rw taken refl
look_in_one t links_option value taken = rw taken refl

pub look_plain : (t : Takes) (word : Word) → is_dashed word ≡ false → look t word ≡ other
unfolding look
look_plain t [] plain = refl
look_plain t (b ∷ word) plain = rw (plain, plain) refl

-- ---- and back

pub ends_is : (t : Takes) (word : Word) → Seen t word ends → word ≡ codes "--"
ends_is t word two = (bytes_eq-Decides word dashes).0 two

-- the text in front of the first `=`, and what stands behind it
abbrev pub is_equals : ℕ → Bool
is_equals x = x == 61

abbrev IsCut : Word → Word → Option Word → Type 0
IsCut text name None = text ≡ name
IsCut text name (Some value) = text ≡ name ++ 61 ∷ value

cut_more : (x : ℕ) (xs : Word) (n m k : ℕ) (b : Bool) → m ≡ suc n → k ≡ suc (n + 1) → IsCut xs (take n xs) (cond b (Some (drop (n + 1) xs)) None)
    → IsCut (x ∷ xs) (take m (x ∷ xs)) (cond b (Some (drop k (x ∷ xs))) None)
cut_more x xs n m k true first second e = rw (first, second) (ap (λ (ys : Word). x ∷ ys) e)
cut_more x xs n m k false first second e = rw first (ap (λ (ys : Word). x ∷ ys) e)

abbrev value_in : Word → Option Word
value_in text = cond (has_byte 61 text) (Some (after_first is_equals text)) None

cut_is : (text : Word) → IsCut text (before_first is_equals text) (value_in text)
cut_is [] = refl
cut_is (x ∷ xs) = go (x == 61) refl (cut_is xs)
  where
    go : (b : Bool) → (x == 61) ≡ b → IsCut xs (before_first is_equals xs) (value_in xs) → IsCut (x ∷ xs) (before_first is_equals (x ∷ xs)) (value_in (x ∷ xs))
    go true e rest = rw e (ap (λ y. y ∷ xs) (eqb-true x 61 e))
    go false e rest =
        let n = position_or_len is_equals xs in
        rw e (cut_more x xs n (1 + n) (1 + n + 1) (has_byte 61 xs) (omega arith) (omega arith) rest)

long_rest : (a b : Bool) (rest : Word) (p : Word × Option Word) → option_and_then long_of_rest (option_and_then (strip_byte 45) (cond a (Some (45 ∷ rest)) None)) ≡ Some p → name_and_value rest ≡ p
long_rest true b [] p e = absurd (cc)
long_rest true b (x ∷ xs) p e =
    let same : Some (name_and_value (x ∷ xs)) ≡ Some p = e in
    cc
long_rest false b rest p e = absurd (cc)

long_parts : (word : Word) (p : Word × Option Word) → long_of word ≡ Some p → (rest : Word) × (word ≡ 45 ∷ 45 ∷ rest) × (name_and_value rest ≡ p)
long_parts [] p e = absurd (cc)
long_parts (b ∷ []) p e = go (b == 45) e
  where
    go : (t : Bool) → option_and_then long_of_rest (option_and_then (strip_byte 45) (cond t (Some []) None)) ≡ Some p → (rest : Word) × (b ∷ [] ≡ 45 ∷ 45 ∷ rest) × (name_and_value rest ≡ p)
    go true e = absurd (cc)
    go false e = absurd (cc)
long_parts (b ∷ c ∷ rest) p e = go (b == 45) (c == 45) refl refl e
  where
    go : (t u : Bool) → (b == 45) ≡ t → (c == 45) ≡ u
        → option_and_then long_of_rest (option_and_then (strip_byte 45) (cond t (Some (c ∷ rest)) None)) ≡ Some p → (r : Word) × (b ∷ c ∷ rest ≡ 45 ∷ 45 ∷ r) × (name_and_value r ≡ p)
    go false u first second e = absurd (cc)
    go true false first second e = (let bad : None ≡ Some p = rw second at e in absurd (cc))
    go true true first second e =
        (rest, (λ i. eqb-true b 45 first i ∷ eqb-true c 45 second i ∷ rest), long_rest true true rest p (rw second at e))

seen_cut : (word text : Word) (v : Option Word) → long_of word ≡ Some (text, v) → (rest : Word) × (word ≡ 45 ∷ 45 ∷ rest) × IsCut rest text v
seen_cut word text v long =
    let parts = long_parts word (text, v) long in
    (parts.0, parts.1, subst (λ (p : Word × Option Word). IsCut parts.0 p.0 p.1) parts.2 (cut_is parts.0))

dashed_name : (name : Name) → 45 ∷ 45 ∷ name_id name ≡ name_word name
dashed_name serve_option = refl
dashed_name links_option = refl

pub apart_is : (t : Takes) (word : Word) (name : Name) → Seen t word (names name None) → word ≡ name_word name
apart_is t word name l =
    let parts = seen_cut word l.1.0 None l.1.1 in
    parts.1 ∙ ap (λ (rest : Word). 45 ∷ 45 ∷ rest) (parts.2 ∙ (is_taken t l.1.0 name l.1.2).0) ∙ dashed_name name

pub in_one_is : (t : Takes) (word : Word) (name : Name) (v : Word) → Seen t word (names name (Some v)) → word ≡ name_word name ++ 61 ∷ v
in_one_is t word name v l =
    let parts = seen_cut word l.1.0 (Some v) l.1.1 in
    parts.1 ∙ ap (λ (rest : Word). 45 ∷ 45 ∷ rest) (parts.2 ∙ ap (λ (t : Word). t ++ 61 ∷ v) ((is_taken t l.1.0 name l.1.2).0)) ∙ ap (λ (t : Word). t ++ 61 ∷ v) (dashed_name name)

-- ---- a word that is no flag

no_first : (xs : Word) → slice_get xs 0 ≡ None → xs ≡ []
no_first [] e = refl
no_first (x ∷ xs) e = absurd (cc)

no_short : (c : ℕ) (cs : Word) → IsUtf8 (45 ∷ c ∷ cs) → slice_get (chars (c ∷ cs)) 0 ≡ None → ⊥
unfolding chars encode_utf8
no_short c cs utf8 none =
    let empty : chars (c ∷ cs) ≡ [] = no_first (chars (c ∷ cs)) none in
    let whole : encode_utf8_all (chars (45 ∷ c ∷ cs)) ≡ 45 ∷ c ∷ cs = encodes-chars (45 ∷ c ∷ cs) utf8 in
    let one : encode_utf8_all (chars (45 ∷ c ∷ cs)) ≡ 45 ∷ [] = ap (λ (xs : Word). encode_utf8_all (45 ∷ xs)) empty in
    let bad : 45 ∷ c ∷ cs ≡ 45 ∷ [] = sym whole ∙ one in
    absurd (cc)

abbrev Other : Word → Type 0
Other word = (is_dashed word ≡ false) ⊎ (word ≡ codes "-")

two_other : (t : Takes) (c : ℕ) (cs : Word) (b : Bool) → (c == 45) ≡ b → IsUtf8 (45 ∷ c ∷ cs) → Seen t (45 ∷ c ∷ cs) other → ⊥
two_other t c [] true two utf8 l = (let bad : true ≡ false = rw two at l.0 in absurd (true≢false bad))
two_other t c (x ∷ xs) true two utf8 l = (let bad : Some (name_and_value (x ∷ xs)) ≡ None = rw two at l.1 in absurd (cc))
two_other t c cs false two utf8 (a, b, inl short) = (let bad : Some (c ∷ cs) ≡ None = rw two at short in absurd (cc))
two_other t c cs false two utf8 (a, b, inr short) =
    let same : Some (c ∷ cs) ≡ Some short.0 = rw two at short.1 in
    let flags : short.0 ≡ c ∷ cs = cc in
    no_short c cs utf8 (ap (λ (w : Word). slice_get (chars w) 0) (sym flags) ∙ short.2)

dash_other : (t : Takes) (w : Word) → IsUtf8 (45 ∷ w) → Seen t (45 ∷ w) other → Other (45 ∷ w)
dash_other t [] utf8 l = inr refl
dash_other t (c ∷ cs) utf8 l = absurd (two_other t c cs (c == 45) refl utf8 l)

pub other_is : (t : Takes) (word : Word) → IsUtf8 word → Seen t word other → Other word
other_is t [] utf8 l = inl refl
other_is t (b ∷ w) utf8 l = go (b == 45) refl
  where
    go : (dash : Bool) → (b == 45) ≡ dash → Other (b ∷ w)
    go false e = inl e
    go true e =
        let dash : 45 ≡ b = sym (eqb-true b 45 e) in
        subst (λ (x : ℕ). IsUtf8 (x ∷ w) → Seen t (x ∷ w) other → Other (x ∷ w)) dash (λ u s. dash_other t w u s) utf8 l
