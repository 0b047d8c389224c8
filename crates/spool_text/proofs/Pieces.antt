-- Lines and line feeds at the front of the bytes.
use Rattle.std.proofs.Common.{◌≡◌, ◌≢◌, ◌∙◌, ℕ, zero, suc, ◌+◌, ◌≤◌, ◌<◌, List, [], ◌∷◌, ◌++◌, length, take, get_or, arith, refl, sym, ap, subst, Bool, true, false, eqb, if◌then◌else◌, ◌||◌, Option, Some, None, IfSome, length-append}
use Rattle.std.specs.List.{AllByRecursion}
use Rattle.std.proofs.lemmas.List.{take_all, take-append-le, length-take-le}
use Rattle.std.specs.Io.KnownBytes.{Keeps, Consumes, IsAtEnd, prepend_known}
use Rattle.std.proofs.KnownBytes.{Consumes-kept, prepend_known-nil}
use Rattle.text_spec.specs.StampReader.{one_of}
use Rattle.spool_text.specs.Unread.{HasNoLine, IsShort}

-- ---- lines

pub no_line_to_end : (xs : List ℕ) (i : ℕ) → AllByRecursion (λ c. c ≢ 10) (take i xs) → length xs ≤ i → i ≤ 201 → HasNoLine xs
no_line_to_end xs i h k l =
    subst (AllByRecursion (λ c. c ≢ 10)) (take_all i xs k ∙ sym (take_all 201 xs (omega arith))) h

pub no_line_in_reach : (xs : List ℕ) (i : ℕ) → AllByRecursion (λ c. c ≢ 10) (take i xs) → 201 ≤ i → i ≤ 201 → HasNoLine xs
no_line_in_reach xs i h k l =
    let same : i ≡ 201 = omega arith in
    subst (λ n. AllByRecursion (λ c. c ≢ 10) (take n xs)) same h

pub no_line_in_all : (xs : List ℕ) (left : Option (List ℕ)) → 201 ≤ length xs → HasNoLine xs → IfSome (prepend_known xs left) (λ all. (all ≢ []) × HasNoLine all)
no_line_in_all xs None h k = tt
no_line_in_all xs (Some ys) h k = (
  (λ e. let none : length xs + length ys ≡ 0 = sym (length-append xs ys) ∙ ap length e in omega (arith, none)),
  subst (AllByRecursion (λ c. c ≢ 10)) (sym (take-append-le 201 xs ys h)) k,
)

-- ---- line feeds

other_byte : (b : Bool) (x : ℕ) (xs : List ℕ) → eqb x 10 ≡ b → x ≢ 10 → (if b || b then Some xs else None) ≡ None
other_byte true x xs e h = absurd (h (grind arith))
other_byte false x xs e h = refl

no_feed_here : (all ys : List ℕ) (x : ℕ) → all ≡ x ∷ ys → x ≢ 10 → one_of 10 10 all ≡ None
unfolding one_of
no_feed_here all ys x e h = ap (one_of 10 10) e ∙ other_byte (eqb x 10) x ys refl h

pub another_byte : (old new : Option (List ℕ)) (into : List ℕ) (n : ℕ) → 1 ≤ n → n ≤ length into → Consumes old new (take n into) → get_or into 0 0 ≢ 10 → IfSome old (λ all. one_of 10 10 all ≡ None)
another_byte None new into n k l h other = tt
another_byte (Some all) None into n k l h other = absurd h
another_byte (Some all) (Some ys) into zero k l h other = absurd (omega arith)
another_byte (Some all) (Some ys) [] (suc n) k l h other = absurd (omega arith)
another_byte (Some all) (Some ys) (x ∷ into) (suc n) k l h other = no_feed_here all (take n into ++ ys) x h other

pub no_byte : (old new : Option (List ℕ)) → Keeps old new → IsAtEnd new → IfSome old (λ all. one_of 10 10 all ≡ None)
unfolding one_of
no_byte None new h k = tt
no_byte (Some all) None h k = absurd h
no_byte (Some all) (Some ys) h k = ap (one_of 10 10) (sym h ∙ k)

-- ---- a read failed, and nothing was buffered

no_bytes : (bs : List ℕ) → length bs ≡ 0 → bs ≡ []
no_bytes [] h = refl
no_bytes (b ∷ bs) h = absurd (omega (arith, h))

pub stops_short : (old mid rest : Option (List ℕ)) (bs body : List ℕ) (filled size : ℕ) → Consumes old mid (take filled body) → Keeps mid (prepend_known bs rest) → length bs ≡ 0 → filled ≤ length body → filled < size
    → IsShort size old rest
stops_short old mid rest bs body filled size gone kept none inside fewer = record {
  part = take filled body;
  is_taken =
      subst (λ r. Consumes old r (take filled body)) (ap (λ xs. prepend_known xs rest) (no_bytes bs none) ∙ prepend_known-nil rest)
      (Consumes-kept old mid (prepend_known bs rest) (take filled body) gone kept);
  short = omega (arith, length-take-le filled body inside, fewer);
}

pub stops_here : (old rest : Option (List ℕ)) (bs : List ℕ) → Keeps old (prepend_known bs rest) → length bs ≡ 0 → Consumes old rest []
stops_here old rest bs kept none =
    subst (λ r. Consumes old r []) (ap (λ xs. prepend_known xs rest) (no_bytes bs none) ∙ prepend_known-nil rest) (nothing_taken old (prepend_known bs rest) kept)
  where
    nothing_taken : (a b : Option (List ℕ)) → Keeps a b → Consumes a b []
    nothing_taken None b h = tt
    nothing_taken (Some xs) None h = h
    nothing_taken (Some xs) (Some ys) h = sym h
