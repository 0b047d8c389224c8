-- The end of a head's text as it is read off the bytes, and the head's text as a relation.
use Rattle.std.proofs.Common.{◌≡◌, ◌≢◌, ◌∙◌, ◌⊎◌, inl, inr, ℕ, suc, ◌+◌, ◌-◌, ◌≤◌, ◌<◌, List, [], ◌∷◌, ◌++◌, length, arith, refl, sym, ap, subst, true, false, eqb, if◌then◌else◌, Option, Some, None, append_assoc, length-append, drop}
use Rattle.std.specs.List.{AllByRecursion, flat_map}
use Rattle.std.proofs.lemmas.List.{length-drop}
use Rattle.std.proofs.lemmas.Bool.{ne_eqb}
use Rattle.std.proofs.lemmas.Bool.Decides.{eqb_tells}
use Rattle.json_tree.proofs.of_plain_laws.Options.{none_some, some_is}
use Rattle.httparse.specs.Grammar.{LineEnd, crlf, lf, print_end, print_blank}
use Rattle.http_spec.specs.HeadText.{IsFilled, print_line, IsHeadText, HasNoHead}
use Rattle.http_spec.specs.HeadEnd.{Line, fresh, return, filled, Place, Next, ended, on, at_start, one_more, begun, line_ends, line_goes_on, step, head_from, head_at}
use Rattle.http_spec.specs.Limits.{most_head}

abbrev pub NoFeed : List ℕ → Type 0
NoFeed bytes = AllByRecursion (λ c. c ≢ 10) bytes

abbrev place_of : Option ℕ → Line → Place
place_of behind line = record { behind = behind; line = line }

-- ---- one byte

pub went_on : (p q : Place) (c : ℕ) (bytes : List ℕ) → step p c ≡ on q → head_from p (c ∷ bytes) ≡ head_from q bytes
unfolding head_from
went_on p q c bytes h = ap (λ (n : Next). elim n as (λ _. Option (ℕ × List ℕ)) [ ended m ↦ Some (m, bytes) | on next ↦ head_from next bytes ]) h

pub stopped : (p : Place) (c n : ℕ) (bytes : List ℕ) → step p c ≡ ended n → head_from p (c ∷ bytes) ≡ Some (n, bytes)
unfolding head_from
stopped p c n bytes h = ap (λ (n : Next). elim n as (λ _. Option (ℕ × List ℕ)) [ ended m ↦ Some (m, bytes) | on next ↦ head_from next bytes ]) h

pub none_left : (p : Place) → head_from p [] ≡ None
unfolding head_from
none_left p = refl

pub not_feed : (p : Place) (c : ℕ) → c ≢ 10 → step p c ≡ line_goes_on p.behind p.line c
not_feed p c h = ap (λ b. if b then line_ends p.behind p.line else line_goes_on p.behind p.line c) (ne_eqb c 10 h)

return_or_filled : (c : ℕ) → c ≢ 13 → begun c ≡ filled
return_or_filled c h = ap (λ b. if b then return else filled) (ne_eqb c 13 h)

-- ---- a head's text is read to its end

within_line : (behind : Option ℕ) (line rest : List ℕ) → NoFeed line → head_from (place_of behind filled) (line ++ 10 ∷ rest) ≡ head_from (place_of (one_more behind) fresh) rest
within_line behind [] rest h = went_on (place_of behind filled) (place_of (one_more behind) fresh) 10 rest refl
within_line behind (c ∷ line) rest h =
    went_on (place_of behind filled) (place_of behind filled) c (line ++ 10 ∷ rest) (not_feed (place_of behind filled) c h.0)
    ∙ within_line behind line rest h.1

behind_return : (behind : Option ℕ) (line rest : List ℕ) → line ≢ [] → NoFeed line → head_from (place_of behind return) (line ++ 10 ∷ rest) ≡ head_from (place_of (one_more behind) fresh) rest
behind_return behind [] rest some h = absurd (some refl)
behind_return behind (c ∷ line) rest some h =
    went_on (place_of behind return) (place_of behind filled) c (line ++ 10 ∷ rest) (not_feed (place_of behind return) c h.0)
    ∙ within_line behind line rest h.1

reads_line : (behind : Option ℕ) (line rest : List ℕ) → IsFilled line → head_from (place_of behind fresh) (line ++ 10 ∷ rest) ≡ head_from (place_of (one_more behind) fresh) rest
reads_line behind [] rest h = absurd (h.some refl)
reads_line behind (c ∷ line) rest h = by_first (eqb_tells c 13)
  where
    by_first : ((eqb c 13 ≡ true) × (c ≡ 13)) ⊎ ((eqb c 13 ≡ false) × (c ≢ 13)) → head_from (place_of behind fresh) ((c ∷ line) ++ 10 ∷ rest) ≡ head_from (place_of (one_more behind) fresh) rest
    by_first (inl t) =
        went_on (place_of behind fresh) (place_of behind return) c (line ++ 10 ∷ rest)
        (not_feed (place_of behind fresh) c h.no_feed.0 ∙ ap (λ b. on (place_of behind (if b then return else filled))) t.0)
        ∙ behind_return behind line rest (λ e. h.more (λ i. t.1 i ∷ e i)) h.no_feed.1
    by_first (inr t) =
        went_on (place_of behind fresh) (place_of behind filled) c (line ++ 10 ∷ rest)
        (not_feed (place_of behind fresh) c h.no_feed.0 ∙ ap (λ b. on (place_of behind (if b then return else filled))) t.0)
        ∙ within_line behind line rest h.no_feed.1

reads_blank : (ends : List LineEnd) (rest : List ℕ) → head_from at_start (print_blank ends ++ rest) ≡ head_from at_start rest
reads_blank [] rest = refl
reads_blank (crlf ∷ ends) rest =
    went_on at_start (place_of None return) 13 (10 ∷ (print_blank ends ++ rest)) refl
    ∙ went_on (place_of None return) at_start 10 (print_blank ends ++ rest) refl
    ∙ reads_blank ends rest
reads_blank (lf ∷ ends) rest = went_on at_start at_start 10 (print_blank ends ++ rest) refl ∙ reads_blank ends rest

reads_last : (n : ℕ) (last : LineEnd) (rest : List ℕ) → head_from (place_of (Some n) fresh) (print_end last ++ rest) ≡ Some (n, rest)
reads_last n crlf rest = went_on (place_of (Some n) fresh) (place_of (Some n) return) 13 (10 ∷ rest) refl ∙ stopped (place_of (Some n) return) 10 n rest refl
reads_last n lf rest = stopped (place_of (Some n) fresh) 10 n rest refl

-- lines, and the empty line that ends them
abbrev lines_text : List (List ℕ) → LineEnd → List ℕ
lines_text lines last = flat_map print_line lines ++ print_end last

first_of_lines : (line rest : List ℕ) (lines : List (List ℕ)) (last : LineEnd) → lines_text (line ∷ lines) last ++ rest ≡ line ++ 10 ∷ (lines_text lines last ++ rest)
first_of_lines line rest lines last =
    ap (λ xs. xs ++ rest) (append_assoc (line ++ 10 ∷ []) (flat_map print_line lines) (print_end last) ∙ append_assoc line (10 ∷ []) (lines_text lines last))
    ∙ append_assoc line (10 ∷ lines_text lines last) rest

reads_lines : (n : ℕ) (lines : List (List ℕ)) (last : LineEnd) (rest : List ℕ) → AllByRecursion IsFilled lines → head_from (place_of (Some n) fresh) (lines_text lines last ++ rest) ≡ Some (length lines + n, rest)
reads_lines n [] last rest h = let same : n ≡ 0 + n = omega arith in reads_last n last rest ∙ ap (λ k. Some (k, rest)) same
reads_lines n (line ∷ lines) last rest h =
    let same : length lines + suc n ≡ suc (length lines) + n = omega arith in
    ap (head_from (place_of (Some n) fresh)) (first_of_lines line rest lines last)
    ∙ reads_line (Some n) line (lines_text lines last ++ rest) h.0
    ∙ reads_lines (suc n) lines last rest h.1
    ∙ ap (λ k. Some (k, rest)) same

whole : (blank first lines rest : List ℕ) → (blank ++ ((first ++ 10 ∷ []) ++ lines)) ++ rest ≡ blank ++ (first ++ 10 ∷ (lines ++ rest))
whole blank first lines rest =
    append_assoc blank ((first ++ 10 ∷ []) ++ lines) rest
    ∙ ap (λ xs. blank ++ (xs ++ rest)) (append_assoc first (10 ∷ []) lines)
    ∙ ap (λ xs. blank ++ xs) (append_assoc first (10 ∷ lines) rest)

pub head_ends : (bytes text rest : List ℕ) (lines : List (List ℕ)) → IsHeadText text lines → bytes ≡ text ++ rest → head_at bytes ≡ Some (length lines, rest)
head_ends bytes text rest lines h e =
    let tail = lines_text lines h.last in
    let same : length lines + 0 ≡ length lines = omega arith in
    ap head_at (e ∙ ap (λ t. t ++ rest) h.text_is ∙ whole (print_blank h.blank) h.first tail rest)
    ∙ reads_blank h.blank (h.first ++ 10 ∷ (tail ++ rest))
    ∙ reads_line None h.first (tail ++ rest) h.first_filled
    ∙ reads_lines 0 lines h.last rest h.lines_filled
    ∙ ap (λ k. Some (k, rest)) same

-- ---- where a head ends, one stands

-- what was read of this line
abbrev IsSoFar : Line → List ℕ → Type 0
IsSoFar fresh part = part ≡ []
IsSoFar return part = part ≡ 13 ∷ []
IsSoFar filled part = IsFilled part

record LinesStand (lines : List (List ℕ)) (bytes rest : List ℕ) : Type 0 where
  last : LineEnd
  all_filled : AllByRecursion IsFilled lines
  bytes_are : bytes ≡ lines_text lines last ++ rest

record HeadStands (lines : List (List ℕ)) (bytes rest : List ℕ) : Type 0 where
  text : List ℕ
  is_head : IsHeadText text lines
  bytes_are : bytes ≡ text ++ rest

-- what stands where the reading ends so, of the bytes with what was read of the line before them
abbrev Stands : Option ℕ → ℕ → List ℕ → List ℕ → Type 0
Stands None n bytes rest = (lines : List (List ℕ)) × (n ≡ length lines) × HeadStands lines bytes rest
Stands (Some k) n bytes rest = (lines : List (List ℕ)) × (n ≡ k + length lines) × LinesStand lines bytes rest

no_feed-push : (part : List ℕ) (c : ℕ) → NoFeed part → c ≢ 10 → NoFeed (part ++ c ∷ [])
no_feed-push [] c h k = (k, tt)
no_feed-push (x ∷ part) c h k = (h.0, no_feed-push part c h.1 k)

filled-push : (part : List ℕ) (c : ℕ) → IsFilled part → c ≢ 10 → IsFilled (part ++ c ∷ [])
filled-push [] c h k = absurd (h.some refl)
filled-push (x ∷ []) c h k = record { no_feed = no_feed-push (x ∷ []) c h.no_feed k; some = (λ e. cc); more = (λ e. cc) }
filled-push (x ∷ y ∷ part) c h k = record { no_feed = no_feed-push (x ∷ y ∷ part) c h.no_feed k; some = (λ e. cc); more = (λ e. cc) }

return_then : (c : ℕ) → c ≢ 10 → IsFilled (13 ∷ c ∷ [])
return_then c h = record { no_feed = ((λ e. omega (arith, e)), (h, tt)); some = (λ e. cc); more = (λ e. cc) }

one_byte : (c : ℕ) → c ≢ 10 → c ≢ 13 → IsFilled (c ∷ [])
one_byte c h k = record { no_feed = (h, tt); some = (λ e. cc); more = (λ e. k (cc)) }

pushed : (part bytes : List ℕ) (c : ℕ) → (part ++ c ∷ []) ++ bytes ≡ part ++ c ∷ bytes
pushed part bytes c = append_assoc part (c ∷ []) bytes

same_bytes : (behind : Option ℕ) (n : ℕ) (bytes other rest : List ℕ) → bytes ≡ other → Stands behind n bytes rest → Stands behind n other rest
same_bytes behind n bytes other rest e h = subst (λ xs. Stands behind n xs rest) e h

-- an empty line before the request line
blank_before : (end : LineEnd) (n : ℕ) (bytes rest : List ℕ) → Stands None n bytes rest → Stands None n (print_end end ++ bytes) rest
blank_before end n bytes rest (lines, count, h) =
    let head = h.is_head in
    let tail = print_line head.first ++ (flat_map print_line lines ++ print_end head.last) in (
      lines,
      count,
      record {
        text = print_end end ++ h.text;
        is_head = record {
          blank = end ∷ head.blank;
          first = head.first;
          last = head.last;
          first_filled = head.first_filled;
          lines_filled = head.lines_filled;
          text_is = ap (λ t. print_end end ++ t) head.text_is ∙ sym (append_assoc (print_end end) (print_blank head.blank) tail);
        };
        bytes_are = ap (λ xs. print_end end ++ xs) h.bytes_are ∙ sym (append_assoc (print_end end) h.text rest);
      },
    )

-- the empty line that ends the head
ends_here : (end : LineEnd) (k n : ℕ) (bytes rest : List ℕ) → ◌≡◌ {A = Option (ℕ × List ℕ)} (Some (k, bytes)) (Some (n, rest)) → Stands (Some k) n (print_end end ++ bytes) rest
ends_here end k n bytes rest h =
    let pair : ◌≡◌ {A = ℕ × List ℕ} (k, bytes) (n, rest) = some_is _ _ h in
    let counts : k ≡ n = ap (λ p. p.0) pair in (
      [],
      omega (arith, counts),
      record { last = end; all_filled = tt; bytes_are = ap (λ xs. print_end end ++ xs) (ap (λ p. p.1) pair) },
    )

-- a line that isn't empty
line_before : (behind : Option ℕ) (line : List ℕ) (n : ℕ) (bytes rest : List ℕ) → IsFilled line → Stands (one_more behind) n bytes rest → Stands behind n (line ++ 10 ∷ bytes) rest
line_before None line n bytes rest f (lines, count, h) = (
  lines,
  omega (arith, count),
  record {
    text = print_blank [] ++ (print_line line ++ lines_text lines h.last);
    is_head = record { blank = []; first = line; last = h.last; first_filled = f; lines_filled = h.all_filled; text_is = refl };
    bytes_are = ap (λ xs. line ++ 10 ∷ xs) h.bytes_are ∙ sym (whole [] line (lines_text lines h.last) rest);
  },
)
line_before (Some k) line n bytes rest f (lines, count, h) = (
  line ∷ lines,
  omega (arith, count),
  record { last = h.last; all_filled = (f, h.all_filled); bytes_are = ap (λ xs. line ++ 10 ∷ xs) h.bytes_are ∙ sym (first_of_lines line rest lines h.last) },
)

-- a line feed after what was read of the line
feed : (behind : Option ℕ) (line : Line) (part bytes : List ℕ) (n : ℕ) (rest : List ℕ)
    → ((behind : Option ℕ) → head_from (place_of behind fresh) bytes ≡ Some (n, rest) → Stands behind n bytes rest)
    → IsSoFar line part → head_from (place_of behind line) (10 ∷ bytes) ≡ Some (n, rest) → Stands behind n (part ++ 10 ∷ bytes) rest
feed None fresh part bytes n rest recur s h =
    same_bytes None n (10 ∷ bytes) _ rest (ap (λ xs. xs ++ 10 ∷ bytes) (sym s))
    (blank_before lf n bytes rest (recur None (sym (went_on at_start at_start 10 bytes refl) ∙ h)))
feed None return part bytes n rest recur s h =
    same_bytes None n (13 ∷ 10 ∷ bytes) _ rest (ap (λ xs. xs ++ 10 ∷ bytes) (sym s))
    (blank_before crlf n bytes rest (recur None (sym (went_on (place_of None return) at_start 10 bytes refl) ∙ h)))
feed (Some k) fresh part bytes n rest recur s h =
    same_bytes (Some k) n (10 ∷ bytes) _ rest (ap (λ xs. xs ++ 10 ∷ bytes) (sym s))
    (ends_here lf k n bytes rest (sym (stopped (place_of (Some k) fresh) 10 k bytes refl) ∙ h))
feed (Some k) return part bytes n rest recur s h =
    same_bytes (Some k) n (13 ∷ 10 ∷ bytes) _ rest (ap (λ xs. xs ++ 10 ∷ bytes) (sym s))
    (ends_here crlf k n bytes rest (sym (stopped (place_of (Some k) return) 10 k bytes refl) ∙ h))
feed behind filled part bytes n rest recur s h =
    line_before behind part n bytes rest s
    (recur (one_more behind) (sym (went_on (place_of behind filled) (place_of (one_more behind) fresh) 10 bytes refl) ∙ h))

-- another byte
other : (behind : Option ℕ) (line : Line) (part : List ℕ) (c : ℕ) (bytes : List ℕ) (n : ℕ) (rest : List ℕ)
    → ((line : Line) (part : List ℕ) → IsSoFar line part → head_from (place_of behind line) bytes ≡ Some (n, rest) → Stands behind n (part ++ bytes) rest)
    → c ≢ 10 → IsSoFar line part → head_from (place_of behind line) (c ∷ bytes) ≡ Some (n, rest) → Stands behind n (part ++ c ∷ bytes) rest
other behind fresh part c bytes n rest recur k s h =
    same_bytes behind n (c ∷ bytes) _ rest (ap (λ xs. xs ++ c ∷ bytes) (sym s)) (by_return (eqb_tells c 13))
  where
    by_return : ((eqb c 13 ≡ true) × (c ≡ 13)) ⊎ ((eqb c 13 ≡ false) × (c ≢ 13)) → Stands behind n (c ∷ bytes) rest
    by_return (inl t) =
        recur return (c ∷ []) (ap (λ x. x ∷ []) t.1)
        (sym (went_on (place_of behind fresh) (place_of behind return) c bytes (not_feed (place_of behind fresh) c k ∙ ap (λ b. on (place_of behind (if b then return else filled))) t.0)) ∙ h)
    by_return (inr t) =
        recur filled (c ∷ []) (one_byte c k t.1)
        (sym (went_on (place_of behind fresh) (place_of behind filled) c bytes (not_feed (place_of behind fresh) c k ∙ ap (λ b. on (place_of behind (if b then return else filled))) t.0)) ∙ h)
other behind return part c bytes n rest recur k s h =
    same_bytes behind n (13 ∷ c ∷ bytes) _ rest (ap (λ xs. xs ++ c ∷ bytes) (sym s))
    (recur filled (13 ∷ c ∷ []) (return_then c k)
    (sym (went_on (place_of behind return) (place_of behind filled) c bytes (not_feed (place_of behind return) c k)) ∙ h))
other behind filled part c bytes n rest recur k s h =
    same_bytes behind n ((part ++ c ∷ []) ++ bytes) _ rest (pushed part bytes c)
    (recur filled (part ++ c ∷ []) (filled-push part c s k)
    (sym (went_on (place_of behind filled) (place_of behind filled) c bytes (not_feed (place_of behind filled) c k)) ∙ h))

by_byte : (behind : Option ℕ) (line : Line) (part : List ℕ) (c : ℕ) (bytes : List ℕ) (n : ℕ) (rest : List ℕ)
    → ((behind : Option ℕ) (line : Line) (part : List ℕ) → IsSoFar line part → head_from (place_of behind line) bytes ≡ Some (n, rest) → Stands behind n (part ++ bytes) rest)
    → ((eqb c 10 ≡ true) × (c ≡ 10)) ⊎ ((eqb c 10 ≡ false) × (c ≢ 10))
    → IsSoFar line part → head_from (place_of behind line) (c ∷ bytes) ≡ Some (n, rest) → Stands behind n (part ++ c ∷ bytes) rest
by_byte behind line part c bytes n rest recur (inl t) s h =
    same_bytes behind n (part ++ 10 ∷ bytes) _ rest (ap (λ x. part ++ x ∷ bytes) (sym t.1))
    (feed behind line part bytes n rest (λ b g. recur b fresh [] refl g) s (ap (λ x. head_from (place_of behind line) (x ∷ bytes)) (sym t.1) ∙ h))
by_byte behind line part c bytes n rest recur (inr t) s h = other behind line part c bytes n rest (recur behind) t.1 s h

stands : (behind : Option ℕ) (line : Line) (part bytes : List ℕ) (n : ℕ) (rest : List ℕ) → IsSoFar line part → head_from (place_of behind line) bytes ≡ Some (n, rest) → Stands behind n (part ++ bytes) rest
stands behind line part [] n rest s h = none_some (n, rest) (sym (none_left (place_of behind line)) ∙ h)
stands behind line part (c ∷ bytes) n rest s h =
    by_byte behind line part c bytes n rest (λ b l p t g. stands b l p bytes n rest t g) (eqb_tells c 10) s h

pub head_stands : (bytes rest : List ℕ) (n : ℕ) → head_at bytes ≡ Some (n, rest) → (text : List ℕ) × (lines : List (List ℕ)) × IsHeadText text lines × (bytes ≡ text ++ rest) × (length lines ≡ n)
head_stands bytes rest n h =
    let there = stands None fresh [] bytes n rest refl h in
    (there.2.text, there.0, there.2.is_head, there.2.bytes_are, sym there.1)

pub one_head : (bytes a b r q : List ℕ) (ls ks : List (List ℕ)) → IsHeadText a ls → IsHeadText b ks → bytes ≡ a ++ r → bytes ≡ b ++ q → (length ls ≡ length ks) × (r ≡ q)
one_head bytes a b r q ls ks h k e f =
    let same : ◌≡◌ {A = ℕ × List ℕ} (length ls, r) (length ks, q) = some_is _ _ (sym (head_ends bytes a r ls h e) ∙ head_ends bytes b q ks k f) in
    (ap (λ p. p.0) same, ap (λ p. p.1) same)

-- ---- no head

-- a head takes bytes
pub rest_is_shorter : (p : Place) (bytes rest : List ℕ) (n : ℕ) → head_from p bytes ≡ Some (n, rest) → length rest < length bytes
rest_is_shorter p [] rest n h = none_some (n, rest) (sym (none_left p) ∙ h)
rest_is_shorter p (c ∷ bytes) rest n h = by_step (step p c) refl
    (λ q g. let shorter = rest_is_shorter q bytes rest n g in omega (arith, shorter))
  where
    by_step : (next : Next) → step p c ≡ next → ((q : Place) → head_from q bytes ≡ Some (n, rest) → length rest < length (c ∷ bytes)) → length rest < length (c ∷ bytes)
    by_step (ended m) e recur =
        let pair : ◌≡◌ {A = ℕ × List ℕ} (m, bytes) (n, rest) = some_is _ _ (sym (stopped p c m bytes e) ∙ h) in
        let same : length bytes ≡ length rest = ap (λ x. length x.1) pair in
        omega (arith, same)
    by_step (on q) e recur = recur q (sym (went_on p q c bytes e) ∙ h)

-- bytes that are read to their end without the end of a head begin with none
pub unfinished : (bytes : List ℕ) → head_at bytes ≡ None → HasNoHead bytes
unfinished bytes h text rest lines x = none_some (length lines, rest) (sym h ∙ head_ends bytes text rest lines x.is_head x.bytes_are)

-- so many bytes without the end of a head begin with none that is short enough
pub out_of_reach : (bytes : List ℕ) (at : ℕ) (p : Place) → most_head ≤ at → at ≤ length bytes → head_at bytes ≡ head_from p (drop at bytes) → HasNoHead bytes
out_of_reach bytes at p far inside h text rest lines x =
    let shorter = rest_is_shorter p (drop at bytes) rest (length lines) (sym h ∙ head_ends bytes text rest lines x.is_head x.bytes_are) in
    let left : length (drop at bytes) ≡ length bytes - at = length-drop at bytes in
    let all : length bytes ≡ length text + length rest = ap length x.bytes_are ∙ length-append text rest in
    omega (arith, shorter, left, all, x.short, far, inside)
