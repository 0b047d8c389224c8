-- A head of the grammar is a head's text, with a line for each field: so it ends where the text ends.
use Rattle.std.proofs.Common.{◌≡◌, ◌≢◌, ◌∙◌, ℕ, suc, ◌+◌, ◌<◌, List, [], ◌∷◌, ◌++◌, length, arith, refl, sym, ap, Bool, true, false, append_assoc, append-nil}
use Rattle.std.specs.Prelude.{map, codes, nat_le}
use Rattle.std.specs.List.{AllByRecursion, flat_map}
use Rattle.std.proofs.lemmas.List.Elements.{recursion_from_All}
use Rattle.json_tree.proofs.of_plain_laws.Members.{all_both}
use Rattle.httparse.specs.Grammar.{LineEnd, crlf, lf, print_end, print_blank, print_version, Field, IsField, print_field, print_section, RequestHead, print_request, IsRequestHead, ReadsRequest, AllPass, is_token_byte, is_uri_byte, is_value_byte}
use Rattle.httparse.proofs.GrammarLemmas.{print_request-append}
use Rattle.http_spec.specs.HeadText.{IsFilled, print_line, IsHeadText}
use Rattle.http_spec.proofs.HeadEnds.{NoFeed, one_head}

-- ---- bytes that aren't a line feed

passed : (test : ℕ → Bool) → test 10 ≡ false → (bytes : List ℕ) → AllByRecursion (λ c. test c ≡ true) bytes → NoFeed bytes
passed test fails [] h = tt
passed test fails (c ∷ bytes) h = (
  (λ e. let both : true ≡ false = sym h.0 ∙ ap test e ∙ fails in cc),
  passed test fails bytes h.1,
)

pass_no_feed : (test : ℕ → Bool) → test 10 ≡ false → (bytes : List ℕ) → AllPass test bytes → NoFeed bytes
pass_no_feed test fails bytes h = passed test fails bytes (recursion_from_All (λ c. test c ≡ true) bytes h)

feed_is_no_token : is_token_byte 10 ≡ false
unfolding is_token_byte
feed_is_no_token = refl

token_no_feed : (bytes : List ℕ) → AllPass is_token_byte bytes → NoFeed bytes
token_no_feed bytes h = pass_no_feed is_token_byte feed_is_no_token bytes h

-- what a line end has before its line feed
abbrev pub before_feed : LineEnd → List ℕ
before_feed crlf = 13 ∷ []
before_feed lf = []

end_is : (end : LineEnd) → print_end end ≡ before_feed end ++ 10 ∷ []
end_is crlf = refl
end_is lf = refl

before_no_feed : (end : LineEnd) → NoFeed (before_feed end)
before_no_feed crlf = ((λ e. omega (arith, e)), tt)
before_no_feed lf = tt

two_more : (a : List ℕ) (c : ℕ) (b : List ℕ) → 0 < length a → (a ++ c ∷ b ≢ []) × (a ++ c ∷ b ≢ 13 ∷ [])
two_more [] c b h = absurd (omega arith)
two_more (x ∷ []) c b h = ((λ e. cc), (λ e. cc))
two_more (x ∷ y ∷ a) c b h = ((λ e. cc), (λ e. cc))

-- a word, a byte and some more are a line
line_filled : (word : List ℕ) (c : ℕ) (more : List ℕ) → 0 < length word → NoFeed word → c ≢ 10 → NoFeed more → IsFilled (word ++ c ∷ more)
line_filled word c more some h k l =
    let apart = two_more word c more some in
    record { no_feed = all_both (λ c. c ≢ 10) word (c ∷ more) h (k, l); some = apart.0; more = apart.1 }

-- ---- fields

abbrev pub field_line : Field → List ℕ
field_line f = f.name ++ 58 ∷ (f.raw ++ before_feed f.end)

field_is_line : (f : Field) → print_field f ≡ print_line (field_line f)
field_is_line f =
    ap (λ e. f.name ++ 58 ∷ f.raw ++ e) (end_is f.end) ∙ joined f.name f.raw (before_feed f.end)
  where
    joined : (a b c : List ℕ) → a ++ 58 ∷ b ++ (c ++ 10 ∷ []) ≡ (a ++ 58 ∷ (b ++ c)) ++ 10 ∷ []
    joined a b c = append_assoc a (58 ∷ b) (c ++ 10 ∷ []) ∙ ap (λ xs. a ++ 58 ∷ xs) (sym (append_assoc b c (10 ∷ []))) ∙ sym (append_assoc a (58 ∷ (b ++ c)) (10 ∷ []))

field_filled : (f : Field) → IsField f → IsFilled (field_line f)
field_filled f h =
    line_filled f.name 58 (f.raw ++ before_feed f.end) h.name.0 (token_no_feed f.name h.name.1) (λ e. omega (arith, e))
    (all_both (λ c. c ≢ 10) f.raw (before_feed f.end) (pass_no_feed is_value_byte refl f.raw h.raw) (before_no_feed f.end))

fields_are_lines : (fields : List Field) → flat_map print_field fields ≡ flat_map print_line (map field_line fields)
fields_are_lines [] = refl
fields_are_lines (f ∷ fields) = λ i. field_is_line f i ++ fields_are_lines fields i

fields_filled : (fields : List Field) → AllByRecursion IsField fields → AllByRecursion IsFilled (map field_line fields)
fields_filled [] h = tt
fields_filled (f ∷ fields) h = (field_filled f h.0, fields_filled fields h.1)

pub as_many_lines : (fields : List Field) → length (map field_line fields) ≡ length fields
as_many_lines [] = refl
as_many_lines (f ∷ fields) = ap suc (as_many_lines fields)

-- ---- the request line

small_digit : (minor : ℕ) → (48 + minor ≡ 10) → ⊥
small_digit minor e = omega (arith, e)

version_no_feed : (minor : ℕ) → NoFeed (print_version minor)
version_no_feed minor =
    all_both (λ c. c ≢ 10) (codes "HTTP/1.") ((48 + minor) ∷ []) (passed (λ c. nat_le 11 c) refl (codes "HTTP/1.") (refl, (refl, (refl, (refl, (refl, (refl, (refl, tt)))))))) (small_digit minor, tt)

abbrev request_line : RequestHead → List ℕ
request_line h = h.method ++ 32 ∷ (h.target ++ 32 ∷ (print_version h.minor ++ before_feed h.line_end))

request_line_filled : (h : RequestHead) → IsRequestHead h → IsFilled (request_line h)
request_line_filled h k =
    line_filled h.method 32 (h.target ++ 32 ∷ (print_version h.minor ++ before_feed h.line_end)) k.method.0 (token_no_feed h.method k.method.1) (λ e. omega (arith, e))
    (all_both (λ c. c ≢ 10) h.target (32 ∷ (print_version h.minor ++ before_feed h.line_end)) (pass_no_feed is_uri_byte refl h.target k.target.1)
    ((λ e. omega (arith, e)), all_both (λ c. c ≢ 10) (print_version h.minor) (before_feed h.line_end) (version_no_feed h.minor) (before_no_feed h.line_end)))

-- the parts of a head, joined from the right
joined_line : (m t v b rest : List ℕ) → m ++ 32 ∷ (t ++ 32 ∷ (v ++ ((b ++ 10 ∷ []) ++ rest))) ≡ (m ++ 32 ∷ (t ++ 32 ∷ (v ++ b)) ++ 10 ∷ []) ++ rest
joined_line m t v b rest = simp (append_assoc, cons_append)
  where
    cons_append : (x : ℕ) (a b : List ℕ) → (x ∷ a) ++ b ≡ x ∷ (a ++ b)
    cons_append x a b = refl

head_is : (h : RequestHead) → print_request h ≡ print_blank h.blank ++ (print_line (request_line h) ++ (flat_map print_line (map field_line h.fields) ++ print_end h.last))
head_is h =
    let section = print_section h.fields h.last in
    sym (append-nil (print_request h)) ∙ print_request-append h []
    ∙ ap (λ xs. print_blank h.blank ++ (h.method ++ 32 ∷ (h.target ++ 32 ∷ (print_version h.minor ++ (print_end h.line_end ++ xs))))) (append-nil section)
    ∙ ap (λ e. print_blank h.blank ++ (h.method ++ 32 ∷ (h.target ++ 32 ∷ (print_version h.minor ++ (e ++ section))))) (end_is h.line_end)
    ∙ ap (λ xs. print_blank h.blank ++ xs) (joined_line h.method h.target (print_version h.minor) (before_feed h.line_end) section)
    ∙ ap (λ xs. print_blank h.blank ++ (print_line (request_line h) ++ (xs ++ print_end h.last))) (fields_are_lines h.fields)

pub printed_is_text : (h : RequestHead) → IsRequestHead h → IsHeadText (print_request h) (map field_line h.fields)
printed_is_text h k = record {
  blank = h.blank;
  first = request_line h;
  last = h.last;
  first_filled = request_line_filled h k;
  lines_filled = fields_filled h.fields (recursion_from_All IsField h.fields k.fields);
  text_is = head_is h;
}

-- ---- in a head's text

pub a_line_a_field : (text behind : List ℕ) (lines : List (List ℕ)) (h : RequestHead) → IsHeadText text lines → ReadsRequest text h behind → (length lines ≡ length h.fields) × ([] ≡ behind)
a_line_a_field text behind lines h is_text reads =
    let same = one_head text text (print_request h) [] behind lines (map field_line h.fields) is_text (printed_is_text h reads.0) (sym (append-nil text)) reads.1 in
    (same.0 ∙ as_many_lines h.fields, same.1)

pub text_is_printed : (text behind : List ℕ) (lines : List (List ℕ)) (h : RequestHead) → IsHeadText text lines → ReadsRequest text h behind → text ≡ print_request h
text_is_printed text behind lines h is_text reads =
    reads.1 ∙ ap (λ r. print_request h ++ r) (sym (a_line_a_field text behind lines h is_text reads).1) ∙ append-nil (print_request h)
