-- Spans and the fields that they cover.
use Rattle.std.proofs.Common.{◌≡◌, ◌∙◌, ℕ, List, [], ◌∷◌, arith, refl, sym, ap}
use Rattle.std.specs.Prelude.{map, take, drop, length, All, ◌≤◌}
use Rattle.std.proofs.lemmas.List.{length-map, length-take}
use Rattle.httparse.specs.Grammar.{Field, RequestHead}
use Rattle.httparse.specs.declared.spans.Span.{Span}
use Rattle.httparse.specs.declared.spans.RequestSpans.{RequestSpans}
use Rattle.httparse.specs.declared.spans.HeaderSpan.{HeaderSpan}
use Rattle.httparse.specs.Spans.{IsWithin, IsHeaderWithin, span_bytes, header_bytes, name_and_value, AreFieldsAt, IsRequestAt}
use Rattle.http_spec.specs.Framing.{heads_of}
use Rattle.http_front.specs.declared.head.Parts.{Parts}
use Rattle.http_front.specs.Heads.{pair_head, ArePartsOf}
use Rattle.http_spec.specs.Limits.{most_lines}

paired : {X : Type 0} (f : X → List ℕ × List ℕ) (xs : List X) → map (λ x. pair_head (f x)) xs ≡ map pair_head (map f xs)
paired f [] = refl
paired f (x ∷ xs) = ap (λ ys. pair_head (f x) ∷ ys) (paired f xs)

pub fields_copied : (text : List ℕ) (spans : List HeaderSpan) (count : ℕ) (fields : List Field) → AreFieldsAt text spans count fields → map (λ span. pair_head (header_bytes text span)) (take count spans) ≡ heads_of fields
fields_copied text spans count fields h =
    paired (header_bytes text) (take count spans) ∙ ap (map pair_head) h ∙ sym (paired name_and_value fields)

-- ---- what is within the head is within the text

pub span_within : (m n : ℕ) (s : Span) → m ≤ n → IsWithin m s → IsWithin n s
span_within m n s h k = (k.0, omega (arith, h, k.1))

pub spans_within : (m n : ℕ) (spans : List HeaderSpan) → m ≤ n → All (IsHeaderWithin m) spans → All (IsHeaderWithin n) spans
spans_within m n spans h k i d inside = let there = k i d inside in (span_within m n _ h there.0, span_within m n _ h there.1)

-- ---- the parts of a head

as_many : {X Y : Type 0} (f : X → List ℕ × List ℕ) (g : Y → List ℕ × List ℕ) (xs : List X) (ys : List Y) → map f xs ≡ map g ys → length ys ≡ length xs
as_many f g xs ys h = sym (length-map ys g) ∙ ap length (sym h) ∙ length-map xs f

pub parts_are : (text : List ℕ) (spans : List HeaderSpan) (r : RequestSpans) (h : RequestHead) (parts : Parts) → IsRequestAt text spans r h → length spans ≡ most_lines
    → parts.method ≡ span_bytes text r.method → parts.target ≡ span_bytes text r.path
    → parts.headers ≡ map (λ span. pair_head (header_bytes text span)) (take r.headers spans) → parts.minor ≡ r.version → ArePartsOf parts text
parts_are text spans r h parts at room method target headers minor =
    let many = as_many (header_bytes text) name_and_value (take r.headers spans) h.fields at.fields in
    let few = length-take-le_all r.headers spans in
    record {
      head = h;
      behind = drop r.len text;
      reads = at.reads;
      few = omega (arith, many, few, room);
      method = method ∙ at.method;
      target = target ∙ at.path;
      headers = headers ∙ fields_copied text spans r.headers h.fields at.fields;
      minor = minor ∙ at.version;
    }
  where
    length-take-le_all : (n : ℕ) (xs : List HeaderSpan) → length (take n xs) ≤ length xs
    length-take-le_all n xs = omega (arith, length-take n xs)
