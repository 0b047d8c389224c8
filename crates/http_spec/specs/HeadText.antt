-- The text of a request's head, as a relation on bytes (RFC 9112, sections 2.1 and 2.2). A line ends with LF or CR LF.
use Rattle.std.specs.Prelude.{◌≡◌, ◌≢◌, ℕ, ◌≤◌, List, [], ◌∷◌, ◌++◌, length}
use Rattle.std.specs.List.{AllByRecursion, flat_map}
use Rattle.httparse.specs.Grammar.{LineEnd, print_end, print_blank}
use Rattle.http_spec.specs.Limits.{most_head}

-- A nonempty line without its line feed: neither no bytes nor the single CR of an empty line.
pub record IsFilled (line : List ℕ) : Type 0 where
  pub no_feed : AllByRecursion (λ c. c ≢ 10) line
  pub some : line ≢ []
  pub more : line ≢ 13 ∷ []

abbrev pub print_line : List ℕ → List ℕ
print_line line = line ++ 10 ∷ []

-- Empty lines, the request line, these lines, and the empty line that ends the head.
pub record IsHeadText (text : List ℕ) (lines : List (List ℕ)) : Type 0 where
  pub blank : List LineEnd
  pub first : List ℕ
  pub last : LineEnd
  pub first_filled : IsFilled first
  pub lines_filled : AllByRecursion IsFilled lines
  pub text_is : text ≡ print_blank blank ++ (print_line first ++ (flat_map print_line lines ++ print_end last))

-- the bytes begin with a head's text that isn't too long
pub record BeginsWithHead (bytes text rest : List ℕ) (lines : List (List ℕ)) : Type 0 where
  pub is_head : IsHeadText text lines
  pub bytes_are : bytes ≡ text ++ rest
  pub short : length text ≤ most_head

-- the bytes begin with no such text
abbrev pub HasNoHead : List ℕ → Type 0
HasNoHead bytes = (text rest : List ℕ) (lines : List (List ℕ)) → ¬ BeginsWithHead bytes text rest lines
