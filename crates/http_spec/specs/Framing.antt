-- Header fields by name, and what they say about the body and the connection (RFC 9110, sections 5.1, 7.6.1 and 8.6; RFC 9112,
-- sections 6 and 9).
use Rattle.std.specs.Prelude.{ℕ, Bool, ◌&&◌, ◌||◌, ◌==◌, nat_le, nat_lt, if◌then◌else◌, List, [], ◌∷◌, length, map, filter, codes, bytes_eq, Option, Some, None}
use Rattle.std.specs.List.{list_all, list_any, slice_split}
use Rattle.std.specs.Char.{is_ascii_digit}
use Rattle.std.specs.Str.{str_eq_ignore_ascii_case}
use Rattle.std.specs.Str.Parse.{digits_value}
use Rattle.httparse.specs.Grammar.{Field, field_value, is_ows}
use Rattle.http_spec.specs.declared.request.Head.{Head}
use Rattle.http_spec.specs.declared.request.HttpFault.{HttpFault}
use Rattle.http_spec.specs.declared.request.HttpFault.TheVariants as fault
use Rattle.json_tree.specs.Limits.{most_payload}

-- the length of the body, or why it is unknown
pub data Framing : Type 0 where
  sized : ℕ → Framing
  refused : HttpFault → Framing

-- a field of the grammar, without the white space around its value
abbrev pub head_of : Field → Head
head_of f = record { name = f.name; value = field_value f }

abbrev pub heads_of : List Field → List Head
heads_of fields = map head_of fields

-- names are compared without regard to ASCII case
abbrev pub is_named : List ℕ → Head → Bool
is_named name head = str_eq_ignore_ascii_case head.name name

-- the values of all fields with this name, in order
abbrev pub values_of : List ℕ → List Head → List (List ℕ)
values_of name heads = map (λ (h : Head). h.value) (filter (is_named name) heads)

-- the first value, if there is one
abbrev pub first_of : List (List ℕ) → Option (List ℕ)
first_of [] = None
first_of (value ∷ values) = Some value

-- one or more digits and nothing else
abbrev pub is_length : List ℕ → Bool
is_length value = nat_lt 0 (length value) && list_all is_ascii_digit value

abbrev pub within_limit : ℕ → Framing
within_limit n = if nat_le n most_payload then sized n else refused fault.BodyTooLarge

-- all lengths must be equal digit by digit; without a length, a POST is refused and any other request has no body
abbrev pub by_lengths : List ℕ → List (List ℕ) → Framing
by_lengths method [] = if bytes_eq method (codes "POST") then refused fault.NoLength else sized 0
by_lengths method (value ∷ values) =
    if is_length value && list_all (λ other. bytes_eq other value) values
    then within_limit (digits_value 10 value)
    else refused fault.BadLength

abbrev pub by_codings : List ℕ → List (List ℕ) → List (List ℕ) → Framing
by_codings method [] lengths = by_lengths method lengths
by_codings method (_ ∷ _) lengths = refused fault.NoLength

-- any transfer coding is refused
abbrev pub framing : List ℕ → List Head → Framing
framing method heads = by_codings method (values_of (codes "transfer-encoding") heads) (values_of (codes "content-length") heads)

-- a byte that separates the options of a `Connection`
abbrev pub is_between : ℕ → Bool
is_between c = c == 44 || is_ows c

-- the value contains the option `close`, in any case
abbrev pub says_close : List ℕ → Bool
says_close value = list_any (λ option. str_eq_ignore_ascii_case option (codes "close")) (slice_split is_between value)

-- the connection closes after this request: it is HTTP/1.0, or a `Connection` field says so
abbrev pub ends_link : ℕ → List Head → Bool
ends_link minor heads = minor == 0 || list_any says_close (values_of (codes "connection") heads)
