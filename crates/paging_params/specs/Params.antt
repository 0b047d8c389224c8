-- The parameters of a request, and the values that are read from them.
use Rattle.std.specs.Prelude.{ℕ, ◌&&◌, nat_lt, Bool, true, false, if◌then◌else◌, List, [], ◌∷◌, length, map, codes, Option, Some, None, ◌⊎◌}
use Rattle.std.specs.Option.{option_or}
use Rattle.std.specs.Char.{is_ascii_digit}
use Rattle.std.specs.List.{list_all}
use Rattle.std.specs.Str.{bytes_eq}
use Rattle.std.specs.Str.Parse.{digits_value}
use Rattle.std.proofs.Common.{inl, inr}
use Rattle.json_read.specs.text_spec.Json as json
use Rattle.json_read.specs.text_spec.Json.{Json}
use Rattle.json_read.specs.json_tree.Tree.{json_of}
use Rattle.paging_params.specs.declared.params.Param.{Param}
use Rattle.paging_params.specs.declared.params.Param.TheVariants.{Url, Body}

-- a text in a URL, or a JSON value in a body
abbrev pub ParamValue : Type 0
ParamValue = List ℕ ⊎ Json

abbrev pub url : List ℕ → ParamValue
url = inl

abbrev pub body : Json → ParamValue
body = inr

abbrev pub value_of : Param → ParamValue
value_of (Url text) = url text
value_of (Body value) = body (json_of value)

abbrev pub pair_of : List ℕ × Param → List ℕ × ParamValue
pair_of p = (p.0, value_of p.1)

abbrev pub pairs_of : List (List ℕ × Param) → List (List ℕ × ParamValue)
pairs_of = map pair_of

-- the last value under this name
abbrev pub last_under : {A : Type 0} → List ℕ → List (List ℕ × A) → Option A
last_under name [] = None
last_under name (p ∷ ps) = option_or (last_under name ps) (if bytes_eq p.0 name then Some p.1 else None)

-- ---- the value of a parameter, or none if it is bad

-- one digit or more and nothing else, for a number below 2^63
abbrev pub are_digits : List ℕ → Bool
are_digits text = nat_lt 0 (length text) && list_all is_ascii_digit text

abbrev pub below_limit : ℕ → Option ℕ
below_limit n = if nat_lt n 9_223_372_036_854_775_808 then Some n else None

abbrev pub count_of : List ℕ → Option ℕ
count_of text = if are_digits text then below_limit (digits_value 10 text) else None

abbrev pub count_in : ParamValue → Option ℕ
count_in (inl text) = count_of text
count_in (inr (json.number spelling)) = count_of spelling
count_in (inr _) = None

abbrev pub truth_of : List ℕ → Option Bool
truth_of text = if bytes_eq text (codes "true") then Some true else (if bytes_eq text (codes "false") then Some false else None)

abbrev pub truth_in : ParamValue → Option Bool
truth_in (inl text) = truth_of text
truth_in (inr (json.boolean b)) = Some b
truth_in (inr _) = None
