-- The parameters of a URL: application/x-www-form-urlencoded (the URL Standard, section 5). As in the standard, bytes that aren't
-- UTF-8 become replacement characters.
use Rattle.std.specs.Prelude.{ℕ, List, map}
use Rattle.std.specs.Str.Lossy.{utf8_lossy}
use Rattle.form_urlencoded.specs.Form.{raw_pairs, decode}

-- names and values in their order
abbrev pub Parameters : Type 0
Parameters = List (List ℕ × List ℕ)

abbrev pub decoded : List ℕ → List ℕ
decoded bytes = utf8_lossy (decode bytes)

abbrev pub decoded_pair : List ℕ × List ℕ → List ℕ × List ℕ
decoded_pair p = (decoded p.0, decoded p.1)

abbrev pub parameters_of : List ℕ → Parameters
parameters_of query = map decoded_pair (raw_pairs query)
