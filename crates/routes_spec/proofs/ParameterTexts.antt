-- Names and values that decode to ASCII are what they decode to.
use Rattle.std.proofs.Common.{◌≡◌, ◌∙◌, ℕ, List, [], ◌∷◌, refl, ap, true}
use Rattle.std.specs.Prelude.{codes, nat_lt}
use Rattle.std.specs.List.{list_all}
use Rattle.std.specs.Str.Lossy.{utf8_lossy}
use Rattle.std.proofs.lemmas.Str.{IsUtf8-from_ascii, utf8_lossy-IsUtf8}
use Rattle.form_urlencoded.specs.Form.{decode}
use Rattle.form_urlencoded.proofs.OnLiterals.{form_urlencoded_on_literals}
use Rattle.http_spec.proofs.Links.{all_ascii}
use Rattle.routes_spec.specs.Parameters.{decoded, parameters_of}

decodes_to : (raw text : List ℕ) → decode raw ≡ text → list_all (λ c. nat_lt c 128) text ≡ true → decoded raw ≡ text
decodes_to raw text is ascii = ap utf8_lossy is ∙ utf8_lossy-IsUtf8 text (IsUtf8-from_ascii text (all_ascii text ascii))

pub three_parameters : parameters_of (codes "a=1&b=%20+x&&c") ≡ (codes "a", codes "1") ∷ (codes "b", codes "  x") ∷ (codes "c", []) ∷ []
unfolding form_urlencoded_on_literals
three_parameters = λ i.
    (decodes_to (codes "a") (codes "a") refl refl i, decodes_to (codes "1") (codes "1") refl refl i)
    ∷ (decodes_to (codes "b") (codes "b") refl refl i, decodes_to (codes "%20+x") (codes "  x") refl refl i)
    ∷ (decodes_to (codes "c") (codes "c") refl refl i, decodes_to [] [] refl refl i)
    ∷ []
