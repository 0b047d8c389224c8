-- Texts that are equal in their order are the same.
use Rattle.std.proofs.Common.{◌≡◌, ◌∙◌, ℕ, List, sym, ap}
use Rattle.std.specs.Ordering.{is_eq}
use Rattle.std.specs.declared.cmp.Ordering.TheVariants.{Equal}
use Rattle.std.proofs.lemmas.Map.Text.{is_eq-slice_cmp}
use Rattle.std.proofs.lemmas.Slice.Eq.{bytes_eq-Decides}
use Rattle.text_spec.specs.Compact.{text_cmp}

pub text_tied : (s t : List ℕ) → text_cmp s t ≡ Equal → s ≡ t
text_tied s t e = (bytes_eq-Decides s t).0 (sym (is_eq-slice_cmp s t) ∙ ap is_eq e)
