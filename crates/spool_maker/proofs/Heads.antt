-- What stands before the length of an item's payload.
use Rattle.std.proofs.Common.{◌≡◌, ℕ, ◌%◌, [], ◌∷◌, ◌++◌, false, eqb, codes, refl, arith, lit<}
use Rattle.std.specs.Prelude.{decimal}
use Rattle.std.proofs.lemmas.Fmt.{decimal_digit}
use Rattle.std.proofs.lemmas.Bool.Decides.{nat_tests}
use Rattle.made_spec.specs.spool_spec.Spool.{kind_word}
use Rattle.made_spec.specs.Made.{made_kind, made_version}

pub catalog_head : (i : ℕ) → i % 4 ≡ 2 → codes "replace_catalog 9 " ≡ kind_word (made_kind i) ++ 32 ∷ (decimal (made_version i) ++ 32 ∷ [])
catalog_head i e = rw (e, decimal_digit 9 (lit< tt)) refl

pub report_head : (i : ℕ) → i % 4 ≡ 3 → codes "store_report 8 " ≡ kind_word (made_kind i) ++ 32 ∷ (decimal (made_version i) ++ 32 ∷ [])
report_head i e = rw (e, decimal_digit 8 (lit< tt)) refl

pub facts_head : (i : ℕ) → (i % 4 ≡ 2 → ⊥) → (i % 4 ≡ 3 → ⊥) → codes "replace_facts 5 " ≡ kind_word (made_kind i) ++ 32 ∷ (decimal (made_version i) ++ 32 ∷ [])
facts_head i no_catalog no_report =
    let a : eqb (i % 4) 2 ≡ false = grind (arith, nat_tests) in
    let b : eqb (i % 4) 3 ≡ false = grind (arith, nat_tests) in
    rw (a, b, decimal_digit 5 (lit< tt)) refl
