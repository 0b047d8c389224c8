-- How long the text of an item may be.
use Rattle.std.proofs.Common.{ℕ, ◌/◌, ◌%◌, ◌^◌, ◌<◌, ◌≤◌, Bool, true, false, cond, eqb, List, [], ◌∷◌, ◌++◌, length, arith, lit<, lit≤, length-append}
use Rattle.std.specs.Prelude.{decimal}
use Rattle.std.proofs.lemmas.Fmt.{length-decimal-le}
use Rattle.made_spec.specs.fleet_rows.declared.command.Kind.{Kind}
use Rattle.made_spec.specs.fleet_rows.declared.command.Kind.TheVariants.{Facts, Catalog, Report, Deactivate, Expiration}
use Rattle.made_spec.specs.spool_spec.Spool.{kind_word}
use Rattle.made_spec.specs.Made.{second_text, node_name, stamp, facts_payload, catalog_payload, report_payload, made_payload, made_kind, made_version, item_text}

-- ---- payloads

few_digits : (n : ℕ) → n < 2 ^ 32 → length (decimal n) ≤ 10
few_digits n h = length-decimal-le 10 n (omega arith) (omega (arith, h)) (omega (arith, h))

name_size : (x : ℕ) → length (node_name x) ≤ 14
name_size x = omega (arith, few_digits (x / 2 ^ 33 % 50) (omega arith))

stamp_size : (s : ℕ) → length (second_text s) ≤ 20
unfolding second_text
stamp_size s = lit≤ tt

module _ (node stamp : List ℕ) (n : ℕ) (small : n < 2 ^ 32) (name : length node ≤ 14) (twenty : length stamp ≤ 20) where
  facts_size : length (facts_payload node n stamp) ≤ 1000
  unfolding facts_payload
  facts_size = simp length-append (omega (arith, few_digits n small))

  catalog_size : length (catalog_payload node n stamp) ≤ 1000
  unfolding catalog_payload
  catalog_size = simp length-append (omega (arith, few_digits n small))

  report_size : length (report_payload node n stamp) ≤ 1000
  unfolding report_payload
  report_size = simp length-append (omega (arith, few_digits n small))

pub payload_size : (i x : ℕ) → i < 2 ^ 32 → length (made_payload i x) ≤ 1000
unfolding made_payload
payload_size i x small = by_tests (eqb (i % 4) 2) (eqb (i % 4) 3)
  where
    by_tests : (b d : Bool) → length (cond b (catalog_payload (node_name x) (i % 7) (stamp x)) (cond d (report_payload (node_name x) i (stamp x)) (facts_payload (node_name x) i (stamp x)))) ≤ 1000
    by_tests true d = catalog_size (node_name x) (stamp x) (i % 7) (omega arith) (name_size x) (stamp_size (x / 2 ^ 40 % 86_400))
    by_tests false true = report_size (node_name x) (stamp x) i small (name_size x) (stamp_size (x / 2 ^ 40 % 86_400))
    by_tests false false = facts_size (node_name x) (stamp x) i small (name_size x) (stamp_size (x / 2 ^ 40 % 86_400))

-- ---- items

pub version_size : (i : ℕ) → made_version i < 10
version_size i = by_tests (eqb (i % 4) 2) (eqb (i % 4) 3)
  where
    by_tests : (b d : Bool) → cond b 9 (cond d 8 5) < 10
    by_tests true d = lit< tt
    by_tests false true = lit< tt
    by_tests false false = lit< tt

word_size : (k : Kind) → length (kind_word k) ≤ 30
word_size Facts = lit≤ tt
word_size Catalog = lit≤ tt
word_size Report = lit≤ tt
word_size Deactivate = lit≤ tt
word_size Expiration = lit≤ tt

command_size : (word payload : List ℕ) (version : ℕ) → length word ≤ 30 → version < 10 → length payload ≤ 1000
    → length (word ++ 32 ∷ (decimal version ++ 32 ∷ (decimal (length payload) ++ 10 ∷ (payload ++ 10 ∷ [])))) ≤ 2048
command_size word payload version short one most =
    simp length-append (omega (arith, few_digits version (omega (arith, one)), few_digits (length payload) (omega (arith, most))))

pub item_size : (i x : ℕ) → i < 2 ^ 32 → length (item_text i x) ≤ 2048
item_size i x small = command_size (kind_word (made_kind i)) (made_payload i x) (made_version i) (word_size (made_kind i)) (version_size i) (payload_size i x small)
