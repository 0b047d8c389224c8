-- What is made is a spool.
use Rattle.std.proofs.Common.{◌≡◌, ◌∙◌, ℕ, zero, suc, ◌+◌, ◌*◌, ◌^◌, ◌<◌, ◌≤◌, ℤ, List, [], ◌∷◌, ◌++◌, length, refl, sym, ap, arith, append_assoc, append-nil, length-append}
use Rattle.made_spec.specs.fleet_rows.declared.command.Command.{Command}
use Rattle.made_spec.specs.history_spec.Thread.{Item, command}
use Rattle.made_spec.specs.spool_spec.Spool.{IsCommandText, ItemsFrom, SpoolOf, whole}
use Rattle.made_spec.specs.Made.{number, made_command, item_text, made_text}
use Rattle.spool_maker.specs.Items.{made_items}
use Rattle.spool_maker.proofs.Sizes.{payload_size, version_size, item_size}
use Rattle.made_spec.specs.spool_spec.Limits.{most_spool}

-- one command more at the end
behind : (received : ℤ) (p : ℕ) (bytes : List ℕ) (items : List Item) (c : Command) (text : List ℕ) → ItemsFrom received p bytes items whole → IsCommandText received c text
    → p + length bytes + length text ≤ most_spool → ItemsFrom received p (bytes ++ text) (items ++ command c ∷ []) whole
behind received p bytes [] c text from is ends =
    (text, [], is, ap (λ (b : List ℕ). b ++ text) from ∙ sym (append-nil text), omega (arith, ends), refl)
behind received p bytes (item ∷ items) c text from is ends =
    let size : length bytes ≡ length from.0 + length from.1 = ap length from.3 ∙ length-append from.0 from.1 in (
      from.0,
      from.1 ++ text,
      from.2,
      ap (λ (b : List ℕ). b ++ text) from.3 ∙ append_assoc from.0 from.1 text,
      from.4,
      behind received (p + length from.0) from.1 items c text from.5 is (omega (arith, ends, size)),
    )

is_command : (received : ℤ) (i x : ℕ) → i < 2 ^ 32 → IsCommandText received (made_command received i x) (item_text i x)
is_command received i x small = record {
  text_is = refl;
  version = omega (arith, version_size i);
  payload = omega (arith, payload_size i x small);
  received_is = refl;
}

pub made_size : (seed n : ℕ) → n ≤ 2 ^ 32 → length (made_text seed n) ≤ n * 2048
unfolding made_text
made_size seed zero h = omega arith
made_size seed (suc i) h =
    let before = made_size seed i (omega (arith, h)) in
    let item = item_size i (number seed (suc i)) (omega (arith, h)) in
    omega (arith, before, item, length-append (made_text seed i) (item_text i (number seed (suc i))))

pub is_spool : (received : ℤ) (seed n : ℕ) → n ≤ 2 ^ 32 → SpoolOf received (made_text seed n) (made_items received seed n) whole
unfolding made_text made_items
is_spool received seed zero h = refl
is_spool received seed (suc i) h =
    let x = number seed (suc i) in
    let before = made_size seed i (omega (arith, h)) in
    let item = item_size i x (omega (arith, h)) in
    behind received 0 (made_text seed i) (made_items received seed i) (made_command received i x) (item_text i x) (is_spool received seed i (omega (arith, h))) (is_command received i x (omega (arith, h)))
    (omega (arith, before, item, h))

pub so_many : (received : ℤ) (seed n : ℕ) → length (made_items received seed n) ≡ n
unfolding made_items
so_many received seed zero = refl
so_many received seed (suc i) =
    omega (arith, so_many received seed i, length-append (made_items received seed i) (command (made_command received i (number seed (suc i))) ∷ []))
