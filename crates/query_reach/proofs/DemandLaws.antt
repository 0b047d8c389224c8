-- What pins demand of a column, one more text at a time.
use Rattle.std.proofs.Common.{◌≡◌, ◌∙◌, ℕ, ◌+◌, ◌<◌, List, [], ◌∷◌, ◌++◌, length, take, get_or, refl, sym, ap, Bool, true, false, ◌&&◌, if◌then◌else◌}
use Rattle.std.specs.Str.{bytes_eq}
use Rattle.std.proofs.lemmas.List.Folds.{list_all-append}
use Rattle.std.proofs.lemmas.List.{take_more}
use Rattle.ast_tree.proofs.of_plain_laws.Booleans.{both_true, not_so, never}
use Rattle.ast_tree.proofs.of_plain_laws.Lists.{one_text, bytes_eq-itself, map_both}
use Rattle.query_plan.specs.table_spec.fleet_rows.Cell.{CellValue}
use Rattle.query_plan.specs.table_spec.Cells.{text_cell}
use Rattle.query_plan.specs.table_spec.Named.{text_equals}
use Rattle.query_reach.specs.Demands.{is_each, told_of}
use Rattle.query_reach.specs.Reach as reach
use Rattle.query_reach.specs.Reach.{demanded}
use Rattle.query_reach.specs.Seen.{pin_seen, pins_seen}
use Rattle.query_reach.specs.declared.pins.Pin.{Pin}

and-true : (a : Bool) → (a && true) ≡ a
and-true true = refl
and-true false = refl

and-itself : (a : Bool) → (a && a) ≡ a
and-itself true = refl
and-itself false = refl

-- ---- one more text

each_more : (texts : List (List ℕ)) (text : List ℕ) (x : CellValue) → is_each (texts ++ text ∷ []) x ≡ (is_each texts x && text_equals text x)
each_more texts text x =
    list_all-append (λ t. text_equals t x) texts (text ∷ []) ∙ ap (λ b. is_each texts x && b) (and-true (text_equals text x))

pub first_text : (texts : List (List ℕ)) (text : List ℕ) → texts ≡ [] → (x : CellValue) → is_each (texts ++ text ∷ []) x ≡ text_equals text x
first_text texts text none x = each_more texts text x ∙ ap (λ ts. is_each ts x && text_equals text x) none

pub same_text_again : (texts : List (List ℕ)) (other text : List ℕ) → ((x : CellValue) → is_each texts x ≡ text_equals other x) → bytes_eq other text ≡ true → (x : CellValue)
    → is_each (texts ++ text ∷ []) x ≡ text_equals other x
same_text_again texts other text so_far same x =
    each_more texts text x
    ∙ (λ i. so_far x i && text_equals (sym (one_text other text same) i) x)
    ∙ and-itself (text_equals other x)

pub other_text : (texts : List (List ℕ)) (other text : List ℕ) → ((x : CellValue) → is_each texts x ≡ text_equals other x) → bytes_eq other text ≡ false → (s : List ℕ)
    → is_each (texts ++ text ∷ []) (text_cell s) ≡ false
other_text texts other text so_far apart s =
    each_more texts text (text_cell s)
    ∙ ap (λ b. b && text_equals text (text_cell s)) (so_far (text_cell s))
    ∙ not_so (text_equals other (text_cell s) && text_equals text (text_cell s)) (λ both.
    let parts = both_true (text_equals other (text_cell s)) (text_equals text (text_cell s)) both in
    let one : s ≡ other = one_text s other parts.0 in
    let two : s ≡ text = one_text s text parts.1 in
    let alike : bytes_eq other text ≡ true = ap (λ t. bytes_eq other t) (sym two ∙ one) ∙ bytes_eq-itself other in
    never (bytes_eq other text) alike apart)

pub still_different : (texts : List (List ℕ)) (text : List ℕ) → ((s : List ℕ) → is_each texts (text_cell s) ≡ false) → (s : List ℕ) → is_each (texts ++ text ∷ []) (text_cell s) ≡ false
still_different texts text so_far s = each_more texts text (text_cell s) ∙ ap (λ b. b && text_equals text (text_cell s)) (so_far s)

-- ---- one more pin

more_step : (b : Bool) (text : List ℕ) (xs ys zs : List (List ℕ)) → xs ≡ ys ++ zs → (if b then text ∷ xs else xs) ≡ (if b then text ∷ ys else ys) ++ zs
more_step true text xs ys zs h = ap (λ l. text ∷ l) h
more_step false text xs ys zs h = h

demanded_both : (column : List ℕ) (ps qs : List reach.Pin) → demanded column (ps ++ qs) ≡ demanded column ps ++ demanded column qs
demanded_both column [] qs = refl
demanded_both column (p ∷ ps) qs =
    more_step (bytes_eq column p.column) p.text (demanded column (ps ++ qs)) (demanded column ps) (demanded column qs) (demanded_both column ps qs)

pub pin_more : (column : List ℕ) (pins : List Pin) (i : ℕ) (p : Pin) → i < length pins → p ≡ get_or pins i p
    → demanded column (pins_seen (take i pins)) ++ told_of column (pin_seen p) ≡ demanded column (pins_seen (take (i + 1) pins))
pin_more column pins i p lt at =
    sym
    (ap (λ l. demanded column (pins_seen l)) (take_more pins i p lt ∙ ap (λ q. take i pins ++ q ∷ []) (sym at))
    ∙ ap (demanded column) (map_both pin_seen (take i pins) (p ∷ []))
    ∙ demanded_both column (pins_seen (take i pins)) (pin_seen p ∷ []))
