-- The rows of an entity that a filter chooses, and the right side of `in`, from what is read of the parts.
use Rattle.std.proofs.Common.{◌≡◌, ◌∙◌, ℕ, List, [], ◌∷◌, ◌++◌, map, Some, Ok, refl, sym, ap}
use Rattle.json_read.specs.text_spec.Json.{Json, Items, array, string, item, no_items}
use Rattle.query_spec.specs.declared.parts.Field.{Field}
use Rattle.query_spec.specs.declared.parts.Name.{Name}
use Rattle.query_spec.specs.declared.parts.Selected.TheVariants.{Column}
use Rattle.query_spec.specs.declared.words.InnerWord.TheVariants.{Extract, From}
use Rattle.query_spec.specs.Ast.{Read, ◌>>=◌, filter_at, entity_behind, inner_at, query_within, rows_of_at, select_at}
use Rattle.query_spec.specs.Parts.{unpaged}
use Rattle.query_spec.specs.Query.{Filter, clause, Level, level}
use Rattle.query_spec.specs.Words.{behind_select, inner_word}
use Rattle.ast_reader.specs.Among.{rows_among}
use Rattle.ast_parts.specs.declared.fault.FormFault.{FormFault}
use Rattle.ast_parts.specs.declared.fault.FormFault.TheVariants.{NoForm, Memory}
use Rattle.ast_parts.specs.Gives.{Fails}

-- what is read of the entity and the filter
rows : List Name → Read Name → Read Filter → Read Level
rows cs e f = e >>= λ e. f >>= λ f. Ok (level e (Some (map Column cs)) (clause f) [] unpaged)

rows_are : (d : ℕ) (p q : List ℕ) (cs : List Name) (w : List ℕ) (v : Json) (e : Name) → q ≡ p ++ 1 ∷ [] → entity_behind p (behind_select w) ≡ Ok e → rows_of_at d p cs (array (item (string w) (item v no_items))) ≡ rows cs (Ok e) (filter_at d q v)
unfolding rows
rows_are d p q cs w v e place entity =
    ap (λ x. rows cs x (filter_at d (p ++ 1 ∷ []) v)) entity ∙ ap (λ x. rows cs (Ok e) (filter_at d x v)) (sym place)

pub rows_fail : (x : FormFault) (d : ℕ) (p q : List ℕ) (cs : List Name) (w : List ℕ) (v : Json) (e : Name) → q ≡ p ++ 1 ∷ [] → entity_behind p (behind_select w) ≡ Ok e → Fails x (filter_at d q v) → Fails x (rows_of_at d p cs (array (item (string w) (item v no_items))))
unfolding rows
rows_fail (NoForm r) d p q cs w v e place entity h = rows_are d p q cs w v e place entity ∙ ap (λ f. rows cs (Ok e) f) h
rows_fail Memory d p q cs w v e place entity h = tt

pub rows_chosen : (d : ℕ) (p q : List ℕ) (cs : List Name) (w : List ℕ) (v : Json) (e : Name) (f : Filter) → q ≡ p ++ 1 ∷ [] → entity_behind p (behind_select w) ≡ Ok e → filter_at d q v ≡ Ok f → rows_of_at d p cs (array (item (string w) (item v no_items))) ≡ Ok (level e (Some (map Column cs)) (clause f) [] unpaged)
unfolding rows
rows_chosen d p q cs w v e f place entity h = rows_are d p q cs w v e place entity ∙ ap (λ f. rows cs (Ok e) f) h

-- ---- the right side of `in`, by its word

pub selects : (d : ℕ) (p : List ℕ) (fs : List Field) (h : List ℕ) (vs : Items) → inner_word h ≡ Extract → inner_at d p fs (array (item (string h) vs)) ≡ rows_among fs p (select_at d p vs)
selects d p fs h vs e = rw (e, inner_at) refl

pub queries : (d : ℕ) (p : List ℕ) (fs : List Field) (h : List ℕ) (vs : Items) → inner_word h ≡ From → inner_at d p fs (array (item (string h) vs)) ≡ rows_among fs p (query_within d p vs)
queries d p fs h vs e = rw (e, inner_at) refl
