-- The names of outputs, of which one that stands twice counts once.
use Rattle.std.proofs.Common.{◌≡◌, ◌∙◌, ℕ, List, [], ◌∷◌, ◌++◌, refl, sym, ap, subst, Bool, true, false}
use Rattle.std.specs.Prelude.{map, ◌||◌, if◌then◌else◌}
use Rattle.std.specs.Str.{bytes_eq}
use Rattle.std.proofs.Math.Bool.{or_assoc}
use Rattle.json_read.proofs.of_plain_laws.Lists.{one_text}
use Rattle.json_read.proofs.of_plain_laws.Booleans.{never}
use Rattle.ast_tree.specs.query_spec.declared.parts.Selected.{Selected}
use Rattle.ast_tree.specs.query_spec.Check.{has_output}
use Rattle.ast_tree.specs.query_spec.Parts.{output_name}
use Rattle.means_spec.specs.Shown.{distinct, distinct_behind}
use Rattle.paging_params.specs.Paging.{is_among}

among_outputs : (ss : List Selected) (name : List ℕ) → is_among (map output_name ss) name ≡ has_output ss name
among_outputs [] name = refl
among_outputs (s ∷ ss) name = ap (λ (b : Bool). bytes_eq (output_name s) name || b) (among_outputs ss name)

or_none : (a b : Bool) → a || (b || false) ≡ a || b
or_none true b = refl
or_none false true = refl
or_none false false = refl

behind_one : (earlier : List Selected) (s : Selected) (name : List ℕ) → has_output (earlier ++ s ∷ []) name ≡ has_output earlier name || bytes_eq (output_name s) name
behind_one [] s name = or_none false (bytes_eq (output_name s) name)
behind_one (x ∷ earlier) s name =
    ap (λ (b : Bool). bytes_eq (output_name x) name || b) (behind_one earlier s name)
    ∙ sym (or_assoc (bytes_eq (output_name x) name) (has_output earlier name) (bytes_eq (output_name s) name))

-- an output of a name that stands before adds no name
again : (e b d r : Bool) → (b ≡ true → e ≡ true) → e || d ≡ e || r → e || d ≡ e || (b || r)
again true b d r h same = refl
again false true d r h same = never false (h refl) refl
again false false d r h same = same

first_time : (e b d r : Bool) → (e || b) || d ≡ (e || b) || r → e || (b || d) ≡ e || (b || r)
first_time true b d r same = refl
first_time false b d r same = same

has_distinct : (earlier ss : List Selected) (name : List ℕ) → has_output earlier name || has_output (distinct_behind earlier ss) name ≡ has_output earlier name || has_output ss name
has_distinct earlier [] name = refl
has_distinct earlier (s ∷ ss) name = by_test (has_output earlier (output_name s)) refl (has_distinct earlier ss name) (has_distinct (earlier ++ s ∷ []) ss name)
  where
    by_test : (t : Bool) → has_output earlier (output_name s) ≡ t
        → has_output earlier name || has_output (distinct_behind earlier ss) name ≡ has_output earlier name || has_output ss name
        → has_output (earlier ++ s ∷ []) name || has_output (distinct_behind (earlier ++ s ∷ []) ss) name ≡ has_output (earlier ++ s ∷ []) name || has_output ss name
        → has_output earlier name || has_output (if t then distinct_behind earlier ss else s ∷ distinct_behind (earlier ++ s ∷ []) ss) name
        ≡ has_output earlier name || (bytes_eq (output_name s) name || has_output ss name)
    by_test true there behind more =
        again (has_output earlier name) (bytes_eq (output_name s) name) (has_output (distinct_behind earlier ss) name) (has_output ss name)
        (λ h. subst (λ n. has_output earlier n ≡ true) (one_text (output_name s) name h) there) behind
    by_test false there behind more =
        let d = has_output (distinct_behind (earlier ++ s ∷ []) ss) name in
        let r = has_output ss name in
        let split = behind_one earlier s name in
        first_time (has_output earlier name) (bytes_eq (output_name s) name) d r
        (ap (λ (b : Bool). b || d) (sym split) ∙ more ∙ ap (λ (b : Bool). b || r) split)

-- a name stands among those of the outputs where an output has it
pub is_output_name : (ss : List Selected) (name : List ℕ) → has_output ss name ≡ is_among (map output_name (distinct ss)) name
is_output_name ss name = sym (has_distinct [] ss name) ∙ sym (among_outputs (distinct ss) name)
