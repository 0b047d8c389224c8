-- Blocks of commands that stand one after the other, each of one node: those of a node are its block.
use Rattle.std.proofs.Common.{◌≡◌, ◌∙◌, inl, inr, ℕ, List, [], ◌∷◌, ◌++◌, refl, sym, ap, Bool, append-nil}
use Rattle.std.proofs.lemmas.List.Elements.{filter-append}
use Rattle.std.specs.List.{filter, flat_map}
use Rattle.std.specs.List.Sorted.{IsStrictlySortedBy}
use Rattle.std.specs.Str.{bytes_eq}
use Rattle.std.specs.declared.cmp.Ordering.{Ordering}
use Rattle.checkpoint_spec.specs.text_spec.Compact.{text_cmp}
use Rattle.checkpoint_spec.specs.fleet_rows.Change.{change_certname}
use Rattle.checkpoint_spec.specs.fleet_rows.declared.applied.Applied.{Applied}
use Rattle.checkpoint_spec.proofs.of_plain_laws.Booleans.{not_so}
use Rattle.checkpoint_spec.proofs.of_plain_laws.Lists.{bytes_eq-itself, one_text}
use Rattle.checkpoint_spec.proofs.of_plain_laws.Members.{Among}
use Rattle.checkpoint_spec.proofs.of_plain_laws.StrictlySorted.{sorted-below, sorted-rest}
use Rattle.checkpoint_spec.proofs.of_history_laws.SortedTexts.{apart_texts}
use Rattle.checkpoint_spec.proofs.of_table_machine.Ranked.{filter-none, filter-every}

abbrev pub is_of : List ℕ → Applied → Bool
is_of n x = bytes_eq n (change_certname x.change)

module _ {T : Type 0} (name : T → List ℕ) (block : T → List Applied) where
  abbrev pub IsOwn : T → Type 0
  IsOwn t = (x : Applied) → Among x (block t) → change_certname x.change ≡ name t

  abbrev pub AreOwn : List T → Type 0
  AreOwn ts = (t : T) → Among t ts → IsOwn t

  abbrev pub name_cmp : T → T → Ordering
  name_cmp t u = text_cmp (name t) (name u)

  all_of : (n : List ℕ) (t : T) → IsOwn t → n ≡ name t → filter (is_of n) (block t) ≡ block t
  all_of n t own same = filter-every (is_of n) (block t) (λ x a. ap (bytes_eq n) (own x a ∙ sym same) ∙ bytes_eq-itself n)

  none_of : (n : List ℕ) (t : T) → IsOwn t → (n ≡ name t → ⊥) → filter (is_of n) (block t) ≡ []
  none_of n t own apart = filter-none (is_of n) (block t) (λ x a. not_so (is_of n x) (λ h. apart (one_text n (change_certname x.change) h ∙ own x a)))

  none_of_all : (n : List ℕ) (ts : List T) → AreOwn ts → ((t : T) → Among t ts → n ≡ name t → ⊥) → filter (is_of n) (flat_map block ts) ≡ []
  none_of_all n [] own apart = refl
  none_of_all n (t ∷ ts) own apart =
      filter-append (is_of n) (block t) (flat_map block ts)
      ∙ (λ i. none_of n t (own t (inl refl)) (apart t (inl refl)) i ++ none_of_all n ts (λ u a. own u (inr a)) (λ u a. apart u (inr a)) i)

  pub one_block : (ts : List T) → IsStrictlySortedBy name_cmp ts → AreOwn ts → (t : T) → Among t ts → filter (is_of (name t)) (flat_map block ts) ≡ block t
  one_block [] s own t a = absurd a
  one_block (u ∷ ts) s own t (inl e) =
      filter-append (is_of (name t)) (block u) (flat_map block ts)
      ∙ (λ i. all_of (name t) u (own u (inl refl)) (ap name e) i
      ++ none_of_all (name t) ts (λ v b. own v (inr b)) (λ v b same. apart_texts (name u) (name v) (sorted-below name_cmp u ts s v b) (sym (ap name e) ∙ same)) i)
      ∙ append-nil (block u) ∙ ap block (sym e)
  one_block (u ∷ ts) s own t (inr a) =
      filter-append (is_of (name t)) (block u) (flat_map block ts)
      ∙ (λ i. none_of (name t) u (own u (inl refl)) (λ same. apart_texts (name u) (name t) (sorted-below name_cmp u ts s t a) (sym same)) i
      ++ one_block ts (sorted-rest name_cmp u ts s) (λ v b. own v (inr b)) t a i)
