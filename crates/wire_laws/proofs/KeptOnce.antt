-- Lists of which each element stays once.
use Rattle.std.proofs.Common.{◌≡◌, ◌∙◌, ℕ, List, [], ◌∷◌, refl, sym, ap, Bool, true, false, not, ◌&&◌, ◌⊎◌, inl, inr}
use Rattle.std.specs.Prelude.{filter}
use Rattle.std.specs.Str.{bytes_eq}
use Rattle.std.proofs.lemmas.Slice.Eq.{bytes_eq-Decides}
use Rattle.history_spec.proofs.of_plain_laws.Booleans.{both_true}
use Rattle.history_spec.proofs.of_plain_laws.Members.{Among, Among-from_Contains, Contains-from_Among, Among-from_filter, Among-filter}
use Rattle.history_spec.specs.fleet_rows.Texts.{sorted_texts}
use Rattle.history_spec.specs.fleet_rows.declared.catalog.Edge.{Edge}
use Rattle.history_spec.specs.fleet_rows.declared.catalog.Relationship.{Relationship}
use Rattle.history_spec.specs.fleet_rows.declared.catalog.Relationship.TheVariants as relationship
use Rattle.history_spec.specs.fleet_rows.declared.catalog.ResourceName.{ResourceName}
use Rattle.history_spec.specs.wire_spec.Table.{relationship_name, is_edge, distinct_edges}
use Rattle.wire_laws.specs.TableLaws.{EachEdgeStaysOnce, EachTextStaysOnceInOrder}
use Rattle.wire_laws.proofs.LawfulChanges.{edges_are_distinct}
use Rattle.wire_laws.proofs.SortedTexts.{sorted_texts_are_sorted, Among-sorted_texts, Among-from_sorted_texts}

-- ---- texts

pub each_text_stays_once : EachTextStaysOnceInOrder
each_text_stays_once xs = (
  λ x. (
    λ a. Contains-from_Among xs x (Among-from_sorted_texts x xs (Among-from_Contains (sorted_texts xs) x a)),
    λ a. Contains-from_Among (sorted_texts xs) x (Among-sorted_texts x xs (Among-from_Contains xs x a)),
  ),
  sorted_texts_are_sorted xs,
)

-- ---- edges

same_relationship : (r q : Relationship) → bytes_eq (relationship_name r) (relationship_name q) ≡ true → r ≡ q
same_relationship relationship.Contains relationship.Contains h = refl
same_relationship relationship.Contains relationship.Before h = absurd (let apart : false ≡ true = h in cc)
same_relationship relationship.Contains relationship.RequiredBy h = absurd (let apart : false ≡ true = h in cc)
same_relationship relationship.Contains relationship.Notifies h = absurd (let apart : false ≡ true = h in cc)
same_relationship relationship.Contains relationship.SubscriptionOf h = absurd (let apart : false ≡ true = h in cc)
same_relationship relationship.Before relationship.Contains h = absurd (let apart : false ≡ true = h in cc)
same_relationship relationship.Before relationship.Before h = refl
same_relationship relationship.Before relationship.RequiredBy h = absurd (let apart : false ≡ true = h in cc)
same_relationship relationship.Before relationship.Notifies h = absurd (let apart : false ≡ true = h in cc)
same_relationship relationship.Before relationship.SubscriptionOf h = absurd (let apart : false ≡ true = h in cc)
same_relationship relationship.RequiredBy relationship.Contains h = absurd (let apart : false ≡ true = h in cc)
same_relationship relationship.RequiredBy relationship.Before h = absurd (let apart : false ≡ true = h in cc)
same_relationship relationship.RequiredBy relationship.RequiredBy h = refl
same_relationship relationship.RequiredBy relationship.Notifies h = absurd (let apart : false ≡ true = h in cc)
same_relationship relationship.RequiredBy relationship.SubscriptionOf h = absurd (let apart : false ≡ true = h in cc)
same_relationship relationship.Notifies relationship.Contains h = absurd (let apart : false ≡ true = h in cc)
same_relationship relationship.Notifies relationship.Before h = absurd (let apart : false ≡ true = h in cc)
same_relationship relationship.Notifies relationship.RequiredBy h = absurd (let apart : false ≡ true = h in cc)
same_relationship relationship.Notifies relationship.Notifies h = refl
same_relationship relationship.Notifies relationship.SubscriptionOf h = absurd (let apart : false ≡ true = h in cc)
same_relationship relationship.SubscriptionOf relationship.Contains h = absurd (let apart : false ≡ true = h in cc)
same_relationship relationship.SubscriptionOf relationship.Before h = absurd (let apart : false ≡ true = h in cc)
same_relationship relationship.SubscriptionOf relationship.RequiredBy h = absurd (let apart : false ≡ true = h in cc)
same_relationship relationship.SubscriptionOf relationship.Notifies h = absurd (let apart : false ≡ true = h in cc)
same_relationship relationship.SubscriptionOf relationship.SubscriptionOf h = refl

-- edges that are found equal are one
same_edge : (e f : Edge) → is_edge e f ≡ true → e ≡ f
same_edge e f h =
    let last = both_true _ _ h in
    let title = both_true _ _ last.0 in
    let rtype = both_true _ _ title.0 in
    let source = both_true _ _ rtype.0 in
    let a = (bytes_eq-Decides e.source.rtype f.source.rtype).0 source.0 in
    let b = (bytes_eq-Decides e.source.title f.source.title).0 source.1 in
    let c = (bytes_eq-Decides e.target.rtype f.target.rtype).0 rtype.1 in
    let d = (bytes_eq-Decides e.target.title f.target.title).0 title.1 in
    let r = same_relationship e.relationship f.relationship last.1 in
    λ i. record { source = record { rtype = a i; title = b i }; target = record { rtype = c i; title = d i }; relationship = r i }

module _ (f : Edge) where
  from_distinct : (es : List Edge) → Among f (distinct_edges es) → Among f es
  from_distinct [] a = a
  from_distinct (e ∷ es) (inl same) = inl same
  from_distinct (e ∷ es) (inr a) = inr (from_distinct es (Among-from_filter (λ g. not (is_edge e g)) (distinct_edges es) f a).0)

  to_step : (b : Bool) (e : Edge) (es : List Edge) → is_edge e f ≡ b → Among f (distinct_edges es) → Among f (distinct_edges (e ∷ es))
  to_step true e es h a = inl (sym (same_edge e f h))
  to_step false e es h a = inr (Among-filter (λ g. not (is_edge e g)) (distinct_edges es) f a (ap not h))

  to_distinct : (es : List Edge) → Among f es → Among f (distinct_edges es)
  to_distinct [] a = a
  to_distinct (e ∷ es) (inl same) = inl same
  to_distinct (e ∷ es) (inr a) = to_step (is_edge e f) e es refl (to_distinct es a)

pub each_edge_stays_once : EachEdgeStaysOnce
each_edge_stays_once es = (
  λ e. (
    λ a. Contains-from_Among es e (from_distinct e es (Among-from_Contains (distinct_edges es) e a)),
    λ a. Contains-from_Among (distinct_edges es) e (to_distinct e es (Among-from_Contains es e a)),
  ),
  edges_are_distinct es,
)
