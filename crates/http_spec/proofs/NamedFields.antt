-- Fields one by one, and the first field of a name.
use Rattle.std.proofs.Common.{◌≡◌, ◌∙◌, ℕ, ◌+◌, ◌<◌, List, [], ◌∷◌, ◌++◌, length, drop, get_or, refl, sym, ap, Bool, true, false, cond, Some, None}
use Rattle.std.specs.Prelude.{bytes_eq, map, if◌then◌else◌, filter}
use Rattle.std.specs.List.{AllByRecursion}
use Rattle.std.specs.Str.{str_to_ascii_lowercase, str_eq_ignore_ascii_case}
use Rattle.std.proofs.lemmas.List.{drop_more}
use Rattle.std.proofs.lemmas.Slice.Eq.{bytes_eq-Decides}
use Rattle.json_tree.proofs.of_plain_laws.Options.{some_none}
use Rattle.http_spec.specs.declared.request.Head.{Head}
use Rattle.http_spec.specs.Framing.{is_named, values_of, first_of}

-- ---- fields one by one

values-named : (name : List ℕ) (head : Head) (heads : List Head) (b : Bool) → is_named name head ≡ b → values_of name (head ∷ heads) ≡ (if b then head.value ∷ values_of name heads else values_of name heads)
values-named name head heads true h = ap (λ (t : Bool). map (λ (h : Head). h.value) (cond t (head ∷ filter (is_named name) heads) (filter (is_named name) heads))) h
values-named name head heads false h = ap (λ (t : Bool). map (λ (h : Head). h.value) (cond t (head ∷ filter (is_named name) heads) (filter (is_named name) heads))) h

one_more : (heads : List Head) (i : ℕ) (head : Head) → i < length heads → head ≡ get_or heads i head → drop i heads ≡ head ∷ drop (i + 1) heads
one_more heads i head inside is = drop_more heads i head inside ∙ ap (λ x. x ∷ drop (i + 1) heads) (sym is)

-- the field at the place has the name, and it is the next one of that name
pub named_there : (name : List ℕ) (heads : List Head) (i : ℕ) (head : Head) → i < length heads → head ≡ get_or heads i head → is_named name head ≡ true
    → values_of name (drop i heads) ≡ head.value ∷ values_of name (drop (i + 1) heads)
named_there name heads i head inside is h = ap (values_of name) (one_more heads i head inside is) ∙ values-named name head (drop (i + 1) heads) true h

pub not_named_there : (name : List ℕ) (heads : List Head) (i : ℕ) (head : Head) → i < length heads → head ≡ get_or heads i head → is_named name head ≡ false
    → values_of name (drop i heads) ≡ values_of name (drop (i + 1) heads)
not_named_there name heads i head inside is h = ap (values_of name) (one_more heads i head inside is) ∙ values-named name head (drop (i + 1) heads) false h

-- ---- the first field of a name

pub first_found : (name : List ℕ) (before after : List Head) (head : Head) → AllByRecursion (λ (h : Head). is_named name h ≡ false) before → is_named name head ≡ true
    → first_of (values_of name (before ++ head ∷ after)) ≡ Some head.value
first_found name [] after head none h = ap first_of (values-named name head after true h)
first_found name (x ∷ before) after head none h =
    ap first_of (values-named name x (before ++ head ∷ after) false none.0) ∙ first_found name before after head none.1 h

pub none_named : (name : List ℕ) (heads : List Head) → AllByRecursion (λ (h : Head). is_named name h ≡ false) heads → first_of (values_of name heads) ≡ None
none_named name [] none = refl
none_named name (x ∷ heads) none = ap first_of (values-named name x heads false none.0) ∙ none_named name heads none.1

pub all_unnamed : (name : List ℕ) (heads : List Head) → first_of (values_of name heads) ≡ None → AllByRecursion (λ (h : Head). is_named name h ≡ false) heads
all_unnamed name [] e = tt
all_unnamed name (x ∷ heads) e = by_name (is_named name x) refl (all_unnamed name heads)
  where
    by_name : (b : Bool) → is_named name x ≡ b → (first_of (values_of name heads) ≡ None → AllByRecursion (λ (h : Head). is_named name h ≡ false) heads)
        → AllByRecursion (λ (h : Head). is_named name h ≡ false) (x ∷ heads)
    by_name true h others = some_none x.value (sym (ap first_of (values-named name x heads true h)) ∙ e)
    by_name false h others = (h, others (sym (ap first_of (values-named name x heads false h)) ∙ e))

-- names that differ in case alone name the same fields
pub named_alike : (name other : List ℕ) (heads : List Head) → str_eq_ignore_ascii_case name other ≡ true → first_of (values_of name heads) ≡ first_of (values_of other heads)
named_alike name other heads e =
    let same = (bytes_eq-Decides (str_to_ascii_lowercase name) (str_to_ascii_lowercase other)).0 e in
    ap (λ (lower : List ℕ). first_of (map (λ (h : Head). h.value) (filter (λ (h : Head). bytes_eq (str_to_ascii_lowercase h.name) lower) heads))) same
