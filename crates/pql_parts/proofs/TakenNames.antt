-- Which names are taken among what is shown: those of functions alone are asked for.
use Rattle.std.proofs.Common.{◌≡◌, ◌∙◌, ℕ, List, [], ◌∷◌, ◌++◌, Bool, true, false, ◌&&◌, ◌||◌, refl, sym, ap, subst, Option, Some, None, if◌then◌else◌, codes}
use Rattle.std.specs.List.{list_any}
use Rattle.std.specs.Str.{bytes_eq}
use Rattle.std.proofs.lemmas.Cmp.{nat_list_eq_equiv}
use Rattle.std.proofs.lemmas.List.Folds.{list_any-append}
use Rattle.std.proofs.lemmas.Slice.Eq.{bytes_eq-Decides}
use Rattle.query_spec.specs.declared.parts.Function.{Function}
use Rattle.query_spec.specs.declared.parts.Function.TheVariants.{Count, Sum, Min, Max}
use Rattle.query_spec.specs.declared.parts.Name.{Name}
use Rattle.query_spec.specs.declared.parts.Selected.{Selected}
use Rattle.query_spec.specs.declared.parts.Selected.TheVariants.{Column as plain, Rows as rows_counted, Function as applied}
use Rattle.query_spec.specs.Parts.{clashes, output_name, is_function}
use Rattle.query_spec.specs.Words.{function_named, function_name}
use Rattle.pql_parts.specs.Shown.{has, with, takes, AreTaken}
use Rattle.pql_parts.specs.declared.shown.Functions.{Functions}

-- ---- names of functions

abbrev Named : List ℕ → Option Function → Type 0
Named s None = (g : Function) → bytes_eq (function_name g) s ≡ false
Named s (Some f) = s ≡ function_name f

none : (s : List ℕ) → bytes_eq s (codes "count") ≡ false → bytes_eq s (codes "sum") ≡ false → bytes_eq s (codes "min") ≡ false → bytes_eq s (codes "max") ≡ false → Named s None
none s c u n x Count = nat_list_eq_equiv.symm (codes "count") s ∙ c
none s c u n x Sum = nat_list_eq_equiv.symm (codes "sum") s ∙ u
none s c u n x Min = nat_list_eq_equiv.symm (codes "min") s ∙ n
none s c u n x Max = nat_list_eq_equiv.symm (codes "max") s ∙ x

one_of : (b : Bool) (s : List ℕ) (f : Function) (o : Option Function) → bytes_eq s (function_name f) ≡ b → (b ≡ false → Named s o) → Named s (if b then Some f else o)
one_of true s f o e h = (bytes_eq-Decides s (function_name f)).0 e
one_of false s f o e h = h refl

pub named : (s : List ℕ) → Named s (function_named s)
unfolding function_named
named s =
    one_of _ s Count _ refl (λ c. one_of _ s Sum _ refl (λ u. one_of _ s Min _ refl (λ n. one_of _ s Max None refl (λ x. none s c u n x))))

name_itself : (s : List ℕ) → bytes_eq s s ≡ true
name_itself s = (bytes_eq-Decides s s).1 refl

-- ---- what is asked

and_false : (b : Bool) → (b && false) ≡ false
and_false true = refl
and_false false = refl

and_one : (b : Bool) → (b && true) ≡ b
and_one true = refl
and_one false = refl

or_true : (b : Bool) → (b || true) ≡ true
or_true true = refl
or_true false = refl

or_false : (b : Bool) → (b || false) ≡ b
or_false true = refl
or_false false = refl

-- no function has the name
unnamed : (c : Name) → Named c.text None → (s : Selected) → clashes (plain c) s ≡ false
unnamed c h (plain d) = and_false (bytes_eq c.text d.text)
unnamed c h rows_counted = ap (λ b. b && true) (nat_list_eq_equiv.symm c.text (codes "count") ∙ h Count)
unnamed c h (applied f d) = ap (λ b. b && true) (nat_list_eq_equiv.symm c.text (function_name f) ∙ h f)

none_taken : (c : Name) → Named c.text None → (cs : List Selected) → list_any (clashes (plain c)) cs ≡ false
none_taken c h [] = refl
none_taken c h (s ∷ cs) = λ i. unnamed c h s i || none_taken c h cs i

pub no_column : (c : Name) (cs : List Selected) → function_named c.text ≡ None → list_any (clashes (plain c)) cs ≡ false
no_column c cs e = none_taken c (subst (Named c.text) e (named c.text)) cs

-- a function has the name
pub column_of_function : (c : Name) (f : Function) (cs : List Selected) → function_named c.text ≡ Some f → list_any (takes false f) cs ≡ list_any (clashes (plain c)) cs
column_of_function c f cs e =
    let same : c.text ≡ function_name f = subst (Named c.text) e (named c.text) in
    ap (λ s. list_any (λ x. bytes_eq s (output_name x) && (false || is_function x)) cs) (sym same)

-- ---- one more output

-- marking a function marks it alone
marked : (s : Functions) (f g : Function) → has (with s (Some f)) g ≡ (has s g || bytes_eq (function_name g) (function_name f))
marked s Count Count = sym (or_true s.count)
marked s Sum Sum = sym (or_true s.sum)
marked s Min Min = sym (or_true s.min)
marked s Max Max = sym (or_true s.max)
marked s Count Sum = sym (or_false s.sum)
marked s Count Min = sym (or_false s.min)
marked s Count Max = sym (or_false s.max)
marked s Sum Count = sym (or_false s.count)
marked s Sum Min = sym (or_false s.min)
marked s Sum Max = sym (or_false s.max)
marked s Min Count = sym (or_false s.count)
marked s Min Sum = sym (or_false s.sum)
marked s Min Max = sym (or_false s.max)
marked s Max Count = sym (or_false s.count)
marked s Max Sum = sym (or_false s.sum)
marked s Max Min = sym (or_false s.min)

marked_by_name : (s : Functions) (name : List ℕ) (o : Option Function) (g : Function) → Named name o → has (with s o) g ≡ (has s g || bytes_eq (function_name g) name)
marked_by_name s name None g h = sym (ap (λ b. has s g || b) (h g) ∙ or_false (has s g))
marked_by_name s name (Some f) g h = marked s f g ∙ ap (λ x. has s g || bytes_eq (function_name g) x) (sym h)

with_name : (s : Functions) (name : List ℕ) (g : Function) → has (with s (function_named name)) g ≡ (has s g || bytes_eq (function_name g) name)
with_name s name g = marked_by_name s name (function_named name) g (named name)

-- an output whose name is marked
pub more_taken : (columns : Bool) (cs : List Selected) (s : Functions) (x : Selected) → (columns || is_function x) ≡ true → AreTaken columns cs s → AreTaken columns (cs ++ x ∷ []) (with s (function_named (output_name x)))
more_taken columns cs s x k h g =
    with_name s (output_name x) g
    ∙ (λ i. h g i || sym (or_false (takes columns g x) ∙ and_true (bytes_eq (function_name g) (output_name x))) i)
    ∙ sym (list_any-append (takes columns g) cs (x ∷ []))
  where
    and_true : (b : Bool) → (b && (columns || is_function x)) ≡ b
    and_true b = ap (λ y. b && y) k ∙ and_one b

-- a column beside functions
pub same_taken : (cs : List Selected) (s : Functions) (x : Selected) → is_function x ≡ false → AreTaken false cs s → AreTaken false (cs ++ x ∷ []) s
same_taken cs s x k h g =
    h g
    ∙ sym (or_false (list_any (takes false g) cs))
    ∙ ap (λ b. list_any (takes false g) cs || b) (sym (or_false (takes false g x) ∙ ap (λ y. bytes_eq (function_name g) (output_name x) && y) k ∙ and_false (bytes_eq (function_name g) (output_name x))))
    ∙ sym (list_any-append (takes false g) cs (x ∷ []))

-- ---- as the code comes to it

pub names_told : (columns : Bool) (cs list : List Selected) (s r : Functions) (x : Selected) (o : Option Function) → (columns || is_function x) ≡ true → list ≡ cs ++ x ∷ [] → o ≡ function_named (output_name x) → r ≡ with s o → AreTaken columns cs s → AreTaken columns list r
names_told columns cs list s r x o k e f h t =
    subst (λ y. AreTaken columns y r) (sym e)
    (subst (AreTaken columns (cs ++ x ∷ [])) (sym (h ∙ ap (with s) f)) (more_taken columns cs s x k t))
