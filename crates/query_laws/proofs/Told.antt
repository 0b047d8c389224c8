-- What is read is written by a form of the grammar: the parts that hold no query.
use Rattle.std.proofs.Common.{◌≡◌, ◌∙◌, ℕ, ◌+◌, List, [], ◌∷◌, ◌++◌, Bool, true, false, Option, Some, None, Ok, Err, refl, ap, map, if◌then◌else◌}
use Rattle.std.specs.Prelude.{codes}
use Rattle.json_machine.proofs.of_plain_laws.Lists.{one_text}
use Rattle.json_machine.specs.text_spec.Json as json
use Rattle.json_machine.specs.text_spec.Json.{Json, Items, no_items, item}
use Rattle.query_spec.specs.declared.parts.Field.{Field}
use Rattle.query_spec.specs.declared.parts.Field.TheVariants as field
use Rattle.query_spec.specs.declared.parts.Function.{Function}
use Rattle.query_spec.specs.declared.parts.Literal.{Literal}
use Rattle.query_spec.specs.declared.parts.Name.{Name}
use Rattle.query_spec.specs.declared.parts.Scalar.TheVariants as scalar
use Rattle.query_spec.specs.declared.parts.Scalar.{Scalar}
use Rattle.query_spec.specs.declared.words.FieldWord.{FieldWord}
use Rattle.query_spec.specs.declared.words.FieldWord.TheVariants as of_field
use Rattle.query_spec.specs.declared.words.FilterWord.{FilterWord}
use Rattle.query_spec.specs.declared.words.FilterWord.TheVariants as of_filter
use Rattle.query_spec.specs.declared.words.InnerWord.{InnerWord}
use Rattle.query_spec.specs.declared.words.InnerWord.TheVariants as of_inner
use Rattle.query_spec.specs.declared.words.PartWord.{PartWord}
use Rattle.query_spec.specs.declared.words.PartWord.TheVariants as of_part
use Rattle.query_spec.specs.Ast.{Read, ◌>>=◌, name_at, names_at, columns_at, fields_at, left_at, field_at, literal_at, literals_at}
use Rattle.query_spec.specs.Parts.{name, field_named}
use Rattle.query_spec.specs.Words.{filter_word, field_word, inner_word, part_word, function_named, function_name}
use Rattle.query_laws.proofs.Arms.{field_arm}
use Rattle.query_laws.specs.Grammar.{headed, Columns, one, listed, texts_value, columns_value, names_from, columns_meaning, FieldForm, named, parameter, fact, field_value, field_meaning, literal_value, literals_value, literal, literals_from, op_word}

-- ---- what a chain of reads gave

pub refused : {A P : Type 0} (p : List ℕ) (x : A) → Err p ≡ Ok x → P
refused p x h = absurd (never h)
  where
    never : Err p ≡ Ok x → ⊥
    never h = cc

abbrev taken : {A : Type 0} → A → Read A
taken x = Ok x

pub gave : {A : Type 0} (x y : A) → taken x ≡ taken y → y ≡ x
gave x y h = cc

pub record Bound (A B : Type 0) (r : Read A) (k : A → Read B) (y : B) : Type 0 where
  pub first : A
  pub was : r ≡ Ok first
  pub then_is : k first ≡ Ok y

pub bound : {A B : Type 0} (r : Read A) (k : A → Read B) (y : B) → (r >>= k) ≡ Ok y → Bound A B r k y
bound (Ok x) k y h = record { first = x; was = refl; then_is = h }
bound (Err p) k y h = refused p y h

-- ---- the value of a form of the grammar

pub record Told (V T A : Type 0) (value : T → V) (meaning : T → A) (Good : T → Type 0) (v : V) (x : A) : Type 0 where
  pub form : T
  pub good : Good form
  pub value_is : v ≡ value form
  pub means : x ≡ meaning form

abbrev pub Any : {T : Type 0} → T → Type 0
Any t = Unit {0}

-- ---- words

-- one step along a chain of tests: what is found under a word's test is that word
pub under : {W : Type 0} (P : W → Type 0) (b : Bool) (w rest : W) → (b ≡ true → P w) → P rest → P (if b then w else rest)
under P true w rest here there = here refl
under P false w rest here there = there

abbrev FieldSays : List ℕ → FieldWord → Type 0
FieldSays h of_field.Parameter = h ≡ codes "parameter"
FieldSays h of_field.Fact = h ≡ codes "fact"
FieldSays h of_field.Other = Unit {0}

field_says : (h : List ℕ) → FieldSays h (field_word h)
unfolding field_word
field_says h =
    under (FieldSays h) _ _ _ (one_text h _)
    (under (FieldSays h) _ _ _ (one_text h _) tt)

abbrev pub FunctionSays : List ℕ → Option Function → Type 0
FunctionSays h (Some f) = h ≡ function_name f
FunctionSays h None = Unit {0}

pub function_says : (h : List ℕ) → FunctionSays h (function_named h)
unfolding function_named
function_says h =
    under (FunctionSays h) _ _ _ (one_text h _)
    (under (FunctionSays h) _ _ _ (one_text h _)
    (under (FunctionSays h) _ _ _ (one_text h _)
    (under (FunctionSays h) _ _ _ (one_text h _) tt)))

abbrev pub InnerSays : List ℕ → InnerWord → Type 0
InnerSays h of_inner.Array = h ≡ codes "array"
InnerSays h of_inner.Extract = h ≡ codes "extract"
InnerSays h of_inner.From = h ≡ codes "from"
InnerSays h of_inner.Other = Unit {0}

pub inner_says : (h : List ℕ) → InnerSays h (inner_word h)
unfolding inner_word
inner_says h =
    under (InnerSays h) _ _ _ (one_text h _)
    (under (InnerSays h) _ _ _ (one_text h _)
    (under (InnerSays h) _ _ _ (one_text h _) tt))

abbrev pub PartSays : List ℕ → PartWord → Type 0
PartSays h of_part.Extract = h ≡ codes "extract"
PartSays h of_part.Limit = h ≡ codes "limit"
PartSays h of_part.Offset = h ≡ codes "offset"
PartSays h of_part.OrderBy = h ≡ codes "order_by"
PartSays h of_part.Other = Unit {0}

pub part_says : (h : List ℕ) → PartSays h (part_word h)
unfolding part_word
part_says h =
    under (PartSays h) _ _ _ (one_text h _)
    (under (PartSays h) _ _ _ (one_text h _)
    (under (PartSays h) _ _ _ (one_text h _)
    (under (PartSays h) _ _ _ (one_text h _) tt)))

abbrev pub FilterSays : List ℕ → FilterWord → Type 0
FilterSays h of_filter.And = h ≡ codes "and"
FilterSays h of_filter.Or = h ≡ codes "or"
FilterSays h of_filter.Not = h ≡ codes "not"
FilterSays h (of_filter.Compare o) = h ≡ op_word o
FilterSays h of_filter.Matches = h ≡ codes "~"
FilterSays h of_filter.IsNull = h ≡ codes "null?"
FilterSays h of_filter.In = h ≡ codes "in"
FilterSays h of_filter.Subquery = h ≡ codes "subquery"
FilterSays h of_filter.Other = Unit {0}

pub filter_says : (h : List ℕ) → FilterSays h (filter_word h)
unfolding filter_word
filter_says h =
    under (FilterSays h) _ _ _ (one_text h _)
    (under (FilterSays h) _ _ _ (one_text h _)
    (under (FilterSays h) _ _ _ (one_text h _)
    (under (FilterSays h) _ _ _ (one_text h _)
    (under (FilterSays h) _ _ _ (one_text h _)
    (under (FilterSays h) _ _ _ (one_text h _)
    (under (FilterSays h) _ _ _ (one_text h _)
    (under (FilterSays h) _ _ _ (one_text h _)
    (under (FilterSays h) _ _ _ (one_text h _)
    (under (FilterSays h) _ _ _ (one_text h _)
    (under (FilterSays h) _ _ _ (one_text h _)
    (under (FilterSays h) _ _ _ (one_text h _) tt)))))))))))

-- ---- choices

pub chosen : {A : Type 0} (b : Bool) (r : Read A) (p : List ℕ) (x : A) → (if b then r else Err p) ≡ Ok x → (b ≡ true) × (r ≡ Ok x)
chosen true r p x h = (refl, h)
chosen false r p x h = refused p x h

pub barred : {A : Type 0} (b : Bool) (r : Read A) (p : List ℕ) (x : A) → (if b then Err p else r) ≡ Ok x → (b ≡ false) × (r ≡ Ok x)
barred false r p x h = (refl, h)
barred true r p x h = refused p x h

-- ---- names, fields and literals

abbrev pub NameTold : List ℕ → Json → Name → Type 0
NameTold p v n = Told Json (List ℕ) Name json.string (λ s. name s p) Any v n

pub name_told : (p : List ℕ) (v : Json) (n : Name) → name_at p v ≡ Ok n → NameTold p v n
name_told p (json.string s) n h = record { form = s; good = tt; value_is = refl; means = gave (name s p) n h }
name_told p _ n h = refused p n h

abbrev pub NamesTold : List ℕ → ℕ → Items → List Name → Type 0
NamesTold p i vs ns = Told Items (List (List ℕ)) (List Name) texts_value (names_from p i) Any vs ns

pub names_told : (p : List ℕ) (i : ℕ) (vs : Items) (ns : List Name) → names_at p i vs ≡ Ok ns → NamesTold p i vs ns
names_told p i no_items ns h = record { form = []; good = tt; value_is = refl; means = gave [] ns h }
names_told p i (item v vs) ns h =
    let b = bound (name_at (p ++ i ∷ []) v) (λ n. names_at p (i + 1) vs >>= λ ns. Ok (n ∷ ns)) ns h in
    let c = bound (names_at p (i + 1) vs) (λ ns. Ok (b.first ∷ ns)) ns b.then_is in
    let one = name_told (p ++ i ∷ []) v b.first b.was in
    let rest = names_told p (i + 1) vs c.first c.was in
    record {
      form = one.form ∷ rest.form;
      good = tt;
      value_is = λ k. item (one.value_is k) (rest.value_is k);
      means = gave (b.first ∷ c.first) ns c.then_is ∙ (λ k. one.means k ∷ rest.means k);
    }

abbrev pub ColumnsTold : List ℕ → Json → List Name → Type 0
ColumnsTold p v ns = Told Json Columns (List Name) columns_value (columns_meaning p) Any v ns

-- at least one
listed_columns : (p : List ℕ) (v : Json) (vs : Items) (ns : List Name) → NamesTold p 0 (item v vs) ns → ColumnsTold p (json.array (item v vs)) ns
listed_columns p v vs ns t = by_form t.form t.value_is t.means
  where
    by_form : (ss : List (List ℕ)) → item v vs ≡ texts_value ss → ns ≡ names_from p 0 ss → ColumnsTold p (json.array (item v vs)) ns
    by_form [] e m = absurd (let apart : item v vs ≡ no_items = e in cc)
    by_form (s ∷ ss) e m = record { form = listed s ss; good = tt; value_is = ap json.array e; means = m }

pub columns_told : (p : List ℕ) (v : Json) (ns : List Name) → columns_at p v ≡ Ok ns → ColumnsTold p v ns
columns_told p (json.string s) ns h = record { form = one s; good = tt; value_is = refl; means = gave (name s p ∷ []) ns h }
columns_told p (json.array (item v vs)) ns h = listed_columns p v vs ns (names_told p 0 (item v vs) ns h)
columns_told p _ ns h = refused p ns h

abbrev FieldsTold : List ℕ → ℕ → Items → List Field → Type 0
FieldsTold p i vs fs = Told Items (List (List ℕ)) (List Field) texts_value (λ ss. map field_named (names_from p i ss)) Any vs fs

fields_told : (p : List ℕ) (i : ℕ) (vs : Items) (fs : List Field) → fields_at p i vs ≡ Ok fs → FieldsTold p i vs fs
fields_told p i no_items fs h = record { form = []; good = tt; value_is = refl; means = gave [] fs h }
fields_told p i (item v vs) fs h =
    let b = bound (name_at (p ++ i ∷ []) v) (λ n. fields_at p (i + 1) vs >>= λ fs. Ok (field_named n ∷ fs)) fs h in
    let c = bound (fields_at p (i + 1) vs) (λ fs. Ok (field_named b.first ∷ fs)) fs b.then_is in
    let one = name_told (p ++ i ∷ []) v b.first b.was in
    let rest = fields_told p (i + 1) vs c.first c.was in
    record {
      form = one.form ∷ rest.form;
      good = tt;
      value_is = λ k. item (one.value_is k) (rest.value_is k);
      means = gave (field_named b.first ∷ c.first) fs c.then_is ∙ (λ k. field_named (one.means k) ∷ rest.means k);
    }

abbrev pub LeftTold : List ℕ → Json → List Field → Type 0
LeftTold p v fs = Told Json Columns (List Field) columns_value (λ c. map field_named (columns_meaning p c)) Any v fs

listed_left : (p : List ℕ) (v : Json) (vs : Items) (fs : List Field) → FieldsTold p 0 (item v vs) fs → LeftTold p (json.array (item v vs)) fs
listed_left p v vs fs t = by_form t.form t.value_is t.means
  where
    by_form : (ss : List (List ℕ)) → item v vs ≡ texts_value ss → fs ≡ map field_named (names_from p 0 ss) → LeftTold p (json.array (item v vs)) fs
    by_form [] e m = absurd (let apart : item v vs ≡ no_items = e in cc)
    by_form (s ∷ ss) e m = record { form = listed s ss; good = tt; value_is = ap json.array e; means = m }

pub left_told : (p : List ℕ) (v : Json) (fs : List Field) → left_at p v ≡ Ok fs → LeftTold p v fs
left_told p (json.string s) fs h = record { form = one s; good = tt; value_is = refl; means = gave (field_named (name s p) ∷ []) fs h }
left_told p (json.array (item v vs)) fs h = listed_left p v vs fs (fields_told p 0 (item v vs) fs h)
left_told p _ fs h = refused p fs h

abbrev pub FieldTold : List ℕ → Json → Field → Type 0
FieldTold p v f = Told Json FieldForm Field field_value (field_meaning p) Any v f

field_by : (p h : List ℕ) (v : Json) (f : Field) (w : FieldWord) → FieldSays h w → field_arm p w v ≡ Ok f → FieldTold p (headed h (item v no_items)) f
field_by p h v f of_field.Parameter t e =
    let b = bound (name_at (p ++ 1 ∷ []) v) (λ n. Ok (field.Parameter n)) f e in
    let n = name_told (p ++ 1 ∷ []) v b.first b.was in
    record {
      form = parameter n.form;
      good = tt;
      value_is = λ k. headed (t k) (item (n.value_is k) no_items);
      means = gave (field.Parameter b.first) f b.then_is ∙ ap field.Parameter n.means;
    }
field_by p h v f of_field.Fact t e =
    let b = bound (name_at (p ++ 1 ∷ []) v) (λ n. Ok (field.Fact n)) f e in
    let n = name_told (p ++ 1 ∷ []) v b.first b.was in
    record {
      form = fact n.form;
      good = tt;
      value_is = λ k. headed (t k) (item (n.value_is k) no_items);
      means = gave (field.Fact b.first) f b.then_is ∙ ap field.Fact n.means;
    }
field_by p h v f of_field.Other t e = refused p f e

pub field_told : (p : List ℕ) (v : Json) (f : Field) → field_at p v ≡ Ok f → FieldTold p v f
field_told p (json.string s) f h = record { form = named s; good = tt; value_is = refl; means = gave (field_named (name s p)) f h }
field_told p (json.array (item (json.string h) (item v no_items))) f e = field_by p h v f (field_word h) (field_says h) e
field_told p _ f h = refused p f h

abbrev pub LiteralTold : List ℕ → Json → Literal → Type 0
LiteralTold p v l = Told Json Scalar Literal literal_value (literal p) Any v l

pub literal_told : (p : List ℕ) (v : Json) (l : Literal) → literal_at p v ≡ Ok l → LiteralTold p v l
literal_told p (json.string s) l h = record { form = scalar.Text s; good = tt; value_is = refl; means = gave (literal p (scalar.Text s)) l h }
literal_told p (json.number s) l h = record { form = scalar.Num s; good = tt; value_is = refl; means = gave (literal p (scalar.Num s)) l h }
literal_told p (json.boolean b) l h = record { form = scalar.Bool b; good = tt; value_is = refl; means = gave (literal p (scalar.Bool b)) l h }
literal_told p _ l h = refused p l h

abbrev pub LiteralsTold : List ℕ → ℕ → Items → List Literal → Type 0
LiteralsTold p i vs ls = Told Items (List Scalar) (List Literal) literals_value (literals_from p i) Any vs ls

pub literals_told : (p : List ℕ) (i : ℕ) (vs : Items) (ls : List Literal) → literals_at p i vs ≡ Ok ls → LiteralsTold p i vs ls
literals_told p i no_items ls h = record { form = []; good = tt; value_is = refl; means = gave [] ls h }
literals_told p i (item v vs) ls h =
    let b = bound (literal_at (p ++ i ∷ []) v) (λ l. literals_at p (i + 1) vs >>= λ ls. Ok (l ∷ ls)) ls h in
    let c = bound (literals_at p (i + 1) vs) (λ ls. Ok (b.first ∷ ls)) ls b.then_is in
    let one = literal_told (p ++ i ∷ []) v b.first b.was in
    let rest = literals_told p (i + 1) vs c.first c.was in
    record {
      form = one.form ∷ rest.form;
      good = tt;
      value_is = λ k. item (one.value_is k) (rest.value_is k);
      means = gave (b.first ∷ c.first) ls c.then_is ∙ (λ k. one.means k ∷ rest.means k);
    }
