-- The order of values is total, and does not tell alike values apart.
use Rattle.std.proofs.Common.{◌≡◌, ℕ, ◌↔◌, List, [], Bool, true, false, if◌then◌else◌, ℤ, pos, Option, Some, None, is_some, unwrap_or, nat_lt, ◌-◌, refl, sym, ap, ap₂, ◌∙◌, subst, arith}
use Rattle.std.proofs.lemmas.Cmp.{nat_cmp_total, int_cmp_total, nat_list_cmp_total, on_total, then_total, alike_right, tied_itself}
use Rattle.std.proofs.lemmas.Option.{same_Some}
use Rattle.std.specs.Cmp.{IsTotalOrder}
use Rattle.std.specs.declared.cmp.Ordering.{Ordering}
use Rattle.std.specs.declared.cmp.Ordering.TheVariants.{Less, Equal, Greater}
use Rattle.std.proofs.lemmas.Bool.Decides.{nat_tests}
use Rattle.std.specs.Ordering.{nat_cmp, int_cmp, ordering_then, ordering_reverse}
use Rattle.std.specs.Str.{bytes_eq}
use Rattle.text_laws.specs.OrderLaws.{OrderFollowsCompare}
use Rattle.json_machine.specs.text_spec.Json.{Json, null, boolean, number, string, array, object, Items, no_items, item, Members, no_members, member}
use Rattle.json_machine.specs.text_spec.Compact.{text_cmp, arranged}
use Rattle.json_machine.proofs.of_text_spec.TextOrder.{text_tied}
use Rattle.json_machine.specs.text_spec.Number.{scaled, compare_scaled}
use Rattle.json_machine.specs.text_spec.Order.{class_of, class_order, items_order, members_order, number_order, by_class, order}

-- ---- what "the first, and then the second" keeps

-- r and back are the answers for a pair and for the pair turned round, and Equal means P
record Turns (r back : Ordering) (P : Type 0) : Type 0 where
  turned : r ≡ ordering_reverse back
  tied : r ≡ Equal → P

then_turned : (r s p q : Ordering) → r ≡ ordering_reverse s → (r ≡ Equal → p ≡ ordering_reverse q) → ordering_then r p ≡ ordering_reverse (ordering_then s q)
then_turned r Less p q e f = rw e refl
then_turned r Greater p q e f = rw e refl
then_turned r Equal p q e f = rw e (f e)

then_tied : (r p : Ordering) (P : Type 0) → (r ≡ Equal → p ≡ Equal → P) → ordering_then r p ≡ Equal → P
then_tied Less p P f h = cc
then_tied Greater p P f h = cc
then_tied Equal p P f h = f refl h

-- the second answers matter only where the first is Equal
then_turns : {r s p q : Ordering} {P Q R : Type 0} → Turns r s P → (P → Turns p q Q) → (P → Q → R) → Turns (ordering_then r p) (ordering_then s q) R
then_turns {r} {s} {p} {q} {P} {Q} {R} a b f = record {
  turned = then_turned r s p q a.turned (λ e. (b (a.tied e)).turned);
  tied = then_tied r p R (λ e k. f (a.tied e) ((b (a.tied e)).tied k));
}

-- a, b and c are the answers for x and y, for y and z, and for x and z
record Chains (a b c : Ordering) : Type 0 where
  less : a ≡ Less → b ≡ Less → c ≡ Less
  first : a ≡ Equal → c ≡ b
  second : b ≡ Equal → c ≡ a

total_chains : {K : Type 0} {R : K → K → Ordering} → IsTotalOrder R → (x y z : K) → Chains (R x y) (R y z) (R x z)
total_chains o x y z = record { less = o.trans x y z; first = o.congr x y z; second = λ e. sym (alike_right o y z x e) }

then_chains : (a b c p q s : Ordering) → Chains a b c → (a ≡ Equal → b ≡ Equal → Chains p q s) → Chains (ordering_then a p) (ordering_then b q) (ordering_then c s)
then_chains Less Less c p q s h k = rw (h.less refl refl) (record { less = λ e f. refl; first = λ e. cc; second = λ e. cc })
then_chains Less Equal c p q s h k = rw (h.second refl) (record { less = λ e f. refl; first = λ e. cc; second = λ e. refl })
then_chains Less Greater c p q s h k = record { less = λ e f. cc; first = λ e. cc; second = λ e. cc }
then_chains Equal Less c p q s h k = rw (h.first refl) (record { less = λ e f. refl; first = λ e. refl; second = λ e. cc })
then_chains Equal Equal c p q s h k = rw (h.first refl) (k refl refl)
then_chains Equal Greater c p q s h k = rw (h.first refl) (record { less = λ e f. cc; first = λ e. refl; second = λ e. cc })
then_chains Greater Less c p q s h k = record { less = λ e f. cc; first = λ e. cc; second = λ e. cc }
then_chains Greater Equal c p q s h k = rw (h.second refl) (record { less = λ e f. cc; first = λ e. cc; second = λ e. refl })
then_chains Greater Greater c p q s h k = record { less = λ e f. cc; first = λ e. cc; second = λ e. cc }

-- ---- numbers and texts

nat_tied : (x y : ℕ) → nat_cmp x y ≡ Equal → x ≡ y
nat_tied x y e = grind (arith, nat_tests)

nat_turns : (x y : ℕ) → Turns (nat_cmp x y) (nat_cmp y x) (x ≡ y)
nat_turns x y = record { turned = nat_cmp_total.antisymm x y; tied = nat_tied x y }

text_turns : (s t : List ℕ) → Turns (text_cmp s t) (text_cmp t s) (s ≡ t)
text_turns s t = record { turned = nat_list_cmp_total.antisymm s t; tied = text_tied s t }

value : List ℕ → ℤ
value s = unwrap_or (scaled s) (pos 0)

number_total : IsTotalOrder number_order
unfolding value
number_total = then_total (on_total value int_cmp_total) nat_list_cmp_total

number_turns : (s t : List ℕ) → Turns (number_order s t) (number_order t s) (s ≡ t)
number_turns s t = record { turned = number_total.antisymm s t; tied = then_tied (int_cmp (unwrap_or (scaled s) (pos 0)) (unwrap_or (scaled t) (pos 0))) (text_cmp s t) (s ≡ t) (λ e f. text_tied s t f) }

-- ---- the kind of a value, which its class tells

abbrev pub kind : Json → ℕ
kind null = 0
kind (boolean b) = 1
kind (number s) = 2
kind (string s) = 3
kind (array js) = 4
kind (object ms) = 5

abbrev kind_of_class : ℕ → ℕ
kind_of_class n = if nat_lt n 1 then 0 else (if nat_lt n 4 then 1 else (if nat_lt n 6 then 2 else n - 3))

kind_of_number : (b : Bool) → kind_of_class (if b then 4 else 5) ≡ 2
kind_of_number true = refl
kind_of_number false = refl

kind-class : (a : Json) → kind_of_class (class_of a) ≡ kind a
kind-class null = refl
kind-class (boolean true) = refl
kind-class (boolean false) = refl
kind-class (number s) = kind_of_number (is_some (scaled s))
kind-class (string s) = refl
kind-class (array js) = refl
kind-class (object ms) = refl

kinds : (a b : Json) → class_of a ≡ class_of b → kind a ≡ kind b
kinds a b e = sym (kind-class a) ∙ ap kind_of_class e ∙ kind-class b

same_flag : (b c : Bool) → class_of (boolean b) ≡ class_of (boolean c) → b ≡ c
same_flag true true e = refl
same_flag true false e = absurd (omega arith)
same_flag false true e = absurd (omega arith)
same_flag false false e = refl

-- ---- a pair turned round, and what is Equal

by_class_turns : (a b : Json) → (class_of a ≡ class_of b → Turns (class_order a b) (class_order b a) (a ≡ b)) → Turns (by_class a b (class_order a b)) (by_class b a (class_order b a)) (a ≡ b)
by_class_turns a b within = then_turns (nat_turns (class_of a) (class_of b)) within (λ e f. f)

map_turns : {r s : Ordering} {P Q : Type 0} → (P → Q) → Turns r s P → Turns r s Q
map_turns f h = record { turned = h.turned; tied = λ e. f (h.tied e) }

mutual
  class_turns : (a b : Json) → class_of a ≡ class_of b → Turns (class_order a b) (class_order b a) (a ≡ b)
  class_turns null null e = record { turned = refl; tied = λ f. refl }
  class_turns (boolean b) (boolean c) e = record { turned = refl; tied = λ f. ap boolean (same_flag b c e) }
  class_turns (number s) (number t) e = map_turns (ap number) (number_turns s t)
  class_turns (string s) (string t) e = map_turns (ap string) (text_turns s t)
  class_turns (array js) (array ks) e = map_turns (ap array) (items_turns js ks)
  class_turns (object ms) (object ns) e = map_turns (ap object) (members_turns ms ns)
  class_turns a b e = let k : kind a ≡ kind b = kinds a b e in absurd (omega arith)

  items_turns : (js ks : Items) → Turns (items_order js ks) (items_order ks js) (js ≡ ks)
  items_turns no_items no_items = record { turned = refl; tied = λ f. refl }
  items_turns no_items (item k ks) = record { turned = refl; tied = λ f. cc }
  items_turns (item j js) no_items = record { turned = refl; tied = λ f. cc }
  items_turns (item j js) (item k ks) = then_turns (by_class_turns j k (class_turns j k)) (λ e. items_turns js ks) (λ e f. ap₂ item e f)

  members_turns : (ms ns : Members) → Turns (members_order ms ns) (members_order ns ms) (ms ≡ ns)
  members_turns no_members no_members = record { turned = refl; tied = λ f. refl }
  members_turns no_members (member l k ns) = record { turned = refl; tied = λ f. cc }
  members_turns (member i j ms) no_members = record { turned = refl; tied = λ f. cc }
  members_turns (member i j ms) (member l k ns) =
      then_turns (text_turns i l) (λ e. then_turns {Q = ms ≡ ns} {R = (j ≡ k) × (ms ≡ ns)} (by_class_turns j k (class_turns j k)) (λ f. members_turns ms ns) (λ f g. (f, g))) (λ e f x. member (e x) (f.0 x) (f.1 x))

-- ---- three values

-- b with the constructor of a, which it has where the kinds are one
abbrev pub flag_in : Json → Bool
flag_in (boolean b) = b
flag_in _ = true

abbrev pub bytes_in : Json → List ℕ
bytes_in (number s) = s
bytes_in (string s) = s
bytes_in _ = []

abbrev pub items_in : Json → Items
items_in (array js) = js
items_in _ = no_items

abbrev pub members_in : Json → Members
members_in (object ms) = ms
members_in _ = no_members

abbrev pub rebuilt : Json → Json → Json
rebuilt null b = null
rebuilt (boolean x) b = boolean (flag_in b)
rebuilt (number s) b = number (bytes_in b)
rebuilt (string s) b = string (bytes_in b)
rebuilt (array js) b = array (items_in b)
rebuilt (object ms) b = object (members_in b)

rebuilt_is : (a b : Json) → kind a ≡ kind b → b ≡ rebuilt a b
rebuilt_is null null e = refl
rebuilt_is (boolean x) (boolean y) e = refl
rebuilt_is (number s) (number t) e = refl
rebuilt_is (string s) (string t) e = refl
rebuilt_is (array js) (array ks) e = refl
rebuilt_is (object ms) (object ns) e = refl
rebuilt_is a b e = absurd (omega arith)

by_class_chains : (a b c : Json) → (b ≡ rebuilt a b → c ≡ rebuilt a c → Chains (class_order a b) (class_order b c) (class_order a c)) → Chains (by_class a b (class_order a b)) (by_class b c (class_order b c)) (by_class a c (class_order a c))
by_class_chains a b c within =
    then_chains _ _ _ (class_order a b) (class_order b c) (class_order a c) (total_chains nat_cmp_total (class_of a) (class_of b) (class_of c)) (λ e f.
    let same = nat_tied (class_of a) (class_of b) e in
    within (rebuilt_is a b (kinds a b same)) (rebuilt_is a c (kinds a c (same ∙ nat_tied (class_of b) (class_of c) f))))

all_equal : Chains Equal Equal Equal
all_equal = record { less = λ e f. e; first = λ e. refl; second = λ e. refl }

mutual
  class_chains : (a b c : Json) → b ≡ rebuilt a b → c ≡ rebuilt a c → Chains (class_order a b) (class_order b c) (class_order a c)
  class_chains null b c e f = rw e all_equal
  class_chains (boolean x) b c e f = rw e all_equal
  class_chains (number s) b c e f = rw (e, f) (total_chains number_total s (bytes_in b) (bytes_in c))
  class_chains (string s) b c e f = rw (e, f) (total_chains nat_list_cmp_total s (bytes_in b) (bytes_in c))
  class_chains (array js) b c e f = rw (e, f) (items_chains js (items_in b) (items_in c))
  class_chains (object ms) b c e f = rw (e, f) (members_chains ms (members_in b) (members_in c))

  items_chains : (js ks ls : Items) → Chains (items_order js ks) (items_order ks ls) (items_order js ls)
  items_chains (item j js) (item k ks) (item l ls) =
      then_chains _ _ _ (items_order js ks) (items_order ks ls) (items_order js ls) (by_class_chains j k l (class_chains j k l)) (λ e f. items_chains js ks ls)
  items_chains no_items no_items ls = record { less = λ e f. cc; first = λ e. cc; second = λ e. cc }
  items_chains no_items (item k ks) no_items = record { less = λ e f. cc; first = λ e. cc; second = λ e. cc }
  items_chains (item j js) no_items no_items = record { less = λ e f. cc; first = λ e. cc; second = λ e. cc }
  items_chains js ks ls = record { less = λ e f. cc; first = λ e. cc; second = λ e. cc }

  members_chains : (ms ns os : Members) → Chains (members_order ms ns) (members_order ns os) (members_order ms os)
  members_chains (member k a ms) (member l b ns) (member m c os) =
      then_chains _ _ _ _ _ _ (total_chains nat_list_cmp_total k l m) (λ e f.
      then_chains _ _ _ (members_order ms ns) (members_order ns os) (members_order ms os) (by_class_chains a b c (class_chains a b c)) (λ g h. members_chains ms ns os))
  members_chains no_members no_members os = record { less = λ e f. cc; first = λ e. cc; second = λ e. cc }
  members_chains no_members (member l b ns) no_members = record { less = λ e f. cc; first = λ e. cc; second = λ e. cc }
  members_chains (member k a ms) no_members no_members = record { less = λ e f. cc; first = λ e. cc; second = λ e. cc }
  members_chains ms ns os = record { less = λ e f. cc; first = λ e. cc; second = λ e. cc }

-- ---- the order

arranged_turns : (a b : Json) → Turns (by_class a b (class_order a b)) (by_class b a (class_order b a)) (a ≡ b)
arranged_turns a b = by_class_turns a b (class_turns a b)

arranged_chains : (a b c : Json) → Chains (by_class a b (class_order a b)) (by_class b c (class_order b c)) (by_class a c (class_order a c))
arranged_chains a b c = by_class_chains a b c (class_chains a b c)

pub arranged_order-total : IsTotalOrder (λ a b. by_class a b (class_order a b))
arranged_order-total = record {
  antisymm = λ a b. (arranged_turns a b).turned;
  trans = λ a b c. (arranged_chains a b c).less;
  congr = λ a b c. (arranged_chains a b c).first;
}

pub order_is_total : IsTotalOrder order
order_is_total = on_total arranged arranged_order-total

pub equal_is_alike_arranged : (a b : Json) → (order a b ≡ Equal) ↔ (arranged a ≡ arranged b)
equal_is_alike_arranged a b = ((arranged_turns (arranged a) (arranged b)).tied, λ e. subst (λ x. by_class (arranged a) x (class_order (arranged a) x) ≡ Equal) e (tied_itself arranged_order-total (arranged a)))

-- ---- numbers by value

alike_only : (b : Bool) (o : Ordering) → (if b then Some Equal else None) ≡ Some o → o ≡ Equal
alike_only true o h = cc
alike_only false o h = cc

decided : (r p o : Ordering) → r ≡ o → ¬ (o ≡ Equal) → ordering_then r p ≡ o
decided Less p o e h = e
decided Equal p o e h = absurd (h (sym e))
decided Greater p o e h = e

follows : (s t : List ℕ) (o : Ordering) (a b : Option ℤ) → scaled s ≡ a → scaled t ≡ b → compare_scaled a b (bytes_eq s t) ≡ Some o → ¬ (o ≡ Equal) → order (number s) (number t) ≡ o
follows s t o (Some m) (Some n) e f h other = rw (e, f) (decided (int_cmp m n) (text_cmp s t) o (same_Some (int_cmp m n) o h) other)
follows s t o (Some m) None e f h other = absurd (other (alike_only (bytes_eq s t) o h))
follows s t o None b e f h other = absurd (other (alike_only (bytes_eq s t) o h))

pub order_follows_compare : OrderFollowsCompare
order_follows_compare s t o h other = follows s t o (scaled s) (scaled t) refl refl h other
