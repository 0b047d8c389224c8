-- One part of a dump after the other: what went out of both, and what is left.
use Rattle.std.proofs.Common.{◌≡◌, ◌∙◌, ℕ, ◌+◌, ◌≤◌, List, [], ◌++◌, length, take, sym, ap, subst, arith, append_assoc, append-nil, length-append, Option}
use Rattle.std.specs.Io.KnownBytes.{Appends}
use Rattle.std.proofs.Math.Seq.{take-append-add}
use Rattle.std.proofs.lemmas.List.{take-append-le}
use Rattle.std.proofs.KnownBytes.{Appends-nil, Appends-trans}
use Rattle.spool_maker.proofs.Fronts.{less_of_all}
use Rattle.dump_writer.specs.dump_spec.history_spec.Thread.{Item}
use Rattle.dump_writer.proofs.of_dump_spec.DumpTexts.{texts_both}
use Rattle.dump_writer.proofs.of_dump_spec.of_plain_laws.Members.{all_both}
use Rattle.fleet_dump.specs.Printed.{items_text, IsShortItem, Prints, PrintsLess, PrintsFront, Printed}
use Rattle.fleet_dump.specs.declared.printer.Dumped.{Dumped}
use Rattle.fleet_dump.specs.declared.printer.Dumped.TheVariants.{Ok, WriteFault, Memory}

pub prints_nothing : (text : List ℕ) (held : Option (List ℕ)) (room : ℕ) → Prints [] text text held held room room
prints_nothing text held room = record { went = []; joined = sym (append-nil text); appended = Appends-nil held; room_is = omega arith; short = tt }

rooms_both : (r l m x y xy : ℕ) → r ≡ l + x → l ≡ m + y → xy ≡ x + y → r ≡ m + xy
rooms_both r l m x y xy p q s = omega (arith, p, q, s)

module _ (xs ys : List Item) (old mid : List ℕ) (a b c : Option (List ℕ)) where
  -- the text so far, and the next items
  due : (went more : List ℕ) → went ++ mid ≡ old ++ items_text xs → went ++ (mid ++ items_text ys) ≡ old ++ items_text (xs ++ ys)
  due went more is =
      sym (append_assoc went mid (items_text ys)) ∙ ap (λ t. t ++ items_text ys) is ∙ append_assoc old (items_text xs) (items_text ys)
      ∙ ap (λ t. old ++ t) (sym (texts_both xs ys))

  pub prints_both : (now : List ℕ) (room left more : ℕ) → Prints xs old mid a b room left → Prints ys mid now b c left more → Prints (xs ++ ys) old now a c room more
  prints_both now room left more p q = record {
    went = p.went ++ q.went;
    joined = append_assoc p.went q.went now ∙ ap (λ t. p.went ++ t) q.joined ∙ due p.went [] p.joined;
    appended = Appends-trans a b c p.went q.went p.appended q.appended;
    room_is = rooms_both room left more (length (items_text xs)) (length (items_text ys)) (length (items_text (xs ++ ys))) p.room_is q.room_is
        (ap length (texts_both xs ys) ∙ length-append (items_text xs) (items_text ys));
    short = all_both IsShortItem xs ys p.short q.short;
  }

  module _ (zs : List Item) where
    whole_is : (went : List ℕ) → went ++ mid ≡ old ++ items_text xs → old ++ items_text (xs ++ (ys ++ zs)) ≡ (went ++ (mid ++ items_text ys)) ++ items_text zs
    whole_is went is =
        ap (λ t. old ++ t) (texts_both xs (ys ++ zs) ∙ ap (λ t. items_text xs ++ t) (texts_both ys zs) ∙ sym (append_assoc (items_text xs) (items_text ys) (items_text zs)))
        ∙ sym (append_assoc old (items_text xs ++ items_text ys) (items_text zs))
        ∙ ap (λ t. t ++ items_text zs) (ap (λ t. old ++ t) (sym (texts_both xs ys)) ∙ sym (due went [] is))

    -- what went out before a fault, with what went out before it
    pub less_behind : (room left : ℕ) → Prints xs old mid a b room left → PrintsLess (mid ++ items_text ys) b c → PrintsLess (old ++ items_text (xs ++ (ys ++ zs))) a c
    less_behind room left p less =
        less_of_all a b c p.went (mid ++ items_text ys) (items_text zs) (old ++ items_text (xs ++ (ys ++ zs))) less.0 (whole_is p.went p.joined) p.appended less.1 less.2

    pub front_behind : (room left : ℕ) → Prints xs old mid a b room left → PrintsFront (mid ++ items_text ys) b c → PrintsFront (old ++ items_text (xs ++ (ys ++ zs))) a c
    front_behind room left p front =
        front_of_all a b c p.went (mid ++ items_text ys) (items_text zs) (old ++ items_text (xs ++ (ys ++ zs))) front.0 (whole_is p.went p.joined) p.appended front.1 front.2
      where
        front_of_all : (a b c : Option (List ℕ)) (out due rest whole : List ℕ) (taken : ℕ) → whole ≡ (out ++ due) ++ rest → Appends a b out → taken ≤ length due → Appends b c (take taken due)
            → (n : ℕ) × (n ≤ length whole) × Appends a c (take n whole)
        front_of_all a b c out due rest whole taken is h few k =
            let parts = is ∙ append_assoc out due rest in
            let size : length whole ≡ length out + (length due + length rest) = ap length parts ∙ length-append out (due ++ rest) ∙ ap (λ n. length out + n) (length-append due rest) in
            let front : out ++ take taken due ≡ take (length out + taken) whole =
            ap (λ t. out ++ t) (sym (take-append-le taken due rest few)) ∙ sym (take-append-add out (due ++ rest) taken) ∙ ap (take (length out + taken)) (sym parts) in
            (length out + taken, omega (arith, few, size), subst (Appends a c) front (Appends-trans a b c out (take taken due) h k))

-- nothing went out
pub front_of_none : (text : List ℕ) (a : Option (List ℕ)) → PrintsFront text a a
front_of_none text a = (0, omega arith, Appends-nil a)

-- a first part that failed
pub less_of_first : (xs ys : List Item) (old : List ℕ) (a b : Option (List ℕ)) → PrintsLess (old ++ items_text xs) a b → PrintsLess (old ++ items_text (xs ++ ys)) a b
less_of_first xs ys old a b less =
    less_of_all a a b [] (old ++ items_text xs) (items_text ys) (old ++ items_text (xs ++ ys)) less.0
    (ap (λ t. old ++ t) (texts_both xs ys) ∙ sym (append_assoc old (items_text xs) (items_text ys))) (Appends-nil a) less.1 less.2

pub front_of_first : (xs ys : List Item) (old : List ℕ) (a b : Option (List ℕ)) (room : ℕ) → PrintsFront (old ++ items_text xs) a b → PrintsFront (old ++ items_text (xs ++ ys)) a b
front_of_first xs ys old a b room front = front_behind [] xs old old a a b ys room room (prints_nothing old a room) front

-- ---- a second part behind a first

pub printed_then : (r : Dumped) (xs ys : List Item) (old mid now : List ℕ) (a b c : Option (List ℕ)) (room left more : ℕ) → Prints xs old mid a b room left → Printed r ys mid now b c left more
    → Printed r (xs ++ ys) old now a c room more
printed_then Ok xs ys old mid now a b c room left more p q = prints_both xs ys old mid a b c now room left more p q
printed_then WriteFault xs ys old mid now a b c room left more p q =
    subst (λ (zs : List Item). PrintsLess (old ++ items_text (xs ++ zs)) a c) (append-nil ys) (less_behind xs ys old mid a b c [] room left p q)
printed_then Memory xs ys old mid now a b c room left more p q =
    subst (λ (zs : List Item). PrintsFront (old ++ items_text (xs ++ zs)) a c) (append-nil ys) (front_behind xs ys old mid a b c [] room left p q)
