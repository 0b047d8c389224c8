-- Law 1: the machine reads the text of each tree as the value of the tree. What follows, r, stands in each statement,
-- so that the parts of a text are joined by paths and no length is counted.
use Rattle.std.proofs.Common.{◌≡◌, ◌∙◌, ℕ, suc, ◌≤◌, ◌-◌, List, [], ◌∷◌, ◌++◌, length, refl, sym, ap, true, false, arith, append_assoc, nat_lt}
use Rattle.std.specs.Prelude.{flat_map}
use Rattle.text_spec.proofs.of_plain_laws.Lists.{regroup}
use Rattle.text_spec.specs.Json as spec
use Rattle.text_spec.specs.Json.{Json, items_of, members_of, settled}
use Rattle.text_spec.specs.JsonText as grammar
use Rattle.text_spec.specs.JsonText.{Piece, piece_text, piece_bytes, string_text, string_bytes, IsPiece, IsSpace, Tree, Element, element, Elements, last_element, next_element, Member, member, Members, last_member, next_member, text, element_text, elements_text, member_text, members_text, element_value, elements_value, member_pair, member_pairs, IsTree, IsElement, AreElements, IsMember, AreMembers, depth, element_depth, elements_depth, member_depth, members_depth}
use Rattle.json_machine.specs.Machine.{inside, Frame, in_array, in_object, value, first_item, first_key, next_key, owed, read}
use Rattle.json_machine.proofs.Runs.{read-string, read-key, space-value, space-first_item, space-first_key, space-next_key, space-colon, space-after}
use Rattle.json_machine.proofs.NumberReads.{stops, read-number, number-first_item}
use Rattle.json_machine.proofs.TextReads.{text_run-pieces}

abbrev pub elements_list : Elements → List Json
elements_list last_element = []
elements_list (next_element e es) = element_value e ∷ elements_list es

pub elements_list-value : (es : Elements) → items_of (elements_list es) ≡ elements_value es
elements_list-value last_element = refl
elements_list-value (next_element e es) = ap (spec.item (element_value e)) (elements_list-value es)

stops-space : (xs r : List ℕ) → IsSpace xs → stops r ≡ true → stops (xs ++ r) ≡ true
stops-space [] r h e = e
stops-space (x ∷ xs) r h e = rw h.0 refl

stops-elements : (es : Elements) (r : List ℕ) → stops (elements_text es ++ r) ≡ true
stops-elements last_element r = refl
stops-elements (next_element e es) r = refl

stops-members : (ms : Members) (r : List ℕ) → stops (members_text ms ++ r) ≡ true
stops-members last_member r = refl
stops-members (next_member m ms) r = refl

-- behind [ a value begins the items
tree-first_item : (n : ℕ) (fs : List Frame) (t : Tree) (r : List ℕ) → IsTree t → read n fs first_item (text t ++ r) ≡ read n (in_array [] ∷ fs) value (text t ++ r)
tree-first_item n fs grammar.null r h = refl
tree-first_item n fs (grammar.boolean true) r h = refl
tree-first_item n fs (grammar.boolean false) r h = refl
tree-first_item n fs (grammar.number s) r h = number-first_item n fs s r h
tree-first_item n fs (grammar.string ps) r h = refl
tree-first_item n fs (grammar.empty_array xs) r h = refl
tree-first_item n fs (grammar.array e es) r h = refl
tree-first_item n fs (grammar.empty_object xs) r h = refl
tree-first_item n fs (grammar.object m ms) r h = refl

element-first_item : (n : ℕ) (fs : List Frame) (e : Element) (r : List ℕ) → IsElement e → read n fs first_item (element_text e ++ r) ≡ read n (in_array [] ∷ fs) value (element_text e ++ r)
element-first_item n fs (element before t after) r h =
    ap (read n fs first_item) (regroup before (text t) after r)
    ∙ space-first_item n fs before (text t ++ (after ++ r)) h.0
    ∙ tree-first_item n fs t (after ++ r) h.1
    ∙ sym (space-value n (in_array [] ∷ fs) before (text t ++ (after ++ r)) h.0)
    ∙ sym (ap (read n (in_array [] ∷ fs) value) (regroup before (text t) after r))

pub member_regroup : (a b c d r : List ℕ) → a ++ b ++ c ++ d ++ r ≡ a ++ (b ++ (c ++ (d ++ r)))
member_regroup a b c d r = append_assoc (a ++ b ++ c) d r ∙ regroup a b c (d ++ r)

member-first_key : (n : ℕ) (fs : List Frame) (m : Member) (r : List ℕ) → IsMember m → read n fs first_key (member_text m ++ r) ≡ read n fs (next_key []) (member_text m ++ r)
member-first_key n fs (member before k after e) r h =
    ap (read n fs first_key) (member_regroup before (string_text k) after (58 ∷ element_text e) r)
    ∙ space-first_key n fs before _ h.0
    ∙ sym (space-next_key n fs [] before _ h.0)
    ∙ sym (ap (read n fs (next_key [])) (member_regroup before (string_text k) after (58 ∷ element_text e) r))

module _ (n : ℕ) where
  room : (fs : List Frame) (d : ℕ) → suc d ≤ n - length fs → nat_lt (length fs) n ≡ true
  room fs d h = grind arith

  mutual
    pub read-tree : (t : Tree) (fs : List Frame) (r : List ℕ) → IsTree t → depth t ≤ n - length fs → stops r ≡ true → read n fs value (text t ++ r) ≡ read n fs (owed [] (grammar.value t)) r
    read-tree grammar.null fs r h d e = refl
    read-tree (grammar.boolean true) fs r h d e = refl
    read-tree (grammar.boolean false) fs r h d e = refl
    read-tree (grammar.number s) fs r h d e = read-number n fs s r h e
    read-tree (grammar.string ps) fs r h d e = read-string n fs (string_bytes ps) r (flat_map piece_text ps ++ 34 ∷ []) inside [] (text_run-pieces ps [] h)
    read-tree (grammar.empty_array xs) fs r h d e =
        rw (room fs 0 d) (ap (read n fs first_item) (append_assoc xs (93 ∷ []) r) ∙ space-first_item n fs xs (93 ∷ r) h)
    read-tree (grammar.array e es) fs r h d s =
        rw (room fs _ d)
        (ap (read n fs first_item) (append_assoc (element_text e) (elements_text es) r)
        ∙ element-first_item n fs e (elements_text es ++ r) h.0
        ∙ read-element e (in_array [] ∷ fs) (elements_text es ++ r) h.0 (omega arith) (stops-elements es r)
        ∙ read-elements es fs [] (element_value e) r h.1 (omega arith)
        ∙ ap (λ js. read n fs (owed [] (spec.array (spec.item (element_value e) js))) r) (elements_list-value es))
    read-tree (grammar.empty_object xs) fs r h d e =
        rw (room fs 0 d) (ap (read n fs first_key) (append_assoc xs (125 ∷ []) r) ∙ space-first_key n fs xs (125 ∷ r) h)
    read-tree (grammar.object m ms) fs r h d s =
        rw (room fs _ d)
        (ap (read n fs first_key) (append_assoc (member_text m) (members_text ms) r)
        ∙ member-first_key n fs m (members_text ms ++ r) h.0
        ∙ read-member m fs [] (members_text ms ++ r) h.0 (omega arith) (stops-members ms r)
        ∙ read-members ms fs [] (member_pair m).0 (member_pair m).1 r h.1 (omega arith))

    pub read-element : (e : Element) (fs : List Frame) (r : List ℕ) → IsElement e → element_depth e ≤ n - length fs → stops r ≡ true → read n fs value (element_text e ++ r) ≡ read n fs (owed [] (element_value e)) r
    read-element (element before t after) fs r h d e =
        ap (read n fs value) (regroup before (text t) after r)
        ∙ space-value n fs before (text t ++ (after ++ r)) h.0
        ∙ read-tree t fs (after ++ r) h.1 d (stops-space after r h.2 e)
        ∙ space-after n fs (grammar.value t) after r h.2

    pub read-elements : (es : Elements) (fs : List Frame) (js : List Json) (j : Json) (r : List ℕ) → AreElements es → elements_depth es ≤ n - suc (length fs) → read n (in_array js ∷ fs) (owed [] j) (elements_text es ++ r) ≡ read n fs (owed [] (spec.array (items_of (js ++ j ∷ elements_list es)))) r
    read-elements last_element fs js j r h d = refl
    read-elements (next_element e es) fs js j r h d =
        ap (read n (in_array (js ++ j ∷ []) ∷ fs) value) (append_assoc (element_text e) (elements_text es) r)
        ∙ read-element e (in_array (js ++ j ∷ []) ∷ fs) (elements_text es ++ r) h.0 (omega arith) (stops-elements es r)
        ∙ read-elements es fs (js ++ j ∷ []) (element_value e) r h.1 (omega arith)
        ∙ ap (λ xs. read n fs (owed [] (spec.array (items_of xs))) r) (append_assoc js (j ∷ []) (element_value e ∷ elements_list es))

    pub read-member : (m : Member) (fs : List Frame) (ms : List (List ℕ × Json)) (r : List ℕ) → IsMember m → member_depth m ≤ n - suc (length fs) → stops r ≡ true → read n fs (next_key ms) (member_text m ++ r) ≡ read n (in_object ms (member_pair m).0 ∷ fs) (owed [] (member_pair m).1) r
    read-member (member before k after e) fs ms r h d s =
        ap (read n fs (next_key ms)) (member_regroup before (string_text k) after (58 ∷ element_text e) r)
        ∙ space-next_key n fs ms before _ h.0
        ∙ read-key n fs (string_bytes k) (after ++ 58 ∷ (element_text e ++ r)) ms (flat_map piece_text k ++ 34 ∷ []) inside [] (text_run-pieces k [] h.1)
        ∙ space-colon n fs ms (string_bytes k) after (58 ∷ (element_text e ++ r)) h.2
        ∙ read-element e (in_object ms (string_bytes k) ∷ fs) r h.3 d s

    pub read-members : (others : Members) (fs : List Frame) (ms : List (List ℕ × Json)) (k : List ℕ) (j : Json) (r : List ℕ) → AreMembers others → members_depth others ≤ n - suc (length fs) → read n (in_object ms k ∷ fs) (owed [] j) (members_text others ++ r) ≡ read n fs (owed [] (spec.object (members_of (settled [] (ms ++ (k, j) ∷ member_pairs others))))) r
    read-members last_member fs ms k j r h d = refl
    read-members (next_member m others) fs ms k j r h d =
        ap (read n fs (next_key (ms ++ (k, j) ∷ []))) (append_assoc (member_text m) (members_text others) r)
        ∙ read-member m fs (ms ++ (k, j) ∷ []) (members_text others ++ r) h.0 (omega arith) (stops-members others r)
        ∙ read-members others fs (ms ++ (k, j) ∷ []) (member_pair m).0 (member_pair m).1 r h.1 (omega arith)
        ∙ ap (λ xs. read n fs (owed [] (spec.object (members_of (settled [] xs)))) r) (append_assoc ms ((k, j) ∷ []) (member_pair m ∷ member_pairs others))
