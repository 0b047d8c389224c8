-- The kinds of what is open, and the machine's frames.
use Rattle.std.proofs.Common.{◌≡◌, ◌∙◌, ℕ, ◌+◌, ◌<◌, List, [], ◌∷◌, ◌++◌, length, map, drop, get_or, refl, sym, ap, subst, false, Result, Ok, Err, arith, ◌==◌}
use Rattle.std.specs.Prelude.{reverse}
use Rattle.std.proofs.lemmas.List.{reverse-append, length-reverse, length-map, length-append, drop_more}
use Rattle.json_machine.specs.text_spec.Json as spec
use Rattle.json_machine.specs.text_spec.Json.{Json, items_of, members_of, settled}
use Rattle.json_machine.specs.Machine.{Frame, Mode, in_array, in_object, value, first_item, first_key, next_key, colon, owed, is_space, Verdict, not_json, verdict, begins, key_begins, closes}
use Rattle.json_read.specs.declared.fault.ReadFault.{ReadFault}
use Rattle.json_read.specs.declared.passed.Kind.{Kind}
use Rattle.json_read.specs.declared.passed.Kind.TheVariants.{Array, Object}
use Rattle.json_read.specs.declared.passed.Stage.{Stage}
use Rattle.json_read.specs.declared.passed.Stage.TheVariants.{Value, FirstItem, FirstKey, NextKey, After}
use Rattle.json_read.specs.Found.{PassesSpace}
use Rattle.json_read.specs.Passed.{kind_of, IsStack, IsAt, Begun, Passes}

-- ---- stacks

pub stack_push : (kinds : List Kind) (fs : List Frame) (f : Frame) → IsStack kinds fs → IsStack (kinds ++ kind_of f ∷ []) (f ∷ fs)
stack_push kinds fs f s = ap (λ ks. kind_of f ∷ ks) s ∙ sym (reverse-append kinds (kind_of f ∷ []))

pub length-stack : (kinds : List Kind) (fs : List Frame) → IsStack kinds fs → length fs ≡ length kinds
length-stack kinds fs s = sym (length-map fs kind_of) ∙ ap length s ∙ length-reverse kinds

pub stack_level : (base fs : List Frame) (kinds : List Kind) → length base ≡ 1 → IsStack kinds fs → length (fs ++ base) ≡ length kinds + 1
stack_level base fs kinds l s = omega (arith, length-append fs base, length-stack kinds fs s, l)

same_head : (k l : Kind) (ks ls : List Kind) → k ∷ ks ≡ l ∷ ls → k ≡ l
same_head k l ks ls h = cc

same_tail : (k l : Kind) (ks ls : List Kind) → k ∷ ks ≡ l ∷ ls → ks ≡ ls
same_tail k l ks ls h = cc

no_kinds : {P : Type 0} (k : Kind) (ks : List Kind) → [] ≡ k ∷ ks → P
no_kinds k ks h = absurd (never h)
  where
    never : [] ≡ k ∷ ks → ⊥
    never h = cc

apart : {P : Type 0} → Array ≡ Object → P
apart h = absurd (never h)
  where
    never : Array ≡ Object → ⊥
    never h = cc

-- the innermost frame is of the last kind
pub stack_array : (kinds : List Kind) (fs : List Frame) → IsStack (kinds ++ Array ∷ []) fs → (js : List Json) × (gs : List Frame) × (fs ≡ in_array js ∷ gs) × IsStack kinds gs
stack_array kinds fs s = opened fs (s ∙ reverse-append kinds (Array ∷ []))
  where
    opened : (fs : List Frame) → map kind_of fs ≡ Array ∷ reverse kinds → (js : List Json) × (gs : List Frame) × (fs ≡ in_array js ∷ gs) × IsStack kinds gs
    opened [] h = no_kinds Array (reverse kinds) h
    opened (in_array js ∷ gs) h = (js, gs, refl, same_tail Array Array (map kind_of gs) (reverse kinds) h)
    opened (in_object ms k ∷ gs) h = apart (sym (same_head Object Array (map kind_of gs) (reverse kinds) h))

pub stack_object : (kinds : List Kind) (fs : List Frame) → IsStack (kinds ++ Object ∷ []) fs → (ms : List (List ℕ × Json)) × (k : List ℕ) × (gs : List Frame) × (fs ≡ in_object ms k ∷ gs) × IsStack kinds gs
stack_object kinds fs s = opened fs (s ∙ reverse-append kinds (Object ∷ []))
  where
    opened : (fs : List Frame) → map kind_of fs ≡ Object ∷ reverse kinds → (ms : List (List ℕ × Json)) × (k : List ℕ) × (gs : List Frame) × (fs ≡ in_object ms k ∷ gs) × IsStack kinds gs
    opened [] h = no_kinds Object (reverse kinds) h
    opened (in_array js ∷ gs) h = apart (same_head Array Object (map kind_of gs) (reverse kinds) h)
    opened (in_object ms k ∷ gs) h = (ms, k, gs, refl, same_tail Object Object (map kind_of gs) (reverse kinds) h)

-- ---- what is passed

pub begun_passes : (bytes : List ℕ) (base fs : List Frame) (kinds : List Kind) (depth : ℕ) (r : Result (Stage × ℕ) ReadFault) (v : Verdict) → IsStack kinds fs → depth ≡ length kinds → Begun bytes (fs ++ base) depth r v → Passes bytes base kinds r v
begun_passes bytes base fs kinds depth (Ok p) v s d h = (fs, h.0, s, subst (λ n. IsAt n p.0 h.0) d h.1, h.2)
begun_passes bytes base fs kinds depth (Err e) v s d h = h

pub passes_space : (depth : ℕ) (stage : Stage) (m : Mode) → IsAt depth stage m → PassesSpace m
passes_space depth Value m e = subst PassesSpace (sym e) (λ n fs b h. rw h refl)
passes_space depth FirstItem m e = subst PassesSpace (sym e) (λ n fs b h. rw h refl)
passes_space depth FirstKey m e = subst PassesSpace (sym e) (λ n fs b h. rw h refl)
passes_space depth NextKey m e = subst PassesSpace (sym e.1) (λ n fs b h. rw h refl)
passes_space depth After m e = subst PassesSpace (sym e.2) (λ n fs b h. rw h refl)

-- ---- a byte that is no white space

module _ (fs : List Frame) (b at : ℕ) (bs : List ℕ) (black : is_space b ≡ false) where
  pub value_begins : verdict 127 fs value at (b ∷ bs) ≡ begins 127 fs b at bs
  value_begins = rw black refl

  pub next_key_begins : (ms : List (List ℕ × Json)) → verdict 127 fs (next_key ms) at (b ∷ bs) ≡ key_begins 127 fs ms b at bs
  next_key_begins ms = rw black refl

  pub after_closes : (j : Json) → verdict 127 fs (owed [] j) at (b ∷ bs) ≡ closes 127 fs j b at bs
  after_closes j = rw black refl

  pub array_ends : b ≡ 93 → verdict 127 fs first_item at (b ∷ bs) ≡ verdict 127 fs (owed [] (spec.array spec.no_items)) (at + 1) bs
  array_ends e = rw e refl

  pub object_ends : b ≡ 125 → verdict 127 fs first_key at (b ∷ bs) ≡ verdict 127 fs (owed [] (spec.object spec.no_members)) (at + 1) bs
  object_ends e = rw e refl

  pub first_key_begins : ¬ (b ≡ 125) → verdict 127 fs first_key at (b ∷ bs) ≡ key_begins 127 fs [] b at bs
  first_key_begins other =
      let apart : (b == 125) ≡ false = grind arith in
      rw (black, apart) refl

-- ---- the text ends within a container

pub unfinished : (fs base : List Frame) (m : Mode) (at : ℕ) → length base ≡ 1 → verdict 127 (fs ++ base) m at [] ≡ not_json at
unfinished (f ∷ fs) base m at h = refl
unfinished [] (f ∷ base) m at h = refl
unfinished [] [] m at h = absurd (omega (arith, h))

-- ---- behind a value, and behind a key

module _ (fs : List Frame) (j : Json) (b at : ℕ) (bs : List ℕ) where
  pub array_comma : (js : List Json) → b ≡ 44 → closes 127 (in_array js ∷ fs) j b at bs ≡ verdict 127 (in_array (js ++ j ∷ []) ∷ fs) value (at + 1) bs
  array_comma js e = rw e refl

  pub array_bracket : (js : List Json) → b ≡ 93 → closes 127 (in_array js ∷ fs) j b at bs ≡ verdict 127 fs (owed [] (spec.array (items_of (js ++ j ∷ [])))) (at + 1) bs
  array_bracket js e = rw e refl

  pub object_comma : (ms : List (List ℕ × Json)) (k : List ℕ) → b ≡ 44 → closes 127 (in_object ms k ∷ fs) j b at bs ≡ verdict 127 fs (next_key (ms ++ (k, j) ∷ [])) (at + 1) bs
  object_comma ms k e = rw e refl

  pub object_brace : (ms : List (List ℕ × Json)) (k : List ℕ) → b ≡ 125 → closes 127 (in_object ms k ∷ fs) j b at bs ≡ verdict 127 fs (owed [] (spec.object (members_of (settled [] (ms ++ (k, j) ∷ []))))) (at + 1) bs
  object_brace ms k e = rw e refl

pub colon_passed : (bytes : List ℕ) (fs : List Frame) (ms : List (List ℕ × Json)) (k : List ℕ) (at : ℕ) → at < length bytes → get_or bytes at 0 ≡ 58 → verdict 127 fs (colon ms k) at (drop at bytes) ≡ verdict 127 (in_object ms k ∷ fs) value (at + 1) (drop (at + 1) bytes)
colon_passed bytes fs ms k at lt e = ap (verdict 127 fs (colon ms k) at) (drop_more bytes at 0 lt) ∙ rw e refl
