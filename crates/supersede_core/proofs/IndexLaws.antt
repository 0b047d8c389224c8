-- The index stands after each step.
use Rattle.std.proofs.Common.{◌≡◌, ◌∙◌, ℕ, List, [], ◌∷◌, ◌++◌, map, refl, sym, ap, subst, Bool, true, false, not, ◌&&◌, ◌||◌, if◌then◌else◌, Option, Some, None}
use Rattle.std.specs.List.{AllByRecursion, list_any}
use Rattle.std.specs.Str.{bytes_eq}
use Rattle.entry_tree.proofs.of_plain_laws.Lists.{one_text}
use Rattle.entry_tree.proofs.of_plain_laws.Booleans.{not_both}
use Rattle.entry_tree.proofs.of_plain_laws.Members.{Among, Among-map, All-Among, All-from_Among}
use Rattle.entry_tree.specs.core_spec.declared.entry.Entry.{Entry}
use Rattle.entry_tree.specs.core_spec.Commands.{Key}
use Rattle.entry_tree.specs.core_machine.Claims.{same_group, holds_back, is_held, is_candidate}
use Rattle.entry_tree.specs.declared.waiting.Waiting.{Waiting}
use Rattle.supersede_core.specs.declared.handover.Handover.{Handover}
use Rattle.supersede_core.specs.declared.turns.Turns.{Turns}
use Rattle.supersede_core.specs.Waiting.{Rises, entry_of}
use Rattle.supersede_core.specs.Turns.{members_at, IsTurn}
use Rattle.supersede_core.specs.Index.{key_text, is_of, IsKey, entries, AreKeyed, AreMarked, Stands, IsIndex}
use Rattle.supersede_core.specs.Handover.{handed}
use Rattle.supersede_core.proofs.KeyLaws.{same_text}
use Rattle.supersede_core.proofs.AnyLaws.{left, changed, or_none, any_more, any_own, any_changed}
use Rattle.supersede_core.proofs.TurnLaws.{opt_is, IsGroup}
use Rattle.supersede_core.proofs.TreeEntries.{mark_after, handed_map, entries_handed}

-- ---- the whole, by each entry

all_map : (P : Waiting → Type 0) (f : Waiting → Waiting) (ws : List Waiting) → AllByRecursion (λ w. P (f w)) ws → AllByRecursion P (map f ws)
all_map P f [] h = tt
all_map P f (w ∷ ws) h = (h.0, all_map P f ws h.1)

pub handed_index : (h : Handover) (ws : List Waiting) (es : List Entry) (t : Turns) → entries ws ≡ es → Rises es → AreKeyed ws → Stands t es → ((w : Waiting) → Among w ws → mark_after h w ≡ is_candidate es w.entry) → IsIndex (handed h ws) t
handed_index h ws es t e up k s m =
    let all : entries (handed h ws) ≡ es = entries_handed h ws ∙ e in
    record {
      rises = subst Rises (sym all) up;
      keyed = subst AreKeyed (sym (handed_map h ws)) (all_map (λ (w : Waiting). IsKey w.key w.entry.group) _ ws k);
      stands = subst (Stands t) (sym all) s;
      marked = subst (λ fs. AreMarked fs (handed h ws)) (sym all) (subst (AreMarked es) (sym (handed_map h ws)) (all_map (λ (w : Waiting). w.candidate ≡ is_candidate es w.entry) _ ws (All-from_Among (λ (w : Waiting). mark_after h w ≡ is_candidate es w.entry) ws m)));
    }

mark_step : (a b c d : Bool) → c ≡ b → d ≡ a → (if a then true else (if b then false else c)) ≡ d
mark_step true b c d e f = sym f
mark_step false true c d e f = sym f
mark_step false false c d e f = e ∙ sym f

pub mark_in_group : (h : Handover) (w : Waiting) (es : List Entry) → w.candidate ≡ opt_is h.before w.entry.receipt → is_candidate es w.entry ≡ opt_is h.after w.entry.receipt → mark_after h w ≡ is_candidate es w.entry
mark_in_group h w es e f = mark_step (opt_is h.after w.entry.receipt) (opt_is h.before w.entry.receipt) w.candidate (is_candidate es w.entry) e f

keep_step : (a b c : Bool) → a ≡ false → b ≡ false → (if a then true else (if b then false else c)) ≡ c
keep_step true b c e f = absurd (cc)
keep_step false true c e f = absurd (cc)
keep_step false false c e f = refl

pub mark_elsewhere : (h : Handover) (w : Waiting) → opt_is h.after w.entry.receipt ≡ false → opt_is h.before w.entry.receipt ≡ false → mark_after h w ≡ w.candidate
mark_elsewhere h w e f = keep_step (opt_is h.after w.entry.receipt) (opt_is h.before w.entry.receipt) w.candidate e f

-- ---- an entry of another group doesn't hold back

-- none of the group of x is of the group of e
abbrev pub Apart : Entry → Option Key → Type 0
Apart e o = (m : Key) → e.group ≡ Some m → (y : Entry) → y.group ≡ o → holds_back m e.receipt y y.group ≡ false

pub apart_none : (e : Entry) → Apart e None
apart_none e m g y i = ap (holds_back m e.receipt y) i

pub apart_group : (e : Entry) (l : Key) → is_of (key_text l.0) e.group ≡ false → Apart e (Some l)
apart_group e l n m g y i =
    let other : bytes_eq (key_text m.0) (key_text l.0) ≡ false = sym (ap (is_of (key_text l.0)) g) ∙ n in
    ap (holds_back m e.receipt y) i ∙ not_both (same_group m.0 l.0) _ (sym (same_text m.0 l.0) ∙ other)

held_step : (e : Entry) (es fs : List Entry) (o : Option Key) → e.group ≡ o → ((m : Key) → e.group ≡ Some m → list_any (λ (f : Entry). holds_back m e.receipt f f.group) fs ≡ list_any (λ (f : Entry). holds_back m e.receipt f f.group) es) → is_held o e.receipt fs ≡ is_held o e.receipt es
held_step e es fs None g h = refl
held_step e es fs (Some m) g h = h m g

pub candidate_same : (e : Entry) (es fs : List Entry) → ((m : Key) → e.group ≡ Some m → list_any (λ (f : Entry). holds_back m e.receipt f f.group) fs ≡ list_any (λ (f : Entry). holds_back m e.receipt f f.group) es) → is_candidate fs e ≡ is_candidate es e
candidate_same e es fs h = ap (λ b. not e.claimed && not b) (held_step e es fs e.group refl h)

pub same_changed : (r : ℕ) (f : Entry → Entry) (es : List Entry) (x e : Entry) (o : Option Key) → Rises es → entry_of r es ≡ Some x → x.group ≡ o → ((y : Entry) → (f y).group ≡ y.group) → Apart e o → is_candidate (changed r f es) e ≡ is_candidate es e
same_changed r f es x e o up there g keeps a =
    candidate_same e es (changed r f es) (λ m i.
    any_changed (λ (y : Entry). holds_back m e.receipt y y.group) r f es x up there
    ∙ ap (λ b. b || list_any (λ (y : Entry). holds_back m e.receipt y y.group) (left r es)) (a m i (f x) (keeps x ∙ g) ∙ sym (a m i x g))
    ∙ sym (any_own (λ (y : Entry). holds_back m e.receipt y y.group) r es x up there))

pub same_left : (r : ℕ) (es : List Entry) (x e : Entry) (o : Option Key) → Rises es → entry_of r es ≡ Some x → x.group ≡ o → Apart e o → is_candidate (left r es) e ≡ is_candidate es e
same_left r es x e o up there g a =
    candidate_same e es (left r es) (λ m i.
    sym (any_own (λ (y : Entry). holds_back m e.receipt y y.group) r es x up there
    ∙ ap (λ b. b || list_any (λ (y : Entry). holds_back m e.receipt y y.group) (left r es)) (a m i x g)))

pub same_more : (es : List Entry) (x e : Entry) (o : Option Key) → x.group ≡ o → Apart e o → is_candidate (es ++ x ∷ []) e ≡ is_candidate es e
same_more es x e o g a =
    candidate_same e es (es ++ x ∷ []) (λ m i.
    any_more (λ (y : Entry). holds_back m e.receipt y y.group) es x
    ∙ ap (λ b. list_any (λ (y : Entry). holds_back m e.receipt y y.group) es || b) (a m i x g)
    ∙ or_none (list_any (λ (y : Entry). holds_back m e.receipt y y.group) es))

-- ---- whose turn it is

pub group_at : (es : List Entry) (t : Turns) (k : List ℕ) (turn : Option ℕ) → Rises es → Stands t es → IsTurn (members_at t k) turn → IsGroup es k (members_at t k) turn
group_at es t k turn up s i = record { rises = up; ranks = s.ranks k; claims = s.claims k; turn = i }

-- an entry is of the group or not
pub by_group : {P : Type 0} (k : List ℕ) (o : Option Key) → ((m : Key) → o ≡ Some m → key_text m.0 ≡ k → P) → (is_of k o ≡ false → P) → P
by_group k None f g = g refl
by_group {P} k (Some m) f g = by_text (bytes_eq (key_text m.0) k) refl
  where
    by_text : (b : Bool) → bytes_eq (key_text m.0) k ≡ b → P
    by_text true e = f m refl (one_text (key_text m.0) k e)
    by_text false e = g e

pub entry_among : (ws : List Waiting) (w : Waiting) → Among w ws → Among w.entry (entries ws)
entry_among ws w a = Among-map (λ (w : Waiting). w.entry) ws w a

pub was_marked : (ws : List Waiting) (t : Turns) (w : Waiting) → IsIndex ws t → Among w ws → w.candidate ≡ is_candidate (entries ws) w.entry
was_marked ws t w i a = All-Among (λ (w : Waiting). w.candidate ≡ is_candidate (entries ws) w.entry) ws w i.marked a
