-- The entries of a tree, and what becomes of them.
use Rattle.std.proofs.Common.{◌≡◌, ◌∙◌, ℕ, ◌<◌, ◌==◌, List, [], ◌∷◌, ◌++◌, map, arith, refl, sym, ap, Bool, true, false, inl, inr, if◌then◌else◌, Option, Some, None}
use Rattle.std.specs.List.{AllByRecursion}
use Rattle.std.specs.Option.{option_map}
use Rattle.entry_tree.proofs.of_plain_laws.Members.{Among}
use Rattle.entry_tree.specs.core_spec.declared.entry.Entry.{Entry}
use Rattle.entry_tree.specs.core_machine.Steps.{marked}
use Rattle.entry_tree.specs.declared.waiting.Change.TheVariants.{Claimed, Failed}
use Rattle.entry_tree.specs.declared.waiting.Waiting.{Waiting}
use Rattle.entry_tree.specs.Waits.{found, edited, changed_by}
use Rattle.entry_tree.specs.Waits as tree
use Rattle.supersede_core.specs.declared.handover.Handover.{Handover}
use Rattle.supersede_core.specs.Waiting.{Rises, entry_of, counted}
use Rattle.supersede_core.specs.Index.{entries}
use Rattle.supersede_core.specs.Handover.{flagged, handed}
use Rattle.supersede_core.proofs.AnyLaws.{left, changed}
use Rattle.supersede_core.proofs.TurnLaws.{opt_is}

all_entries : (n : ℕ) (ws : List Waiting) → AllByRecursion (λ (v : Waiting). n < v.entry.receipt) ws → AllByRecursion (λ (e : Entry). n < e.receipt) (entries ws)
all_entries n [] h = tt
all_entries n (w ∷ ws) h = (h.0, all_entries n ws h.1)

pub rises_entries : (ws : List Waiting) → tree.Rises ws → Rises (entries ws)
rises_entries [] h = tt
rises_entries (w ∷ ws) h = (all_entries w.entry.receipt ws h.0, rises_entries ws h.1)

found_step : (b : Bool) (w : Waiting) (o : Option Waiting) (p : Option Entry) → option_map (λ (v : Waiting). v.entry) o ≡ p → option_map (λ (v : Waiting). v.entry) (if b then Some w else o) ≡ (if b then Some w.entry else p)
found_step true w o p h = refl
found_step false w o p h = h

pub found_entry : (r : ℕ) (ws : List Waiting) → option_map (λ (v : Waiting). v.entry) (found r ws) ≡ entry_of r (entries ws)
found_entry r [] = refl
found_entry r (w ∷ ws) = found_step (r == w.entry.receipt) w (found r ws) (entry_of r (entries ws)) (found_entry r ws)

pub found_among : (r : ℕ) (ws : List Waiting) (w : Waiting) → found r ws ≡ Some w → Among w ws × (w.entry.receipt ≡ r)
found_among r [] w e = absurd (let never : None ≡ Some w = e in cc)
found_among r (v ∷ ws) w e = among_step (r == v.entry.receipt) refl e (found_among r ws w)
  where
    among_step : (b : Bool) → (r == v.entry.receipt) ≡ b → (if b then Some v else found r ws) ≡ Some w → (found r ws ≡ Some w → Among w ws × (w.entry.receipt ≡ r)) → Among w (v ∷ ws) × (w.entry.receipt ≡ r)
    among_step true s f next = let own : v ≡ w = cc in let n : r ≡ v.entry.receipt = grind arith in (inl (sym own), sym (n ∙ ap (λ (x : Waiting). x.entry.receipt) own))
    among_step false s f next = let rest = next f in (inr rest.0, rest.1)

pub entries_more : (ws : List Waiting) (w : Waiting) → entries (ws ++ w ∷ []) ≡ entries ws ++ w.entry ∷ []
entries_more [] w = refl
entries_more (v ∷ ws) w = ap (λ es. v.entry ∷ es) (entries_more ws w)

marked_step : (c : Bool) (b : Bool) (w : Waiting) (ws : List Waiting) (es : List Entry) → entries ws ≡ es → entries ((if b then changed_by (Claimed c) w ∷ [] else w ∷ []) ++ ws) ≡ (if b then marked c w.entry ∷ [] else w.entry ∷ []) ++ es
marked_step c true w ws es h = ap (λ fs. marked c w.entry ∷ fs) h
marked_step c false w ws es h = ap (λ fs. w.entry ∷ fs) h

pub entries_marked : (r : ℕ) (c : Bool) (ws : List Waiting) → entries (edited r (λ w. changed_by (Claimed c) w ∷ []) ws) ≡ changed r (marked c) (entries ws)
entries_marked r c [] = refl
entries_marked r c (w ∷ ws) = marked_step c (r == w.entry.receipt) w (edited r (λ w. changed_by (Claimed c) w ∷ []) ws) (changed r (marked c) (entries ws)) (entries_marked r c ws)

counted_step : (b : Bool) (w : Waiting) (ws : List Waiting) (es : List Entry) → entries ws ≡ es → entries ((if b then changed_by Failed w ∷ [] else w ∷ []) ++ ws) ≡ (if b then counted w.entry ∷ [] else w.entry ∷ []) ++ es
counted_step true w ws es h = ap (λ fs. counted w.entry ∷ fs) h
counted_step false w ws es h = ap (λ fs. w.entry ∷ fs) h

pub entries_counted : (r : ℕ) (ws : List Waiting) → entries (edited r (λ w. changed_by Failed w ∷ []) ws) ≡ changed r counted (entries ws)
entries_counted r [] = refl
entries_counted r (w ∷ ws) = counted_step (r == w.entry.receipt) w (edited r (λ w. changed_by Failed w ∷ []) ws) (changed r counted (entries ws)) (entries_counted r ws)

left_step : (b : Bool) (w : Waiting) (ws : List Waiting) (es : List Entry) → entries ws ≡ es → entries ((if b then [] else w ∷ []) ++ ws) ≡ (if b then [] else w.entry ∷ []) ++ es
left_step true w ws es h = h
left_step false w ws es h = ap (λ fs. w.entry ∷ fs) h

pub entries_left : (r : ℕ) (ws : List Waiting) → entries (edited r (λ w. []) ws) ≡ left r (entries ws)
entries_left r [] = refl
entries_left r (w ∷ ws) = left_step (r == w.entry.receipt) w (edited r (λ w. []) ws) (left r (entries ws)) (entries_left r ws)

-- ---- where an entry comes from

-- w is v, or what became of it
pub record IsFrom (r : ℕ) (w v : Waiting) : Type 0 where
  pub receipt : w.entry.receipt ≡ v.entry.receipt
  pub group : w.entry.group ≡ v.entry.group
  pub key : w.key ≡ v.key
  pub candidate : w.candidate ≡ v.candidate
  pub same : (r == v.entry.receipt) ≡ false → w ≡ v

-- a change that leaves these
pub record Keeps (f : Waiting → Waiting) : Type 0 where
  pub receipt : (v : Waiting) → (f v).entry.receipt ≡ v.entry.receipt
  pub group : (v : Waiting) → (f v).entry.group ≡ v.entry.group
  pub key : (v : Waiting) → (f v).key ≡ v.key
  pub candidate : (v : Waiting) → (f v).candidate ≡ v.candidate

pub claims_keep : (c : Bool) → Keeps (changed_by (Claimed c))
claims_keep c = record { receipt = λ v. refl; group = λ v. refl; key = λ v. refl; candidate = λ v. refl }

pub failures_keep : Keeps (changed_by Failed)
failures_keep = record { receipt = λ v. refl; group = λ v. refl; key = λ v. refl; candidate = λ v. refl }

-- where it stood, and whether it is what it was
from_step : (r : ℕ) (f : Waiting → Waiting) (v w : Waiting) (ws : List Waiting) (b : Bool) → Keeps f → (r == v.entry.receipt) ≡ b → Among w ((if b then f v ∷ [] else v ∷ []) ++ edited r (λ w. f w ∷ []) ws)
    → (Among w (edited r (λ w. f w ∷ []) ws) → (u : Waiting) × Among u ws × IsFrom r w u × ((r == u.entry.receipt) ≡ true → w ≡ f u)) → (u : Waiting) × Among u (v ∷ ws) × IsFrom r w u × ((r == u.entry.receipt) ≡ true → w ≡ f u)
from_step r f v w ws true k s (inl e) next = (
  v,
  inl refl,
  record {
    receipt = ap (λ (x : Waiting). x.entry.receipt) e ∙ k.receipt v;
    group = ap (λ (x : Waiting). x.entry.group) e ∙ k.group v;
    key = ap (λ (x : Waiting). x.key) e ∙ k.key v;
    candidate = ap (λ (x : Waiting). x.candidate) e ∙ k.candidate v;
    same = λ n. absurd (cc);
  },
  λ t. e,
)
from_step r f v w ws true k s (inr a) next = let rest = next a in (rest.0, inr rest.1, rest.2, rest.3)
from_step r f v w ws false k s (inl e) next = (
  v,
  inl refl,
  record {
    receipt = ap (λ (x : Waiting). x.entry.receipt) e;
    group = ap (λ (x : Waiting). x.entry.group) e;
    key = ap (λ (x : Waiting). x.key) e;
    candidate = ap (λ (x : Waiting). x.candidate) e;
    same = λ n. e;
  },
  λ t. absurd (cc),
)
from_step r f v w ws false k s (inr a) next = let rest = next a in (rest.0, inr rest.1, rest.2, rest.3)

pub comes_from : (r : ℕ) (f : Waiting → Waiting) (ws : List Waiting) (w : Waiting) → Keeps f → Among w (edited r (λ w. f w ∷ []) ws) → (u : Waiting) × Among u ws × IsFrom r w u × ((r == u.entry.receipt) ≡ true → w ≡ f u)
comes_from r f [] w k a = absurd a
comes_from r f (v ∷ ws) w k a = from_step r f v w ws (r == v.entry.receipt) k refl a (comes_from r f ws w k)

stay_step : (r : ℕ) (v w : Waiting) (ws : List Waiting) (b : Bool) → (r == v.entry.receipt) ≡ b → Among w ((if b then [] else v ∷ []) ++ edited r (λ w. []) ws)
    → (Among w (edited r (λ w. []) ws) → Among w ws × ((r == w.entry.receipt) ≡ false)) → Among w (v ∷ ws) × ((r == w.entry.receipt) ≡ false)
stay_step r v w ws true s a next = let rest = next a in (inr rest.0, rest.1)
stay_step r v w ws false s (inl e) next = (inl e, ap (λ (x : Waiting). r == x.entry.receipt) e ∙ s)
stay_step r v w ws false s (inr a) next = let rest = next a in (inr rest.0, rest.1)

pub stayed : (r : ℕ) (ws : List Waiting) (w : Waiting) → Among w (edited r (λ w. []) ws) → Among w ws × ((r == w.entry.receipt) ≡ false)
stayed r [] w a = absurd a
stayed r (v ∷ ws) w a = stay_step r v w ws (r == v.entry.receipt) refl a (stayed r ws w)

-- ---- the mark is handed on

abbrev pub mark_after : Handover → Waiting → Bool
mark_after h w = if opt_is h.after w.entry.receipt then true else (if opt_is h.before w.entry.receipt then false else w.candidate)

abbrev with_mark : Waiting → Bool → Waiting
with_mark w b = record { entry = w.entry; key = w.key; candidate = b }

flag_step : (b c : Bool) (w : Waiting) (ws vs : List Waiting) → ws ≡ vs → (if c then with_mark w b ∷ [] else w ∷ []) ++ ws ≡ with_mark w (if c then b else w.candidate) ∷ vs
flag_step b true w ws vs h = ap (λ us. with_mark w b ∷ us) h
flag_step b false w ws vs h = ap (λ us. w ∷ us) h

flag_map : (o : Option ℕ) (b : Bool) (ws : List Waiting) → flagged o b ws ≡ map (λ (w : Waiting). with_mark w (if opt_is o w.entry.receipt then b else w.candidate)) ws
flag_map None b [] = refl
flag_map None b (w ∷ ws) = ap (λ vs. w ∷ vs) (flag_map None b ws)
flag_map (Some r) b [] = refl
flag_map (Some r) b (w ∷ ws) = flag_step b (r == w.entry.receipt) w (flagged (Some r) b ws) (map (λ (w : Waiting). with_mark w (if r == w.entry.receipt then b else w.candidate)) ws) (flag_map (Some r) b ws)

two_maps : (f g : Waiting → Waiting) (ws : List Waiting) → map f (map g ws) ≡ map (λ w. f (g w)) ws
two_maps f g [] = refl
two_maps f g (w ∷ ws) = ap (λ vs. f (g w) ∷ vs) (two_maps f g ws)

pub handed_map : (h : Handover) (ws : List Waiting) → handed h ws ≡ map (λ (w : Waiting). with_mark w (mark_after h w)) ws
handed_map h ws =
    ap (flagged h.after true) (flag_map h.before false ws)
    ∙ flag_map h.after true (map (λ (w : Waiting). with_mark w (if opt_is h.before w.entry.receipt then false else w.candidate)) ws)
    ∙ two_maps (λ (w : Waiting). with_mark w (if opt_is h.after w.entry.receipt then true else w.candidate)) (λ (w : Waiting). with_mark w (if opt_is h.before w.entry.receipt then false else w.candidate)) ws

map_entries : (f : Waiting → Bool) (ws : List Waiting) → entries (map (λ (w : Waiting). with_mark w (f w)) ws) ≡ entries ws
map_entries f [] = refl
map_entries f (w ∷ ws) = ap (λ es. w.entry ∷ es) (map_entries f ws)

pub entries_handed : (h : Handover) (ws : List Waiting) → entries (handed h ws) ≡ entries ws
entries_handed h ws = ap entries (handed_map h ws) ∙ map_entries (mark_after h) ws
