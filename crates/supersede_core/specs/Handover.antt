-- How a group changes when one of its commands is added, claimed, given back or taken out.
use Rattle.std.specs.Prelude.{◌≡◌, ℕ, suc, ◌-◌, ℤ, List, ◌∷◌, [], Bool, true, false, cond, ◌&&◌, if◌then◌else◌, Option, Some, None}
use Rattle.std.specs.Ordering.{is_eq}
use Rattle.std.specs.Str.{bytes_eq}
use Rattle.entry_tree.specs.declared.waiting.Change.TheVariants.{Candidate}
use Rattle.entry_tree.specs.declared.waiting.Waiting.{Waiting}
use Rattle.entry_tree.specs.Waits.{edited, changed_by}
use Rattle.supersede_core.specs.declared.handover.Handover.{Handover}
use Rattle.supersede_core.specs.declared.turns.Turns.{Turns}
use Rattle.supersede_core.specs.Turns.{rank_order, has, claims, members_at, IsHandover}
use Rattle.supersede_core.specs.Index.{key_parts}

pub record AreSame (t u : Turns) : Type 0 where
  pub ranks : (text : List ℕ) → (q : ℤ × ℕ) → has (members_at u text) q ≡ has (members_at t text) q
  pub claims : (text : List ℕ) → claims (members_at u text) ≡ claims (members_at t text)

-- for a command without a group
pub record Passes (first last : Option ℕ) (t u : Turns) (h : Handover) : Type 0 where
  pub same : AreSame t u
  pub before : h.before ≡ first
  pub after : h.after ≡ last

pub record EntersGroup (p : List ℕ × ℤ) (r : ℕ) (t u : Turns) (h : Handover) : Type 0 where
  pub ranks : (text : List ℕ) → (q : ℤ × ℕ) → has (members_at u text) q ≡ cond (bytes_eq p.0 text && is_eq (rank_order (p.1, r) q)) true (has (members_at t text) q)
  pub claims : (text : List ℕ) → claims (members_at u text) ≡ claims (members_at t text)
  pub turn : IsHandover (members_at t p.0) (members_at u p.0) h

abbrev pub EntersAs : Option (List ℕ × ℤ) → ℕ → Turns → Turns → Handover → Type 0
EntersAs None r t u h = Passes None (Some r) t u h
EntersAs (Some p) r t u h = EntersGroup p r t u h

pub record ClaimsGroup (text : List ℕ) (t u : Turns) (h : Handover) : Type 0 where
  pub ranks : (k : List ℕ) → (q : ℤ × ℕ) → has (members_at u k) q ≡ has (members_at t k) q
  pub claims : (k : List ℕ) → claims (members_at u k) ≡ (if bytes_eq text k then suc (claims (members_at t k)) else claims (members_at t k))
  pub turn : IsHandover (members_at t text) (members_at u text) h

abbrev pub ClaimsAs : Option (List ℕ × ℤ) → ℕ → Turns → Turns → Handover → Type 0
ClaimsAs None r t u h = Passes (Some r) None t u h
ClaimsAs (Some p) r t u h = ClaimsGroup p.0 t u h

pub record ReleasesGroup (text : List ℕ) (t u : Turns) (h : Handover) : Type 0 where
  pub ranks : (k : List ℕ) → (q : ℤ × ℕ) → has (members_at u k) q ≡ has (members_at t k) q
  pub claims : (k : List ℕ) → claims (members_at u k) ≡ (if bytes_eq text k then claims (members_at t k) - 1 else claims (members_at t k))
  pub turn : IsHandover (members_at t text) (members_at u text) h

abbrev pub ReleasesAs : Option (List ℕ × ℤ) → ℕ → Turns → Turns → Handover → Type 0
ReleasesAs None r t u h = Passes None (Some r) t u h
ReleasesAs (Some p) r t u h = ReleasesGroup p.0 t u h

pub record LeavesGroup (p : List ℕ × ℤ) (r : ℕ) (claimed : Bool) (t u : Turns) (h : Handover) : Type 0 where
  pub ranks : (text : List ℕ) → (q : ℤ × ℕ) → has (members_at u text) q ≡ cond (bytes_eq p.0 text && is_eq (rank_order (p.1, r) q)) false (has (members_at t text) q)
  pub claims : (text : List ℕ) → claims (members_at u text) ≡ (if bytes_eq p.0 text && claimed then claims (members_at t text) - 1 else claims (members_at t text))
  pub turn : IsHandover (members_at t p.0) (members_at u p.0) h

abbrev pub LeavesAs : Option (List ℕ × ℤ) → ℕ → Bool → Turns → Turns → Handover → Type 0
LeavesAs None r claimed t u h = Passes None None t u h
LeavesAs (Some p) r claimed t u h = LeavesGroup p r claimed t u h

-- ---- for a pending command

abbrev pub Enters : Waiting → Turns → Turns → Handover → Type 0
Enters w t u h = EntersAs (key_parts w.key) w.entry.receipt t u h

abbrev pub Claims : Waiting → Turns → Turns → Handover → Type 0
Claims w t u h = ClaimsAs (key_parts w.key) w.entry.receipt t u h

abbrev pub Releases : Waiting → Turns → Turns → Handover → Type 0
Releases w t u h = ReleasesAs (key_parts w.key) w.entry.receipt t u h

abbrev pub Leaves : Waiting → Turns → Turns → Handover → Type 0
Leaves w t u h = LeavesAs (key_parts w.key) w.entry.receipt w.entry.claimed t u h

-- ---- the candidate's mark

abbrev pub flagged : Option ℕ → Bool → List Waiting → List Waiting
flagged None b ws = ws
flagged (Some r) b ws = edited r (λ w. changed_by (Candidate b) w ∷ []) ws

abbrev pub handed : Handover → List Waiting → List Waiting
handed h ws = flagged h.after true (flagged h.before false ws)
