-- A superseding whose record isn't put.
use Rattle.std.proofs.Common.{◌≡◌, ◌⊎◌, inl, inr, ℕ, ◌==◌, Bool, true, false, not, ◌&&◌, ◌||◌, List, [], ◌∷◌, Some, Result, Ok, Err, is_err, OnOk, IsTrue, refl, sym, ◌∙◌}
use Rattle.core_state.specs.fleet_keeper.declared.kept.Kept.{Kept}
use Rattle.core_state.specs.fleet_keeper.declared.kept.Kept.TheVariants as kept
use Rattle.core_state.specs.core_spec.declared.entry.Entry.{Entry}
use Rattle.core_state.specs.supersede_core.Waiting.{stands, is_queued}
use Rattle.core_state.specs.declared.state.CoreState.{CoreState}
use Rattle.core_state.specs.Changes.{CoreStays}
use Rattle.core_state.proofs.Ports.{Ports}
use Rattle.core_claims.specs.Turns.{refused_as, WasRefused, SupersedeDoes}

-- what is queued waits
pub queued_stands : (r : ℕ) (es : List Entry) → IsTrue (is_queued r es) → IsTrue (stands r es)
queued_stands r [] h = h
queued_stands r (e ∷ es) h = step (r == e.receipt) (not e.claimed) (is_queued r es) (stands r es) h (queued_stands r es)
  where
    step : (a b x y : Bool) → IsTrue ((a && b) || x) → (IsTrue x → IsTrue y) → IsTrue (a || y)
    step true b x y h next = refl
    step false b x y h next = next h

module _ {D K : Type 0} (p : Ports D K) (q n : ℕ) (old new : CoreState D K) where
  abbrev Refused : Kept → Type 0
  Refused answer = WasRefused p.tells p.seen p.may_leave p.moment p.left_since p.faults answer q n old new

  stays : (answer : Kept) → Refused answer → (answer ≡ kept.Memory) ⊎ (answer ≡ kept.Spent) → CoreStays old new
  stays answer w is = record { memory = w.memory; queue = w.put.untouched is; store = w.store }

  pub refused_supersedes : (answer : Kept) → (answer ≡ kept.Ok → ⊥) → Refused answer → SupersedeDoes p.tells p.seen p.may_leave p.moment p.left_since p.faults (Some (refused_as answer)) q n old new
  refused_supersedes kept.Ok no_ok w = absurd (no_ok refl)
  refused_supersedes kept.Failed no_ok w = (kept.Failed, tt, w)
  refused_supersedes kept.Down no_ok w = (kept.Down, tt, w)
  refused_supersedes kept.Memory no_ok w = stays kept.Memory w (inl refl)
  refused_supersedes kept.Spent no_ok w = (w.put.spent.0 refl, stays kept.Spent w (inr refl))
