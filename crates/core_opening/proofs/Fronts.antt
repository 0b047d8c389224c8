-- The commands that wait by the rule of damage are those that the records lead to.
use Rattle.std.proofs.Common.{◌≡◌, ◌∙◌, inl, inr, ℕ, List, [], ◌∷◌, ◌++◌, arith, refl, sym, ap, subst, Bool, true, false, ◌||◌, ◌==◌}
use Rattle.std.specs.Prelude.{length}
use Rattle.ttl_sweeps.proofs.of_plain_laws.Booleans.{or_right, or_left}
use Rattle.ttl_sweeps.proofs.of_plain_laws.Members.{Among, Among-from_Contains, Contains-from_Among, Among-append_left, Among-append_right, Among-append_cases}
use Rattle.core_state.specs.record_spec.declared.queue.QueueRecord.{QueueRecord}
use Rattle.core_state.specs.core_spec.declared.entry.Entry.{Entry}
use Rattle.core_state.proofs.of_core_laws.QueueLogs.{receipts_back, back_length}
use Rattle.core_state.proofs.of_core_laws.WaitingRecords.{IsReplayed}
use Rattle.core_state.specs.supersede_core.Waiting.{stands}
use Rattle.core_opening.specs.LogPrefix.{WaitSo}

-- ---- what waits

pub found_stands : (r : ℕ) (es : List Entry) → Among r (receipts_back es) → stands r es ≡ true
found_stands r [] a = absurd a
found_stands r (e ∷ es) a = elim (Among-append_cases (receipts_back es) (e.receipt ∷ []) r a) [
  | inl there ↦ or_right (r == e.receipt) (stands r es) (found_stands r es there)
  | inr last ↦ or_left (r == e.receipt) (stands r es) (here last)
]
  where
    here : Among r (e.receipt ∷ []) → (r == e.receipt) ≡ true
    here (inl same) = grind (arith, same)
    here (inr none) = absurd none

stands_step : (b : Bool) (r : ℕ) (e : Entry) (es : List Entry) → (r == e.receipt) ≡ b → (b || stands r es) ≡ true → (stands r es ≡ true → Among r (receipts_back es)) → Among r (receipts_back es ++ e.receipt ∷ [])
stands_step true r e es same h next = Among-append_right (receipts_back es) (e.receipt ∷ []) r (inl (grind (arith, same)))
stands_step false r e es other h next = Among-append_left (receipts_back es) (e.receipt ∷ []) r (next h)

stands_found : (r : ℕ) (es : List Entry) → stands r es ≡ true → Among r (receipts_back es)
stands_found r [] h = absurd (let never : false ≡ true = h in cc)
stands_found r (e ∷ es) h = stands_step (r == e.receipt) r e es refl h (stands_found r es)

pub wait_so : (earlier : List QueueRecord) (es : List Entry) → IsReplayed earlier es → WaitSo earlier es
wait_so earlier es h = record {
  each = λ r. (
    λ waits. found_stands r es (subst (Among r) h.waits (Among-from_Contains _ r waits)),
    λ there. Contains-from_Among _ r (subst (Among r) (sym h.waits) (stands_found r es there)),
  );
  many = ap length h.waits ∙ back_length es;
}

pub never : {P : Type 0} → false ≡ true → P
never h = absurd (let n : false ≡ true = h in cc)
