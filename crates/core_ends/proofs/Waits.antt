-- A command that waits is pending.
use Rattle.std.proofs.Common.{◌≡◌, ◌≢◌, ◌∙◌, ℕ, ◌==◌, Bool, true, false, List, [], ◌∷◌, if◌then◌else◌, arith, refl, sym, subst}
use Rattle.command_decode.specs.fleet_rows.declared.settings.Ttls.{Ttls}
use Rattle.command_core.specs.core_spec.declared.entry.Entry.{Entry}
use Rattle.command_core.specs.core_spec.declared.event.Event.TheVariants.{Release}
use Rattle.command_core.specs.core_spec.History.{History, Standing, queued, standing}
use Rattle.command_core.specs.core_spec.Legal.{IsLegal}
use Rattle.command_core.specs.core_spec.Pending.{pending_of}
use Rattle.command_core.proofs.of_core_laws.Entries.{HasEntry, has_entry}
use Rattle.command_core.proofs.of_core_laws.Waiting.{IsWaiting}

some_entry : (r : ℕ) (es : List Entry) → HasEntry r es → es ≢ []
some_entry r [] h none = absurd h.among
some_entry r (e ∷ es) h none = absurd cc

-- what is queued waits
pub queued_waits : (ttls : Ttls) (r : ℕ) (history : History) → IsLegal ttls history → standing r history ≡ queued → pending_of history ≢ []
queued_waits ttls r history legal is = some_entry r (pending_of history) (has_entry ttls r history legal (subst IsWaiting (sym is) tt))

released_stands : (r : ℕ) (b : Bool) (s : Standing) → (r == r) ≡ b → (if b then queued else s) ≡ queued
released_stands r true s e = refl
released_stands r false s e = absurd (let own : (r == r) ≡ true = grind arith in let apart : true ≡ false = sym own ∙ e in cc)

-- and what is released
pub released_waits : (ttls : Ttls) (r : ℕ) (history : History) → IsLegal ttls (Release r ∷ history) → pending_of (Release r ∷ history) ≢ []
released_waits ttls r history legal = queued_waits ttls r (Release r ∷ history) legal (released_stands r (r == r) (standing r history) refl)
