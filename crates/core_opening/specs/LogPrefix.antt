-- What must be known of the earlier records to decide which may come next. Records are listed newest first here.
use Rattle.std.specs.Prelude.{◌≡◌, ◌↔◌, ℕ, ◌<◌, List, [], Option, Some, None, true, false, if◌then◌else◌, filter, length, IsTrue, Bool}
use Rattle.std.specs.List.{list_any}
use Rattle.core_state.specs.record_spec.declared.queue.QueueRecord.{QueueRecord}
use Rattle.core_state.specs.core_spec.declared.entry.Entry.{Entry}
use Rattle.core_state.specs.core_spec.Damage.{waiting_in, Waits, is_base, is_held, is_dead, IsAbove, AreOnly, begins}
use Rattle.core_state.specs.supersede_core.Waiting.{stands}
use Rattle.core_opening.specs.declared.prefix.LogPrefix.{LogPrefix}

-- the receipt is above the greatest one, if there is one
abbrev pub IsOver : Option ℕ → ℕ → Type 0
IsOver None r = Unit {0}
IsOver (Some greatest) r = greatest < r

abbrev pub is_held_or_dead : QueueRecord → Bool
is_held_or_dead x = if is_held x then true else is_dead x

pub record IsLogPrefix (front : LogPrefix) (earlier : List QueueRecord) : Type 0 where
  pub begun : front.begun ≡ true → list_any is_base earlier ≡ true
  pub empty : front.begun ≡ false → earlier ≡ []
  pub only_held : front.only_held ≡ true → AreOnly (begins is_held) earlier
  pub only_held_not : front.only_held ≡ false → AreOnly (begins is_held) earlier → ⊥
  pub only_held_or_dead : front.only_held_or_dead ≡ true → AreOnly (begins is_held_or_dead) earlier
  pub held_or_dead_not : front.only_held_or_dead ≡ false → AreOnly (begins is_held_or_dead) earlier → ⊥
  pub held : (r : ℕ) → IsOver front.held r ↔ IsAbove r (filter is_held earlier)
  pub dead : (r : ℕ) → IsOver front.dead r ↔ IsAbove r (filter is_dead earlier)
  pub given : (r : ℕ) → IsOver front.given r ↔ IsAbove r earlier

-- the commands of these entries are those pending after the records
pub record WaitSo (earlier : List QueueRecord) (es : List Entry) : Type 0 where
  pub each : (r : ℕ) → Waits r earlier ↔ IsTrue (stands r es)
  pub many : length (waiting_in earlier) ≡ length es

-- the records of a checkpoint are over
abbrev pub gone_on : LogPrefix → LogPrefix
gone_on front = record { begun = front.begun; only_held = false; only_held_or_dead = false; held = front.held; dead = front.dead; given = front.given }
