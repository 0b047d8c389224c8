-- The list of a stage: the list of its core, with each note at its place.
use Rattle.std.specs.Prelude.{ℕ, suc, ◌≤◌, List, [], ◌∷◌, ◌++◌, map, reverse, take, drop, Option, Some, None}
use Rattle.std.specs.List.{flat_map}
use Rattle.std.specs.declared.snapshot.Snapshot.{Snapshot}
use Rattle.core_ends.specs.fleet_rows.declared.command.Command.{Command}
use Rattle.core_ends.specs.core_spec.History.{History}
use Rattle.core_ends.specs.core_state.declared.state.CoreState.{CoreState}
use Rattle.hub_calls.specs.declared.entry.Entry.{Entry}
use Rattle.hub_calls.specs.declared.entry.Entry.TheVariants.{Happened}
use Rattle.hub_calls.specs.Entries.{entries}
use Rattle.live_stage.specs.declared.note.Refused.{Refused}
use Rattle.live_stage.specs.declared.note.Refused.TheVariants.{QueueFault, QueueDown, StoreFault, StoreDown, CoreDown}
use Rattle.live_stage.specs.declared.note.Staged.{Staged}
use Rattle.live_stage.specs.declared.note.Staged.TheVariants.{Core, Noted}

-- the note as contracts see it: with the command itself
abbrev pub told : Refused (Snapshot Command) → Refused Command
told (QueueFault command) = QueueFault command.value
told QueueDown = QueueDown
told StoreFault = StoreFault
told (StoreDown kinds m) = StoreDown kinds m
told CoreDown = CoreDown

-- why a call was refused, and how many events the core had then
pub record NoteView : Type 0 where
  pub before : ℕ
  pub what : Refused Command

-- the notes of a log, which has a number beside each; the one that came last stands first
abbrev pub notes_of : List (NoteView × ℕ) → List NoteView
notes_of noted = reverse (map (λ note. note.0) noted)

-- the notes with one more behind so many events, if there is one
abbrev pub with_note : ℕ → Option (Refused Command) → List NoteView → List NoteView
with_note before None notes = notes
with_note before (Some what) notes = record { before = before; what = what } ∷ notes

abbrev pub notes_in : Option (Refused Command) → ℕ
notes_in None = 0
notes_in (Some what) = 1

-- The place of a note among the entries: the core as it came stands before its events.
abbrev pub place_of : NoteView → ℕ
place_of note = suc note.before

module _ {D K : Type 0} where
  -- these entries, with each note at its place. The note that came last stands first
  abbrev pub with_notes : List NoteView → List (Entry D K) → List (Staged D K)
  with_notes [] es = map (λ e. Core e) es
  with_notes (note ∷ earlier) es = with_notes earlier (take (place_of note) es) ++ Noted note.what ∷ map (λ e. Core e) (drop (place_of note) es)

  -- these events as entries, oldest first
  abbrev pub happened : History → List (Staged D K)
  happened events = map (λ e. Core e) (map (λ e. Happened e) (reverse events))

  abbrev pub core_entry : Staged D K → List (Entry D K)
  core_entry (Core e) = e ∷ []
  core_entry (Noted what) = []

  -- the core's own entries
  abbrev pub core_entries : List (Staged D K) → List (Entry D K)
  core_entries list = flat_map core_entry list

-- the newest note has its place among so many events
abbrev pub IsWithin : List NoteView → ℕ → Type 0
IsWithin [] count = Unit {0}
IsWithin (note ∷ earlier) count = note.before ≤ count

-- a stage as contracts see it: the core as it came under the lock, the core as it is, and the notes, newest first
pub record StageView (D K : Type 0) : Type 0 where
  pub start : CoreState D K
  pub core : CoreState D K
  pub notes : List NoteView

abbrev pub list_of : {D K : Type 0} → StageView D K → List (Staged D K)
list_of s = with_notes s.notes (entries s.start s.core.events.list)
