-- Notes at their places.
use Rattle.std.proofs.Common.{◌≡◌, ◌∙◌, ℕ, ◌+◌, ◌≤◌, List, [], ◌∷◌, ◌++◌, map, reverse, length, take, drop, Option, Some, None, refl, sym, ap, arith, append_assoc, append-nil, length-append, drop_of_length-le}
use Rattle.std.proofs.lemmas.List.{map-append, length-map, reverse-append, take-append-le, drop-append-le, take-append-drop, take_all}
use Rattle.std.proofs.lemmas.List.Concat.{flat_map-append}
use mathlib.Core.List.{IsPrefix}
use Rattle.core_ends.specs.fleet_rows.declared.command.Command.{Command}
use Rattle.core_ends.specs.core_spec.declared.event.Event.{Event}
use Rattle.core_ends.specs.core_spec.History.{History}
use Rattle.core_ends.specs.core_state.declared.state.CoreState.{CoreState}
use Rattle.hub_calls.specs.declared.entry.Entry.{Entry}
use Rattle.hub_calls.specs.declared.entry.Entry.TheVariants.{Opened, Happened}
use Rattle.hub_calls.specs.Entries.{entries}
use Rattle.hub_calls.proofs.Entries.{entries_length}
use Rattle.live_stage.specs.declared.note.Refused.{Refused}
use Rattle.live_stage.specs.declared.note.Staged.{Staged}
use Rattle.live_stage.specs.declared.note.Staged.TheVariants.{Core, Noted}
use Rattle.live_stage.specs.Notes.{NoteView, notes_of, with_note, notes_in, place_of, with_notes, happened, core_entry, core_entries, IsWithin}
use Rattle.live_stage.specs.StageCalls.{note_entry}

module _ {D K : Type 0} where
  abbrev put : Entry D K → Staged D K
  put e = Core e

  -- the newest note stands among these entries
  abbrev pub AreAmong : List NoteView → List (Entry D K) → Type 0
  AreAmong [] es = Unit {0}
  AreAmong (note ∷ earlier) es = place_of note ≤ length es

  pub entries_behind : (notes : List NoteView) (es more : List (Entry D K)) → AreAmong notes es → with_notes notes (es ++ more) ≡ with_notes notes es ++ map put more
  entries_behind [] es more le = map-append put es more
  entries_behind (note ∷ earlier) es more le =
      let n = place_of note in
      ap (λ l. with_notes earlier l ++ Noted note.what ∷ map put (drop n (es ++ more))) (take-append-le n es more le)
      ∙ (ap (λ l. with_notes earlier (take n es) ++ Noted note.what ∷ l) (ap (map put) (drop-append-le n es more le) ∙ map-append put (drop n es) more)
      ∙ sym (append_assoc (with_notes earlier (take n es)) (Noted note.what ∷ map put (drop n es)) (map put more)))

  pub note_behind : (notes : List NoteView) (es : List (Entry D K)) (note : NoteView) → place_of note ≡ length es → with_notes (note ∷ notes) es ≡ with_notes notes es ++ Noted note.what ∷ []
  note_behind notes es note is =
      ap (λ l. with_notes notes l ++ Noted note.what ∷ map put (drop (place_of note) es)) (take_all (place_of note) es (omega arith))
      ∙ ap (λ l. with_notes notes es ++ Noted note.what ∷ map put l) (drop_of_length-le es {i = place_of note} (omega arith))

  found_map : (es : List (Entry D K)) → core_entries (map put es) ≡ es
  found_map [] = refl
  found_map (e ∷ es) = ap (λ l. e ∷ l) (found_map es)

  -- the core's own entries are found again
  pub entries_found : (notes : List NoteView) (es : List (Entry D K)) → core_entries (with_notes notes es) ≡ es
  entries_found [] es = found_map es
  entries_found (note ∷ earlier) es =
      let n = place_of note in
      flat_map-append core_entry (with_notes earlier (take n es)) (Noted note.what ∷ map put (drop n es))
      ∙ (ap (λ l. l ++ core_entries (map put (drop n es))) (entries_found earlier (take n es))
      ∙ (ap (λ l. take n es ++ l) (found_map (drop n es)) ∙ take-append-drop n es))

  pub entries_begin : (xs ys : List (Staged D K)) → IsPrefix xs ys → IsPrefix (core_entries xs) (core_entries ys)
  entries_begin xs ys pre = (core_entries pre.0, sym (flat_map-append core_entry xs pre.0) ∙ ap (λ l. core_entries l) pre.1)

  pub staged_length : (notes : List NoteView) (es : List (Entry D K)) → length (with_notes notes es) ≡ length es + length notes
  staged_length [] es = let e : length (map put es) ≡ length es = length-map es put in omega arith
  staged_length (note ∷ earlier) es =
      let n = place_of note in
      let front = staged_length earlier (take n es) in
      let joined : length (with_notes earlier (take n es) ++ Noted note.what ∷ map put (drop n es)) ≡ length (with_notes earlier (take n es)) + length (Noted note.what ∷ map put (drop n es)) =
      length-append (with_notes earlier (take n es)) (Noted note.what ∷ map put (drop n es)) in
      let back : length (map put (drop n es)) ≡ length (drop n es) = length-map (drop n es) put in
      let whole : length (take n es) + length (drop n es) ≡ length es = sym (length-append (take n es) (drop n es)) ∙ ap (λ l. length l) (take-append-drop n es) in
      omega arith

  -- ---- the list of a core with notes

  pub within : (start : CoreState D K) (notes : List NoteView) (events : History) → IsWithin notes (length events) → AreAmong notes (entries start events)
  within start [] events is = tt
  within start (note ∷ earlier) events is = let e = entries_length start events in omega arith

  entries_more : (start : CoreState D K) (more old : History) → entries start (more ++ old) ≡ entries start old ++ map (λ e. Happened e) (reverse more)
  entries_more start more old =
      let turn : Event → Entry D K = λ e. Happened e in
      ap (λ (es : History). Opened start ∷ map turn es) (reverse-append more old) ∙ ap (λ l. Opened start ∷ l) (map-append turn (reverse old) (reverse more))

  -- events come behind
  pub events_listed : (start : CoreState D K) (notes : List NoteView) (more old new : History) → new ≡ more ++ old → IsWithin notes (length old) → with_notes notes (entries start new) ≡ with_notes notes (entries start old) ++ happened more
  events_listed start notes more old new is le =
      let turn : Event → Entry D K = λ e. Happened e in
      ap (λ (es : History). with_notes notes (entries start es)) is
      ∙ (ap (λ l. with_notes notes l) (entries_more start more old) ∙ entries_behind notes (entries start old) (map turn (reverse more)) (within start notes old le))

  -- a note comes behind, if there is one
  pub note_listed : (start : CoreState D K) (notes : List NoteView) (refused : Option (Refused Command)) (old new : History) → new ≡ old
      → with_notes (with_note (length old) refused notes) (entries start new) ≡ with_notes notes (entries start old) ++ note_entry refused
  note_listed start notes None old new is = ap (λ (es : History). with_notes notes (entries start es)) is ∙ sym (append-nil (with_notes notes (entries start old)))
  note_listed start notes (Some what) old new is =
      ap (λ (es : History). with_notes (record { before = length old; what = what } ∷ notes) (entries start es)) is
      ∙ note_behind notes (entries start old) (record { before = length old; what = what }) (let e = entries_length start old in omega arith)

-- ---- notes

pub noted_within : (before : ℕ) (refused : Option (Refused Command)) (notes : List NoteView) (count : ℕ) → before ≤ count → IsWithin notes count → IsWithin (with_note before refused notes) count
noted_within before None notes count le is = is
noted_within before (Some what) notes count le is = le

pub within_later : (notes : List NoteView) (count later : ℕ) → count ≤ later → IsWithin notes count → IsWithin notes later
within_later [] count later le is = tt
within_later (note ∷ earlier) count later le is = omega arith

pub noted_length : (before : ℕ) (refused : Option (Refused Command)) (notes : List NoteView) → length (with_note before refused notes) ≡ length notes + notes_in refused
noted_length before None notes = omega arith
noted_length before (Some what) notes = omega arith

pub one_noted : (noted now : List (NoteView × ℕ)) (note : NoteView) (k : ℕ) → now ≡ noted ++ (note, k) ∷ [] → notes_of now ≡ note ∷ notes_of noted
one_noted noted now note k is =
    let first : NoteView × ℕ → NoteView = λ n. n.0 in
    ap (λ l. notes_of l) is ∙ (ap (λ (l : List NoteView). reverse l) (map-append first noted ((note, k) ∷ [])) ∙ reverse-append (map first noted) (note ∷ []))
