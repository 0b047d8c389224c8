-- A reader of one spool item from a prefix of bytes, as functions. The laws tie it to `IsItemText`.
use Rattle.std.specs.Prelude.{ℕ, ◌^◌, ℤ, List, [], ◌∷◌, ◌++◌, length, take, drop, Bool, true, false, ◌&&◌, ◌||◌, ◌==◌, not, nat_le, nat_lt, if◌then◌else◌, Option, Some, None, codes, slice_index}
use Rattle.std.specs.Str.Parse.{digits_value}
use Rattle.spool_spec.specs.text_spec.StampReader.{Front, ◌>>=◌, one_of, digit_run, stamp_of}
use Rattle.spool_spec.specs.fleet_rows.declared.command.Kind.{Kind}
use Rattle.spool_spec.specs.fleet_rows.declared.command.Kind.TheVariants.{Facts, Catalog, Report, Deactivate, Expiration}
use Rattle.spool_spec.specs.fleet_rows.declared.settings.Kinds.{Kinds}
use Rattle.spool_spec.specs.history_spec.Thread.{Item, command, sweep}
use Rattle.spool_spec.specs.json_tree.Limits.{most_payload}

-- the first answer, or the second if the first is none
abbrev pub or_else : {A : Type 0} → Option A → Option A → Option A
or_else None b = b
or_else (Some a) b = Some a

-- the bytes after the word; none if they begin otherwise
abbrev pub after_word : List ℕ → List ℕ → Option (List ℕ)
after_word [] xs = Some xs
after_word (a ∷ word) [] = None
after_word (a ∷ word) (x ∷ xs) = if a == x then after_word word xs else None

-- a decimal number of at most 10 digits, without a leading zero
abbrev pub number_of_digits : List ℕ → List ℕ → Front ℕ
number_of_digits ds rest =
    if nat_le 1 (length ds) && nat_le (length ds) 10 && (not (slice_index ds 0 == 48) || (length ds == 1))
    then Some (digits_value 10 ds, rest) else None

abbrev pub number_at : List ℕ → Front ℕ
number_at text = number_of_digits (take (digit_run text) text) (drop (digit_run text) text)

-- the first n bytes and the rest; none if there are fewer
abbrev pub bytes_at : ℕ → List ℕ → Front (List ℕ)
bytes_at n text = if nat_le n (length text) then Some (take n text, drop n text) else None

-- the bytes before the first line feed, and those after it
abbrev pub line_at : List ℕ → Front (List ℕ)
line_at [] = None
line_at (x ∷ xs) = if x == 10 then Some ([], xs) else (line_at xs >>= (λ line. Some (x ∷ line.0, line.1)))

-- ---- commands

abbrev pub kind_if : Kind → Option (List ℕ) → Front Kind
kind_if kind None = None
kind_if kind (Some rest) = Some (kind, rest)

-- the kind whose word and space the bytes begin with, and the rest
unfoldable pub kind_at : List ℕ → Front Kind
kind_at bytes =
    or_else (kind_if Facts (after_word (codes "replace_facts ") bytes))
    (or_else (kind_if Catalog (after_word (codes "replace_catalog ") bytes))
    (or_else (kind_if Report (after_word (codes "store_report ") bytes))
    (or_else (kind_if Deactivate (after_word (codes "deactivate_node ") bytes))
    (kind_if Expiration (after_word (codes "configure_expiration ") bytes)))))

-- a command of this kind from the bytes after the kind's word
unfoldable pub command_at : ℤ → Kind → List ℕ → Front Item
command_at received kind bytes = do
  version ← number_at bytes
  after_version ← one_of 32 32 version.1
  size ← number_at after_version
  after_size ← one_of 10 10 size.1
  payload ← bytes_at size.0 after_size
  rest ← one_of 10 10 payload.1
  if nat_lt version.0 (2 ^ 32) && nat_le size.0 most_payload
      then Some (command (record { kind = kind; version = version.0; received = received; payload = payload.0 }), rest) else None

-- ---- sweeps

abbrev pub is_there : List ℕ → Option (List ℕ) → Bool × List ℕ
is_there bytes None = (false, bytes)
is_there bytes (Some rest) = (true, rest)

abbrev pub comma_if : Bool → List ℕ
comma_if later = if later then 44 ∷ [] else []

-- whether the bytes begin with the word (after a comma if an earlier word was read), and the bytes after it
abbrev pub word_if : Bool → List ℕ → List ℕ → Bool × List ℕ
word_if later word bytes = is_there bytes (after_word (comma_if later ++ word) bytes)

-- the sweep's kinds and the space after them
unfoldable pub kinds_at : List ℕ → Front Kinds
kinds_at bytes =
    let expire = word_if false (codes "expire") bytes in
    let purge = word_if expire.0 (codes "purge") expire.1 in
    let reports = word_if (expire.0 || purge.0) (codes "reports") purge.1 in
    if expire.0 || purge.0 || reports.0
    then (one_of 32 32 reports.1 >>= (λ rest. Some (record { expire = expire.0; purge = purge.0; reports = reports.0 }, rest)))
    else None

-- a sweep from the bytes after the word `sweep`
unfoldable pub sweep_at : List ℕ → Front Item
sweep_at bytes = do
  kinds ← kinds_at bytes
  line ← line_at kinds.1
  moment ← stamp_of line.0
  Some (sweep kinds.0 moment, line.1)

-- ---- items

-- an item and the bytes after it; a command is received at this moment
unfoldable pub item_at : ℤ → List ℕ → Front Item
item_at received bytes =
    or_else (kind_at bytes >>= (λ kind. command_at received kind.0 kind.1))
    (after_word (codes "sweep ") bytes >>= (λ rest. sweep_at rest))
