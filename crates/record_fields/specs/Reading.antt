-- Readers of fields, from left to right. A reader returns a value and the bytes after it. proofs/ ties them to the encodings.
use Rattle.std.specs.Prelude.{◌≡◌, ℕ, zero, suc, ◌+◌, ◌*◌, ◌^◌, ℤ, int_le, List, [], ◌∷◌, length, take, drop, Bool, true, false, ◌&&◌, Option, Some, None, nat_lt, ◌==◌, if◌then◌else◌}
use Rattle.std.specs.Int.{Width, w32, w64, w128, byte_len, from_le_bytes, cast_signed}
use Rattle.std.specs.Str.{is_utf8}
use Rattle.record_spec.specs.stamp_time.Range.{first_stamp, last_stamp}
use Rattle.record_spec.specs.fleet_rows.declared.command.Kind.{Kind}
use Rattle.record_spec.specs.fleet_rows.declared.command.Kind.TheVariants as kind

infixl 10 ◌>>=◌
abbrev pub ◌>>=◌ : {A B : Type 0} → Option A → (A → Option B) → Option B
(Some x) >>= f = f x
None >>= f = None

-- A function's result, seen by `view`, is the reader's result.
abbrev pub Shows : {X Y : Type 0} → (X → Y) → Option X → Option Y → Type 0
Shows view None read = read ≡ None
Shows view (Some x) read = read ≡ Some (view x)

-- a reader of one field
abbrev pub Reader : Type 0 → Type 0
Reader A = List ℕ → Option (A × List ℕ)

-- reads a field and converts its value
abbrev pub read_as : {A B : Type 0} → (A → B) → Reader A → Reader B
read_as make read bytes = read bytes >>= λ a. Some (make a.0, a.1)

-- reads one field after the other
abbrev pub both_at : {A B : Type 0} → Reader A → Reader B → Reader (A × B)
both_at ra rb bytes = do
  a ← ra bytes
  rb a.1 >>= λ b. Some ((a.0, b.0), b.1)

-- the value, if no bytes are left
abbrev pub ended : {A : Type 0} → A → List ℕ → Option A
ended x rest = if length rest == 0 then Some x else None

abbrev pub number_at : Width → Reader ℕ
number_at w bytes = if nat_lt (length bytes) (byte_len w) then None else Some (from_le_bytes w (take (byte_len w) bytes), drop (byte_len w) bytes)

unfoldable pub bytes_at : Reader (List ℕ)
bytes_at bytes = do
  n ← number_at w32 bytes
  if nat_lt (length n.1) n.0 then None else Some (take n.0 n.1, drop n.0 n.1)

unfoldable pub text_at : Reader (List ℕ)
text_at bytes = do
  text ← bytes_at bytes
  if is_utf8 text.0 then Some text else None

abbrev pub bool_at : Reader Bool
bool_at [] = None
bool_at (zero ∷ rest) = Some (false, rest)
bool_at (suc zero ∷ rest) = Some (true, rest)
bool_at (suc (suc number) ∷ rest) = None

abbrev pub kind_at : Reader Kind
kind_at [] = None
kind_at (zero ∷ rest) = Some (kind.Facts, rest)
kind_at (suc zero ∷ rest) = Some (kind.Catalog, rest)
kind_at (suc (suc zero) ∷ rest) = Some (kind.Report, rest)
kind_at (suc (suc (suc zero)) ∷ rest) = Some (kind.Deactivate, rest)
kind_at (suc (suc (suc (suc zero))) ∷ rest) = Some (kind.Expiration, rest)
kind_at (suc (suc (suc (suc (suc number)))) ∷ rest) = None

-- the moment has a stamp
abbrev pub is_stamp_moment : ℤ → Bool
is_stamp_moment m = int_le first_stamp m && int_le m last_stamp

unfoldable pub moment_at : Reader ℤ
moment_at bytes = do
  low ← number_at w64 bytes
  high ← number_at w64 low.1
  if is_stamp_moment (cast_signed w128 (high.0 * 2 ^ 64 + low.0)) then Some (cast_signed w128 (high.0 * 2 ^ 64 + low.0), high.1) else None

unfoldable pub optional_at : {A : Type 0} → Reader A → Reader (Option A)
optional_at read [] = None
optional_at read (zero ∷ rest) = Some (None, rest)
optional_at read (suc zero ∷ rest) = read_as Some read rest
optional_at read (suc (suc tag) ∷ rest) = None
