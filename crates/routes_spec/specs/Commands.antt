-- What is posted to the command route: a command, or the text of the first error.
use Rattle.std.specs.Prelude.{◌≡◌, ◌≢◌, ℕ, ◌<◌, ◌^◌, nat_lt, ℤ, List, [], ◌∷◌, ◌++◌, length, Bool, true, if◌then◌else◌, codes, decimal, Option, Some, None, Result, Ok, Err}
use Rattle.std.specs.Str.{bytes_eq, str_eq_ignore_ascii_case}
use Rattle.hex.specs.Hex.{encode_lower}
use Rattle.sha1.specs.Sha1.{sha1}
use Rattle.query_answer.specs.fleet_rows.declared.command.Command.{Command}
use Rattle.query_answer.specs.fleet_rows.declared.command.Kind.{Kind}
use Rattle.query_answer.specs.fleet_rows.declared.command.Kind.TheVariants.{Facts, Catalog, Report, Deactivate, Expiration}
use Rattle.query_answer.specs.spool_spec.Spool.{kind_word}
use Rattle.paging_params.specs.Params.{last_under}
use Rattle.routes_spec.specs.Parameters.{Parameters}

abbrev pub Checked : Type 0 → Type 0
Checked A = Result A (List ℕ)

-- the parameter with this name, or the error that it is missing
abbrev pub needed : {A : Type 0} → List ℕ → Option (List ℕ) → (List ℕ → Checked A) → Checked A
needed name None rest = Err (codes "missing " ++ name)
needed name (Some text) rest = rest text

-- the value that was read, or the error that it is bad
abbrev pub unless_bad : {A B : Type 0} → List ℕ → Option A → (A → Checked B) → Checked B
unless_bad fault None rest = Err fault
unless_bad fault (Some x) rest = rest x

-- an empty text counts as missing
abbrev pub if_filled : Option (List ℕ) → Option (List ℕ)
if_filled None = None
if_filled (Some text) = if nat_lt 0 (length text) then Some text else None

-- a decimal number below 2^32, without a leading zero
abbrev pub IsVersion : Option (List ℕ) → Option ℕ → Type 0
IsVersion None version = version ≡ None
IsVersion (Some text) (Some n) = (n < 2 ^ 32) × (text ≡ decimal n)
IsVersion (Some text) None = (n : ℕ) → n < 2 ^ 32 → text ≢ decimal n

abbrev pub all_kinds : List Kind
all_kinds = Catalog ∷ Facts ∷ Report ∷ Deactivate ∷ Expiration ∷ []

abbrev pub kind_among : List Kind → List ℕ → Option Kind
kind_among [] word = None
kind_among (k ∷ ks) word = if bytes_eq word (kind_word k) then Some k else kind_among ks word

unfoldable pub kind_named : List ℕ → Option Kind
kind_named word = kind_among all_kinds word

-- the checksum, if there is one, is the body's SHA-1 in hexadecimal, in upper or lower case
abbrev pub has_checksum : Option (List ℕ) → List ℕ → Bool
has_checksum None body = true
has_checksum (Some text) body = str_eq_ignore_ascii_case text (encode_lower (sha1 body))

abbrev pub command : Kind → ℕ → ℤ → List ℕ → Command
command kind version now body = record { kind = kind; version = version; received = now; payload = body }

-- the checks, in their order
abbrev pub checked_command : ℤ → Parameters → List ℕ → Option ℕ → Checked Command
checked_command now params body version =
    needed (codes "command") (last_under (codes "command") params) (λ word.
    needed (codes "version") (last_under (codes "version") params) (λ _.
    needed (codes "certname") (if_filled (last_under (codes "certname") params)) (λ _.
    unless_bad (codes "bad version") version (λ version.
    unless_bad (codes "bad command") (kind_named word) (λ kind.
    if has_checksum (last_under (codes "checksum") params) body then Ok (command kind version now body) else Err (codes "bad checksum"))))))

-- the command or the error of these parameters and this body, received at this moment
abbrev pub IsPosted : ℤ → Parameters → List ℕ → Checked Command → Type 0
IsPosted now params body posted =
    (version : Option ℕ) × IsVersion (last_under (codes "version") params) version × (posted ≡ checked_command now params body version)
