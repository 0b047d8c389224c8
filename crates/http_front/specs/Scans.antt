-- What the fields of a scan mean.
use Rattle.std.specs.Prelude.{◌≡◌, ℕ, List, ◌++◌, drop, Option, Some, None}
use Rattle.http_spec.specs.HeadEnd as head_end
use Rattle.http_spec.specs.HeadEnd.{Place, head_at, head_from}
use Rattle.http_front.specs.declared.scan.Scan.{Scan}
use Rattle.http_front.specs.declared.scan.Line.{Line}
use Rattle.http_front.specs.declared.scan.Line.TheVariants.{Fresh, Return, Filled}

abbrev pub line_of : Line → head_end.Line
line_of Fresh = head_end.fresh
line_of Return = head_end.return
line_of Filled = head_end.filled

abbrev pub place_of : Scan → Place
place_of scan = record { behind = scan.behind; line = line_of scan.line }

abbrev pub count_of : Option ℕ → ℕ
count_of None = 0
count_of (Some n) = n

abbrev pub lines_of : Scan → ℕ
lines_of scan = count_of scan.behind

-- whatever bytes follow, the head ends where the rest of the scan will find its end
abbrev pub HasScanned : Scan → List ℕ → Type 0
HasScanned scan bytes = (more : List ℕ) → head_at (bytes ++ more) ≡ head_from (place_of scan) (drop scan.at bytes ++ more)
