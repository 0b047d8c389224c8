-- The canonical text of an object whose members are sorted by key.
use Rattle.std.specs.Prelude.{ℕ, ℤ, List, [], ◌∷◌, ◌++◌, Bool, true, ◌&&◌, Option, Some, None}
use Rattle.std.specs.Borrow.{Bor}
use Rattle.std.specs.Ordering.{is_lt}
use Rattle.table_spec.specs.text_spec.Json.{Json}
use Rattle.table_spec.specs.text_spec.Compact.{text_cmp, quoted, comma_if, canonical}
use Rattle.table_spec.specs.stamp_time.Range.{IsPrintable}
use Rattle.table_spec.specs.fleet_rows.declared.change.ReportChange.{ReportChange}
use Rattle.row_cells.specs.declared.shown.Shown.{Shown}
use Rattle.row_cells.specs.declared.shown.Shown.TheVariants.{Stamp, OptionalStamp}
use Rattle.row_cells.specs.Shown.{shown_json}

-- the texts are strictly sorted by bytes
abbrev pub rises : List (List ℕ) → Bool
rises [] = true
rises (k ∷ []) = true
rises (k ∷ l ∷ ls) = is_lt (text_cmp k l) && rises (l ∷ ls)

-- a member, after a comma if another member precedes it
abbrev pub member_text : Bool → List ℕ → Json → List ℕ
member_text later k j = comma_if later ++ quoted k ++ 58 ∷ canonical j

-- the members in order
abbrev pub members_text : Bool → List (List ℕ × Json) → List ℕ
members_text later [] = []
members_text later (m ∷ ms) = member_text later m.0 m.1 ++ members_text true ms

-- a column as a member
abbrev pub column : Bor (List ℕ) × Shown → List ℕ × Json
column c = (c.0.now, shown_json c.1)

abbrev pub IfPrintable : Option ℤ → Type 0
IfPrintable None = Unit {0}
IfPrintable (Some m) = IsPrintable m

-- the moment, if there is one, can be printed
abbrev pub CanBeText : Shown → Type 0
CanBeText (Stamp m) = IsPrintable m
CanBeText (OptionalStamp o) = IfPrintable o
CanBeText s = Unit {0}

-- the moments of a report can be printed
abbrev pub HasPrintableMoments : ReportChange → Type 0
HasPrintableMoments r = IsPrintable r.stamp × IfPrintable r.start_time × IfPrintable r.end_time
