-- Rows with marks, and rows sorted into parts by their marks. Rows of one group have the same mark.
use Rattle.std.specs.Prelude.{◌≡◌, ℕ, List, [], ◌∷◌, ◌++◌, ◌==◌, true, Option, Some, None, map, filter, position, slice_get}
use Rattle.std.specs.Fmt.{signed_decimal}
use Rattle.std.specs.HashSet.{HashSet}
use Rattle.std.specs.Str.{bytes_eq}
use Rattle.std.specs.declared.alloc.Global.{Global}
use Rattle.std.specs.declared.vec.Vec.{Vec}
use Rattle.std.proofs.Common.{inl, inr}
use Rattle.fleet_tables.specs.fleet_rows.Cell.{CellValue}
use Rattle.pattern_port.specs.declared.keys.Keys.{Keys}
use Rattle.query_plan.specs.means_spec.Groups.{in_one_group}
use Rattle.same_text.specs.Alike.{same_text}
use Rattle.query_plan.specs.table_spec.Rows.{Cells}
use Rattle.query_rows.specs.Referred.{row_of, rows_of}
use Rattle.query_rows.specs.declared.marks.Marked.{Marked}
use Rattle.query_rows.specs.declared.parts.Part.{Part}

-- cells that are the same have the same text
abbrev pub cell_text : CellValue → List ℕ
cell_text (inl m) = signed_decimal m
cell_text (inr j) = same_text j

abbrev pub key_text : Cells → List ℕ
key_text [] = []
key_text (x ∷ xs) = cell_text x ++ 44 ∷ key_text xs

-- the number of a text: its position among the texts, which stay in the order in which they came
abbrev pub number_of : HashSet (Vec ℕ Global) Keys → List ℕ → Option ℕ
number_of texts text = position (λ (k : Vec ℕ Global). bytes_eq text k.items) texts.keys

abbrev pub row_marked : Marked → Cells
row_marked m = row_of m.row

abbrev pub rows_marked : List Marked → List Cells
rows_marked = map row_marked

-- rows of one group have the same mark
abbrev pub IsMark : (Cells → Cells) → (Cells → ℕ) → Type 0
IsMark key b = (x y : Cells) → in_one_group key x y ≡ true → b x ≡ b y

abbrev pub Numbers : Type 0
Numbers = HashSet (Vec ℕ Global) Keys

-- the mark of each is the number of its text
abbrev pub HaveNumbers : (Cells → Cells) → Numbers → List Marked → Type 0
HaveNumbers key texts [] = Unit {0}
HaveNumbers key texts (m ∷ ms) = (number_of texts (key_text (key (row_marked m))) ≡ Some m.mark) × HaveNumbers key texts ms

-- each row has its mark
abbrev pub HaveMarks : (Cells → ℕ) → List Marked → Type 0
HaveMarks b [] = Unit {0}
HaveMarks b (m ∷ ms) = (m.mark ≡ b (row_marked m)) × HaveMarks b ms

pub record AreMarked (key : Cells → Cells) (ms : List Marked) : Type 0 where
  pub mark : Cells → ℕ
  pub is_mark : IsMark key mark
  pub have : HaveMarks mark ms

abbrev pub rows_there : Option Part → List Cells
rows_there None = []
rows_there (Some p) = rows_of p.rows.items

-- the rows stored under the mark q
abbrev pub part_at : List Part → ℕ → List Cells
part_at ps q = rows_there (slice_get ps q)

-- each mark's part has exactly the rows with that mark, in order
abbrev pub AreParted : (Cells → ℕ) → List Part → List Cells → Type 0
AreParted b ps rows = (q : ℕ) → part_at ps q ≡ filter (λ x. b x == q) rows
