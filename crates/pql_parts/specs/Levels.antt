-- The depth of the least query, from numbers that are stored with the open frames. The depth is at least a floor, and exceeds the
-- innermost region's filter by a number of levels.
use Rattle.std.specs.Prelude.{◌≡◌, ℕ, suc, max, ◌+◌, ◌-◌, List, [], ◌∷◌, reverse, map}
use Rattle.std.proofs.Common.{Vec, Global}
use Rattle.query_spec.specs.declared.parts.Name.{Name}
use Rattle.query_spec.specs.declared.parts.Selected.{Selected}
use Rattle.query_spec.specs.Query.{Filter}
use Rattle.pql_machine.specs.Machine as machine
use Rattle.pql_machine.specs.Machine.{Pending, parens, implicit, inner}
use Rattle.pql_machine.specs.Depth.{tall}
use Rattle.pql_parts.specs.Heights.{capped}
use Rattle.pql_parts.specs.Parts.{pending_of}
use Rattle.pql_parts.specs.declared.frames.Frame.{Frame}
use Rattle.pql_parts.specs.declared.frames.Frame.TheVariants.{Parens, Implicit, Inner}
use Rattle.pql_parts.specs.declared.frames.Opened.{Opened}
use Rattle.pql_parts.specs.declared.frames.Depth.{Depth}

-- the levels that joining with these filters adds
abbrev pub over : List Filter → ℕ
over [] = 0
over (f ∷ fs) = 1

-- the levels above an operand of a region that is itself under `above` levels
abbrev pub operand_level : ℕ → Pending → ℕ → ℕ
operand_level above p n = above + (over p.any + (over p.all + n))

abbrev pub operand_floor : ℕ → Pending → ℕ
operand_floor above p = max (above + (over p.any + tall p.any)) (above + (over p.any + (over p.all + tall p.all)))

abbrev pub level_of : List machine.Frame → ℕ
level_of [] = 0
level_of (parens p n ∷ fs) = operand_level (level_of fs) p n
level_of (implicit e p n ∷ fs) = suc (operand_level (level_of fs) p n)
level_of (inner ls e cs p n ∷ fs) = suc (operand_level (level_of fs) p n)

abbrev pub floor_of : List machine.Frame → ℕ
floor_of [] = 0
floor_of (parens p n ∷ fs) = max (floor_of fs) (operand_floor (level_of fs) p)
floor_of (implicit e p n ∷ fs) = max (floor_of fs) (operand_floor (level_of fs) p)
floor_of (inner ls e cs p n ∷ fs) = max (floor_of fs) (operand_floor (level_of fs) p)

-- the least height of what the innermost braces or parentheses contain; braces may be empty
abbrev pub bare : List machine.Frame → ℕ
bare (parens p n ∷ fs) = 1
bare _ = 0

-- ---- the numbers of the code

abbrev pub frame_of : Frame → machine.Frame
frame_of (Parens p n) = parens (pending_of p) n
frame_of (Implicit e p n) = implicit e (pending_of p) n
frame_of (Inner r) = inner r.left.items r.entity r.shown (pending_of r.pending) r.nots

abbrev pub open_frames : List Opened → List machine.Frame
open_frames [] = []
open_frames (o ∷ os) = frame_of o.frame ∷ open_frames os

-- the stored numbers are right for these frames
pub record IsDepth (fs : List machine.Frame) (d : Depth) : Type 0 where
  pub level : d.level ≡ capped (level_of fs)
  pub floor : d.floor ≡ capped (floor_of fs)
  pub bare_is : d.bare ≡ bare fs

-- each frame is stored with the numbers of the frames before it
abbrev pub AreLevel : List Opened → Type 0
AreLevel [] = Unit {0}
AreLevel (o ∷ os) = IsDepth (open_frames os) o.below × AreLevel os

-- the numbers after one more frame opens; `braces` is 1 for braces and 0 for parentheses
abbrev pub within : Depth → Pending → ℕ → ℕ → Depth
within d p n braces = record {
  level = capped (operand_level d.level p n + braces);
  floor = capped (max d.floor (operand_floor d.level p));
  bare = 1 - braces;
}

abbrev pub entered : Depth → machine.Frame → Depth
entered d (parens p n) = within d p n 0
entered d (implicit e p n) = within d p n 1
entered d (inner ls e cs p n) = within d p n 1
