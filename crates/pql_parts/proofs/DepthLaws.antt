-- The depth by a floor and a level, which the code keeps.
use Rattle.std.proofs.Common.{◌≡◌, ◌∙◌, ℕ, suc, min, max, ◌+◌, ◌-◌, ◌≤◌, List, [], ◌∷◌, ◌++◌, refl, sym, ap, subst, arith}
use Rattle.std.specs.Prelude.{reverse}
use Rattle.std.proofs.lemmas.List.{reverse-append}
use Rattle.query_spec.specs.declared.parts.Name.{Name}
use Rattle.query_spec.specs.declared.parts.Selected.{Selected}
use Rattle.query_spec.specs.Query.{Filter}
use Rattle.pql_machine.specs.Machine.{Pending, Frame, parens, implicit, inner}
use Rattle.pql_machine.specs.Depth.{tall, joined, put_height, depth_of}
use Rattle.pql_parts.specs.Heights.{capped}
use Rattle.pql_parts.specs.Levels.{over, operand_level, operand_floor, level_of, floor_of, bare, frame_of, open_frames, IsDepth, AreLevel, within, entered}
use Rattle.pql_parts.specs.declared.frames.Depth.{Depth}
use Rattle.pql_parts.specs.declared.frames.Frame as code
use Rattle.pql_parts.specs.declared.frames.Opened.{Opened}

joined-over : (fs : List Filter) (m : ℕ) → joined fs m ≡ max (over fs + tall fs) (over fs + m)
joined-over [] m = omega arith
joined-over (f ∷ fs) m = omega arith

put-level : (above : ℕ) (p : Pending) (n m : ℕ) → above + put_height p n m ≡ max (operand_floor above p) (operand_level above p n + m)
put-level above p n m = omega (arith, joined-over p.all (n + m), joined-over p.any (joined p.all (n + m)))

pub depth-level : (fs : List Frame) (m : ℕ) → depth_of fs m ≡ max (floor_of fs) (level_of fs + m)
depth-level [] m = omega arith
depth-level (parens p n ∷ fs) m = omega (arith, depth-level fs (put_height p n m), put-level (level_of fs) p n m)
depth-level (implicit e p n ∷ fs) m = omega (arith, depth-level fs (put_height p n (suc m)), put-level (level_of fs) p n (suc m))
depth-level (inner ls e cs p n ∷ fs) m = omega (arith, depth-level fs (put_height p n (suc m)), put-level (level_of fs) p n (suc m))

-- a depth is told by the level and the floor that are told
pub depth_told : (fs : List Frame) (d : Depth) (m : ℕ) → IsDepth fs d → min (max (d.level + m) d.floor) 101 ≡ capped (depth_of fs m)
depth_told fs d m h = omega (arith, h.level, h.floor, depth-level fs m)

pub depth_capped : (fs : List Frame) (m : ℕ) → capped (depth_of fs (capped m)) ≡ capped (depth_of fs m)
depth_capped fs m = omega (arith, depth-level fs (capped m), depth-level fs m)

-- ---- one frame more

level_more : (above n l : ℕ) (p : Pending) (b : ℕ) → l ≡ capped above → capped (operand_level l p n + b) ≡ capped (operand_level above p n + b)
level_more above n l p b e = omega (arith, e)

floor_more : (above l d f : ℕ) (p : Pending) → l ≡ capped above → d ≡ capped f → capped (max d (operand_floor l p)) ≡ capped (max f (operand_floor above p))
floor_more above l d f p e g = omega (arith, e, g)

pub is_entered : (fs : List Frame) (d : Depth) (f : Frame) → IsDepth fs d → IsDepth (f ∷ fs) (entered d f)
is_entered fs d (parens p n) h = record {
  level = level_more (level_of fs) n d.level p 0 h.level ∙ ap capped (none (operand_level (level_of fs) p n));
  floor = floor_more (level_of fs) d.level d.floor (floor_of fs) p h.level h.floor;
  bare_is = refl;
}
  where
    none : (m : ℕ) → m + 0 ≡ m
    none m = omega arith
is_entered fs d (implicit e p n) h = record {
  level = level_more (level_of fs) n d.level p 1 h.level ∙ ap capped (one (operand_level (level_of fs) p n));
  floor = floor_more (level_of fs) d.level d.floor (floor_of fs) p h.level h.floor;
  bare_is = refl;
}
  where
    one : (m : ℕ) → m + 1 ≡ suc m
    one m = omega arith
is_entered fs d (inner ls e cs p n) h = record {
  level = level_more (level_of fs) n d.level p 1 h.level ∙ ap capped (one (operand_level (level_of fs) p n));
  floor = floor_more (level_of fs) d.level d.floor (floor_of fs) p h.level h.floor;
  bare_is = refl;
}
  where
    one : (m : ℕ) → m + 1 ≡ suc m
    one m = omega arith

pub last_first : {X : Type 0} (xs : List X) (x : X) → reverse (xs ++ x ∷ []) ≡ x ∷ reverse xs
last_first xs x = reverse-append xs (x ∷ [])

-- ---- what is open, in the code's list

pub pushed_view : (old new : List Opened) (o : Opened) → new ≡ old ++ o ∷ [] → open_frames (reverse new) ≡ frame_of o.frame ∷ open_frames (reverse old)
pushed_view old new o e = ap (λ xs. open_frames (reverse xs)) e ∙ ap open_frames (last_first old o)

pub pushed : (old new : List Opened) (o : Opened) (d : Depth) → new ≡ old ++ o ∷ [] → d ≡ entered o.below (frame_of o.frame) → IsDepth (open_frames (reverse old)) o.below × AreLevel (reverse old) → IsDepth (open_frames (reverse new)) d × AreLevel (reverse new)
pushed old new o d e h i =
    subst (λ xs. IsDepth (open_frames xs) d × AreLevel xs) (sym (ap reverse e ∙ last_first old o))
    (subst (IsDepth (open_frames (o ∷ reverse old))) (sym h) (is_entered (open_frames (reverse old)) o.below (frame_of o.frame) i.0), i)

pub popped : (old new : List Opened) (o : Opened) (d : Depth) → old ≡ new ++ o ∷ [] → IsDepth (open_frames (reverse old)) d × AreLevel (reverse old) → IsDepth (open_frames (reverse new)) o.below × AreLevel (reverse new)
popped old new o d e i =
    let a : AreLevel (o ∷ reverse new) = subst AreLevel (ap reverse e ∙ last_first new o) i.1 in
    (a.0, a.1)
