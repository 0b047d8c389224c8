-- How the logic encodes open frames. No meaning depends on this file.
use Rattle.std.specs.Prelude.{◌≡◌, ◌⊎◌, ℕ, List, refl}
use Rattle.std.proofs.Common.{inl, inr}
use Rattle.std.specs.Coded.{Coded, code_by, coded×, coded⊎, coded_list, coded_ℕ}
use Rattle.query_spec.specs.declared.parts.Name.{Name}
use Rattle.query_spec.specs.declared.parts.Selected.{Selected}
use Rattle.query_spec.specs.Query.{Filter}
use Rattle.pql_machine.specs.Machine.{Pending, Frame, parens, implicit, inner}

abbrev Groups : Type 0
Groups = (List Filter × List Filter) × ℕ

abbrev groups : Pending → ℕ → Groups
groups p n = ((p.any, p.all), n)

abbrev pending : Groups → Pending
pending g = record { any = g.0.0; all = g.0.1 }

abbrev Stored : Type 0
Stored = Groups ⊎ ((Name × Groups) ⊎ ((List Name × (Name × List Selected)) × Groups))

abbrev to : Frame → Stored
to (parens p n) = inl (groups p n)
to (implicit e p n) = inr (inl (e, groups p n))
to (inner ls e cs p n) = inr (inr ((ls, (e, cs)), groups p n))

abbrev from : Stored → Frame
from (inl g) = parens (pending g) g.1
from (inr (inl x)) = implicit x.0 (pending x.1) x.1.1
from (inr (inr x)) = inner x.0.0 x.0.1.0 x.0.1.1 (pending x.1) x.1.1

pub back : (f : Frame) → from (to f) ≡ f
back (parens p n) = refl
back (implicit e p n) = refl
back (inner ls e cs p n) = refl

abbrev pub coded_frame : Coded Name → Coded Selected → Coded Filter → Coded Frame
coded_frame n s f =
    let groups_code : Coded Groups = coded× (coded× (coded_list f) (coded_list f)) coded_ℕ in
    code_by Stored (coded⊎ groups_code (coded⊎ (coded× n groups_code) (coded× (coded× (coded_list n) (coded× n (coded_list s))) groups_code))) to from back
