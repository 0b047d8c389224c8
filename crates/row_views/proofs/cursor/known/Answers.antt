use Rattle.std.proofs.Common.{Option, IfSome, subst}
use Rattle.row_views.specs.Cursors.{IsSpot}
use Rattle.row_views.specs.declared.cursor.Spot.{Spot}
use Rattle.row_views.proofs.CursorLaws.{place_from}
use Rattle.row_views.proofs.cursor.known.Goals as goal

pub returns-in-Some-index_in : goal.returns-in-Some-index_in
returns-in-Some-index_in c = λ entity table h.
    let at = c.in-Some-index_in.ensures in
    place_from entity table c.in-Some.spot (subst (λ (o : Option Spot). IfSome o (IsSpot entity table)) c.in-Some.is h) c.args.i c.in-Some-index_in.j at.from at.index at.within
