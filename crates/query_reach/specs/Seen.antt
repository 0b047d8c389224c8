-- The pins and texts of the code, as those of the definitions.
use Rattle.std.specs.Prelude.{ℕ, List, map}
use Rattle.std.specs.Borrow.{Bor}
use Rattle.query_reach.specs.Reach as reach
use Rattle.query_reach.specs.declared.pins.Pin.{Pin}

abbrev pub pin_seen : Pin → reach.Pin
pin_seen p = record { column = p.column.now.text; text = p.text.now }

abbrev pub pins_seen : List Pin → List reach.Pin
pins_seen = map pin_seen

abbrev pub texts_seen : List (Bor (List ℕ)) → List (List ℕ)
texts_seen = map (λ (t : Bor (List ℕ)). t.now)
