-- What a closure catches by references may be shared where it may.
use mathlib.Core.List.{[], ◌∷◌}
use denote.Builtin.{One}
use denote.RattleType.{RattleType}
use denote.Ref.{NamedLft}
use denote.Struct.Field.{shr_ref_field}
use denote.Struct.Tuple.{TupleAt}
use denote.Param.Send.{IsSync, sendable}

pub caught : (a b c d e f h : NamedLft) (A B C D E F H : RattleType) (u : One A.mir) (v : One B.mir) (w : One C.mir) (x : One D.mir) (y : One E.mir) (z : One F.mir) (o : One H.mir)
    → IsSync A → IsSync B → IsSync C → IsSync D → IsSync E → IsSync F → IsSync H
    → IsSync (TupleAt [] ((shr_ref_field a A u).row ∷ (shr_ref_field b B v).row ∷ (shr_ref_field c C w).row ∷ (shr_ref_field d D x).row ∷ (shr_ref_field e E y).row ∷ (shr_ref_field f F z).row ∷ (shr_ref_field h H o).row ∷ []))
caught a b c d e f h A B C D E F H u v w x y z o p1 p2 p3 p4 p5 p6 p7 = search sendable depth 20
