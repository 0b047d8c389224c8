use Rattle.std.proofs.Common.{◌≡◌, ◌++◌, length}
use Rattle.std.specs.Vec.Iter.{into_iter_items, into_iter_len}
use Rattle.core_opening.proofs.Frames.{HasRead}
use Rattle.core_opening.proofs.reading.read_frames.Given as goal

-- the frames that were read, and those that are left
abbrev pub invariant-reading : goal.invariant-reading
invariant-reading l = (l.yielded ++ into_iter_items l.frame-iterator ≡ into_iter_items l.initial.frame-iterator)
    × HasRead (into_iter_items l.initial.frame-iterator) (length l.yielded) l.so_far l.at
    × (into_iter_len l.frame-iterator ≡ length (into_iter_items l.frame-iterator))
