-- Example files, byte for byte. The first is a new store log of generation 1: a record of three numbers of days, and an empty
-- base.
use Rattle.std.specs.Prelude.{ℕ, List, [], ◌∷◌, take}

abbrev pub store_frames : List (List ℕ)
store_frames = (0 ∷ 7 ∷ 0 ∷ 0 ∷ 0 ∷ 14 ∷ 0 ∷ 0 ∷ 0 ∷ 14 ∷ 0 ∷ 0 ∷ 0 ∷ []) ∷ (1 ∷ 0 ∷ 0 ∷ 0 ∷ []) ∷ []

-- the head, a frame of 13 bytes, a frame of 4 bytes, and a closed gate
abbrev pub store_file : List ℕ
store_file =
    1 ∷ 80 ∷ 68 ∷ 66 ∷ 76 ∷ 79 ∷ 71 ∷ 49 ∷ 1 ∷ 0 ∷ 0 ∷ 0 ∷ 0 ∷ 0 ∷ 0 ∷ 0
    ∷ 1 ∷ 13 ∷ 0 ∷ 0 ∷ 0 ∷ 0 ∷ 7 ∷ 0 ∷ 0 ∷ 0 ∷ 14 ∷ 0 ∷ 0 ∷ 0 ∷ 14 ∷ 0 ∷ 0 ∷ 0
    ∷ 1 ∷ 4 ∷ 0 ∷ 0 ∷ 0 ∷ 1 ∷ 0 ∷ 0 ∷ 0
    ∷ 0 ∷ []

-- the shortest log, of generation 7: the head and a closed gate
abbrev pub bare_file : List ℕ
bare_file = 1 ∷ 80 ∷ 68 ∷ 66 ∷ 76 ∷ 79 ∷ 71 ∷ 49 ∷ 7 ∷ 0 ∷ 0 ∷ 0 ∷ 0 ∷ 0 ∷ 0 ∷ 0 ∷ 0 ∷ []

-- the first frame alone
abbrev pub first_frame : List (List ℕ)
first_frame = take 1 store_frames
