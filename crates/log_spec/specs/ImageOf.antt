-- The image of a file as a function, the texts that are written, and when a frame fits.
use Rattle.std.specs.Prelude.{ℕ, zero, suc, ◌+◌, ◌^◌, ◌<◌, ◌&&◌, if◌then◌else◌, ◌==◌, nat_lt, List, [], ◌∷◌, ◌++◌, length, take, drop, get_or, bytes_eq}
use Rattle.std.specs.Int.{w32, w64, from_le_bytes, to_le_bytes}
use Rattle.log_spec.specs.Image.{Image, closed, damaged, standing, magic, generation_in}

-- What is found from an offset on: frames up to a closed gate and its offset, or the offset of the damage.
pub data Found : Type 0 where
  ends : List (List ℕ) → ℕ → Found
  breaks : ℕ → Found

abbrev pub behind : List ℕ → Found → Found
behind frame (ends frames gate) = ends (frame ∷ frames) gate
behind frame (breaks at) = breaks at

-- the length that a frame states, read after its gate
abbrev pub stated : List ℕ → ℕ
stated bytes = from_le_bytes w32 (take 4 bytes)

-- From offset p on. The first argument is at least the number of bytes, since each frame takes some.
unfoldable pub walk : ℕ → ℕ → List ℕ → Found
walk most p [] = breaks p
walk zero p (gate ∷ rest) = breaks p
walk (suc most) p (gate ∷ rest) =
    if gate == 1
    then (if nat_lt (4 + stated rest) (length rest)
    then behind (take (stated rest) (drop 4 rest)) (walk most (p + 5 + stated rest) (drop (4 + stated rest) rest))
    else breaks p)
    else ends [] p

-- what is found from offset p on
abbrev pub found : ℕ → List ℕ → Found
found p bytes = walk (length bytes) p bytes

abbrev pub opened : ℕ → Found → Image
opened generation (ends frames gate) = standing generation frames gate
opened generation (breaks at) = damaged at

unfoldable pub image_of : List ℕ → Image
image_of file =
    if nat_lt 16 (length file) && (get_or file 0 0 == 1)
    then (if bytes_eq (take 7 (drop 1 file)) magic
    then opened (generation_in file) (walk (length file) 16 (drop 16 file))
    else damaged 1)
    else closed

-- the frames; none if the file isn't open
abbrev pub frames_in : Image → List (List ℕ)
frames_in closed = []
frames_in (damaged at) = []
frames_in (standing generation frames gate) = frames

-- a frame with its length, as it follows its gate
abbrev pub block_text : List ℕ → List ℕ
block_text frame = to_le_bytes w32 (length frame) ++ frame

-- frames, each after an open gate
abbrev pub frame_texts : List (List ℕ) → List ℕ
frame_texts [] = []
frame_texts (frame ∷ frames) = 1 ∷ block_text frame ++ frame_texts frames

-- a laid file after its first byte: the rest of the head, its frames and a closed gate
abbrev pub rest_text : ℕ → List (List ℕ) → List ℕ
rest_text generation frames = magic ++ to_le_bytes w64 generation ++ frame_texts frames ++ 0 ∷ []

abbrev pub laid_image : ℕ → List (List ℕ) → Image
laid_image generation frames = standing generation frames (16 + length (frame_texts frames))

-- each frame's length fits into four bytes
abbrev pub AllShort : List (List ℕ) → Type 0
AllShort [] = Unit {0}
AllShort (f ∷ fs) = (length f < 2 ^ 32) × AllShort fs
