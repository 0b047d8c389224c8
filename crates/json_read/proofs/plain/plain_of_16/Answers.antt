use Rattle.std.proofs.Common.{◌≡◌, ◌∙◌, ◌<◌, ◌≤◌, ℕ, List, length, map, not, ap, arith, ◌+◌}
use Rattle.std.proofs.lemmas.Simd.{length-chunk, trailing_mask_l, run_in_chunk_le, run_in_chunk_fails, run_in_chunk_stops, none_from_empty_mask}
use Rattle.std.specs.List.{prefix_len}
use lib.Lanes.{chunk, mask_l}
use lib.Count.{count_trailing_zeros}
use Rattle.json_read.specs.Strings.{is_other}
use Rattle.json_read.proofs.Lanes.{is_plain, is_not_plain}
use Rattle.json_read.proofs.plain.plain_of_16.Goals as goal

-- the lowest bit that is set is the first of the bytes that is no plain ASCII character
counted : (bytes : List ℕ) (at found : ℕ) → at + 16 ≤ length bytes → found ≡ mask_l (map is_other (chunk at 16 bytes)) → ¬ (found ≡ 0) → count_trailing_zeros 64 found ≡ prefix_len (λ x. not (is_other x)) (chunk at 16 bytes)
counted bytes at found room is some =
    let set : 0 < mask_l (map is_other (chunk at 16 bytes)) = omega (arith, is, some) in
    ap (count_trailing_zeros 64) is ∙ trailing_mask_l is_other 64 (chunk at 16 bytes) (omega (arith, length-chunk at 16 bytes room)) set

pub returns-then-found-eq0-clause-plain : goal.returns-then-found-eq0-clause-plain
returns-then-found-eq0-clause-plain c = λ k l u.
    is_plain _ (none_from_empty_mask is_other c.args.bytes.now c.args.at 16 0 c.requires (omega (arith, c.others-found.ensures, c.if-found-eq0.true)) k l u)

pub returns-else-found-eq0-clause-plain : goal.returns-else-found-eq0-clause-plain
returns-else-found-eq0-clause-plain c = λ k l u.
    is_plain _ (run_in_chunk_fails is_other c.args.bytes.now c.args.at 16 _ 0 c.requires (counted c.args.bytes.now c.args.at c.others-found.result c.requires c.others-found.ensures c.if-found-eq0.false) k l u)

pub returns-else-found-eq0-clause-bound : goal.returns-else-found-eq0-clause-bound
returns-else-found-eq0-clause-bound c =
    run_in_chunk_le is_other c.args.bytes.now c.args.at 16 _ 0 c.requires (counted c.args.bytes.now c.args.at c.others-found.result c.requires c.others-found.ensures c.if-found-eq0.false)

pub returns-else-found-eq0-clause-other : goal.returns-else-found-eq0-clause-other
returns-else-found-eq0-clause-other c = λ lt.
    is_not_plain _ (run_in_chunk_stops is_other c.args.bytes.now c.args.at 16 _ 0 c.requires (counted c.args.bytes.now c.args.at c.others-found.result c.requires c.others-found.ensures c.if-found-eq0.false) lt)
