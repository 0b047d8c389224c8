-- The stack of containers, as the machine sees it.
use Rattle.std.proofs.Common.{◌≡◌, ◌∙◌, ℕ, suc, ◌+◌, ◌≤◌, List, [], ◌∷◌, ◌++◌, length, map, sym, ap, subst, arith}
use Rattle.std.specs.Prelude.{reverse}
use Rattle.std.proofs.lemmas.List.{map-append, reverse-append, length-reverse, length-map}
use Rattle.json_machine.specs.text_spec.Json as spec
use Rattle.json_machine.specs.text_spec.Json.{levels, items_of, items_levels, members_of, members_levels, set_member}
use Rattle.json_machine.proofs.of_text_spec.JsonLemmas.{items_levels-push, members_levels-push}
use Rattle.json_machine.specs.text_spec.Json.{settled}
use Rattle.json_read.specs.declared.stack.Frame.{Frame}
use Rattle.json_machine.specs.Machine.{in_array, in_object}
use Rattle.json_tree.specs.declared.tree.Json.{Json}
use Rattle.json_tree.specs.Tree.{json_of, pair, pairs}
use Rattle.json_read.specs.declared.stack.Frame.TheVariants.{Array, Object}
use Rattle.std.specs.declared.vec.Vec.{Vec}
use Rattle.std.specs.declared.alloc.Global.{Global}
use Rattle.json_read.specs.Found.{frame_of, frames_of, Fits}

pub frames-push : (fs : List Frame) (f : Frame) → frames_of (fs ++ f ∷ []) ≡ frame_of f ∷ frames_of fs
frames-push fs f = ap reverse (map-append frame_of fs (f ∷ [])) ∙ reverse-append (map frame_of fs) (frame_of f ∷ [])

pub length-frames : (fs : List Frame) → length (frames_of fs) ≡ length fs
length-frames fs = length-reverse (map frame_of fs) ∙ length-map fs frame_of

pub pushed_items : (js : List spec.Json) (j : spec.Json) (d : ℕ) → items_levels (items_of js) + d ≤ 127 → levels j + d ≤ 127 → items_levels (items_of (js ++ j ∷ [])) + d ≤ 127
pushed_items js j d a b = omega (arith, a, b, items_levels-push js j)

pub pushed_members : (ms : List (List ℕ × spec.Json)) (m : List ℕ × spec.Json) (d : ℕ) → members_levels (members_of ms) + d ≤ 127 → levels m.1 + d ≤ 127 → members_levels (members_of (ms ++ m ∷ [])) + d ≤ 127
pushed_members ms m d a b = omega (arith, a, b, members_levels-push ms m)

pub more_items : (fs : List Frame) (js all : List spec.Json) (j : spec.Json) → all ≡ js ++ j ∷ [] → Fits (in_array js ∷ frames_of fs) → levels j + suc (length fs) ≤ 127 → items_levels (items_of all) + suc (length fs) ≤ 127
more_items fs js all j push fits small =
    subst (λ xs. items_levels (items_of xs) + suc (length fs) ≤ 127) (sym push) (pushed_items js j (suc (length fs)) (omega (arith, fits.0, length-frames fs)) small)

pub closed_array : (fs : List Frame) (js all : List spec.Json) (j : spec.Json) → all ≡ js ++ j ∷ [] → Fits (in_array js ∷ frames_of fs) → levels j + suc (length fs) ≤ 127 → suc (items_levels (items_of all)) + length fs ≤ 127
closed_array fs js all j push fits small = omega (arith, more_items fs js all j push fits small)

pub more_members : (fs : List Frame) (ms all : List (List ℕ × Json)) (k : List ℕ) (j : Json) → all ≡ ms ++ (k, j) ∷ [] → Fits (in_object (pairs ms) k ∷ frames_of fs) → levels (json_of j) + suc (length fs) ≤ 127 → members_levels (members_of (pairs all)) + suc (length fs) ≤ 127
more_members fs ms all k j push fits small =
    subst (λ xs. members_levels (members_of xs) + suc (length fs) ≤ 127) (sym (ap pairs push ∙ map-append pair ms ((k, j) ∷ []))) (pushed_members (pairs ms) (k, json_of j) (suc (length fs)) (omega (arith, fits.0, length-frames fs)) small)

pub fits_object : (fs new : List Frame) (ms : Vec (List ℕ × Json) Global) (k : List ℕ) → new ≡ fs ++ Object ms k ∷ [] → Fits (frames_of fs) → members_levels (members_of (pairs ms.items)) + suc (length fs) ≤ 127 → Fits (frames_of new)
fits_object fs new ms k e fits small = subst Fits (sym (ap frames_of e ∙ frames-push fs (Object ms k))) (omega (arith, small, length-frames fs), fits)
