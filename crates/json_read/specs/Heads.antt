-- The head of a payload: its certname and the moment of its producer's stamp.
use Rattle.std.specs.Prelude.{ℕ, ℤ, List, ◌∷◌, codes, Option, Some, None}
use Rattle.json_machine.specs.text_spec.Json as spec
use Rattle.json_machine.specs.text_spec.Json.{Json, members_list, find_member}
use Rattle.json_machine.specs.text_spec.StampReader.{stamp_of}
use Rattle.json_machine.specs.Verdict.{Verdict, spelled, not_json, too_deep}

abbrev pub text_in : Option Json → Option (List ℕ)
text_in (Some (spec.string s)) = Some s
text_in j = None

abbrev pub nonempty : Option (List ℕ) → Option (List ℕ)
nonempty (Some (c ∷ cs)) = Some (c ∷ cs)
nonempty text = None

-- the moment of a stamp (a profile of RFC 3339)
abbrev pub stamp_in : Option (List ℕ) → Option ℤ
stamp_in (Some text) = stamp_of text
stamp_in None = None

abbrev pub both : Option (List ℕ) → Option ℤ → Option (List ℕ × ℤ)
both (Some name) (Some moment) = Some (name, moment)
both name moment = None

-- an object's nonempty text at `certname`, and its stamp at `producer_timestamp`
abbrev pub head_of : Json → Option (List ℕ × ℤ)
head_of (spec.object ms) =
    both (nonempty (text_in (find_member (codes "certname") (members_list ms))))
    (stamp_in (text_in (find_member (codes "producer_timestamp") (members_list ms))))
head_of j = None

-- the head that a verdict leads to
abbrev pub head_told : Verdict → Option (List ℕ × ℤ)
head_told (spelled v) = head_of v
head_told (not_json at) = None
head_told (too_deep at) = None
