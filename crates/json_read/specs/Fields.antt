-- What each field function answers, given the value of the member with its name.
use Rattle.std.specs.Prelude.{ℕ, ℤ, List, Bool, Option, Some, None, Result, Ok, Err}
use Rattle.json_machine.specs.text_spec.Json as spec
use Rattle.json_machine.specs.text_spec.Json.{Json, items_list, members_list}
use Rattle.json_machine.specs.text_spec.StampReader.{stamp_of}
use Rattle.json_read.specs.declared.fault.FieldFault.{FieldFault}
use Rattle.json_read.specs.declared.fault.FieldFault.TheVariants.{Missing, Wrong, BadStamp}

abbrev pub as_text : Option Json → Result (List ℕ) FieldFault
as_text None = Err Missing
as_text (Some (spec.string s)) = Ok s
as_text (Some j) = Err Wrong

abbrev pub as_bool : Option Json → Result Bool FieldFault
as_bool None = Err Missing
as_bool (Some (spec.boolean b)) = Ok b
as_bool (Some j) = Err Wrong

abbrev pub as_map : Option Json → Result (List (List ℕ × Json)) FieldFault
as_map None = Err Missing
as_map (Some (spec.object ms)) = Ok (members_list ms)
as_map (Some j) = Err Wrong

abbrev pub as_list : Option Json → Result (List Json) FieldFault
as_list None = Err Missing
as_list (Some (spec.array js)) = Ok (items_list js)
as_list (Some j) = Err Wrong

abbrev pub stamp_or_fault : Option ℤ → Result ℤ FieldFault
stamp_or_fault (Some moment) = Ok moment
stamp_or_fault None = Err BadStamp

abbrev pub as_stamp : Option Json → Result ℤ FieldFault
as_stamp None = Err Missing
as_stamp (Some (spec.string s)) = stamp_or_fault (stamp_of s)
as_stamp (Some j) = Err Wrong
