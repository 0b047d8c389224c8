use Rattle.std.proofs.Common.{sym}
use Rattle.record_values.proofs.Values.{not_json_is, too_deep_is}
use Rattle.record_values.proofs.json.value_of.Goals as goal

pub returns-in-Err-NotJson : goal.returns-in-Err-NotJson
returns-in-Err-NotJson c = sym (not_json_is c.args.bytes.now c.in-Err-NotJson.field-0-0 (c.in-Err-NotJson.ensures.not_json c.in-Err-NotJson.field-0-0 (cc)))

pub returns-in-Err-TooDeep : goal.returns-in-Err-TooDeep
returns-in-Err-TooDeep c = sym (too_deep_is c.args.bytes.now c.in-Err-TooDeep.field-0-0 (c.in-Err-TooDeep.ensures.too_deep c.in-Err-TooDeep.field-0-0 (cc)))
