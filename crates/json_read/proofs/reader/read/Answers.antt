use Rattle.json_read.proofs.Public.{found, only, not_json_at, too_deep_at}
use Rattle.json_read.proofs.reader.read.Goals as goal

pub returns-clause-found : goal.returns-clause-found
returns-clause-found c = found c.args.bytes.now c.follow.result c.follow.ensures

pub returns-clause-only : goal.returns-clause-only
returns-clause-only c = λ v s. only c.args.bytes.now v s c.follow.result c.follow.ensures

pub returns-clause-not_json : goal.returns-clause-not_json
returns-clause-not_json c = λ at e. not_json_at c.args.bytes.now at c.follow.result c.follow.ensures e

pub returns-clause-too_deep : goal.returns-clause-too_deep
returns-clause-too_deep c = λ at e. too_deep_at c.args.bytes.now at c.follow.result c.follow.ensures e
