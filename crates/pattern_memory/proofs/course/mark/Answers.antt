use Rattle.std.proofs.Common.{◌∙◌, ap}
use Rattle.pattern_memory.specs.Marks.{reading_of}
use Rattle.pattern_memory.proofs.Walks.{walk_one}
use Rattle.pattern_memory.proofs.course.mark.Goals as goal

pub returns : goal.returns
returns c = ap reading_of c.and.ensures ∙ walk_one _ c.args.marks.now.items _
