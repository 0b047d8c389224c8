use Rattle.std.proofs.Common.{◌∷◌, codes, refl, ap}
use Rattle.program_words.specs.Splitting.{plain_words}
use Rattle.program_words.specs.declared.told.Plain.{Plain}
use Rattle.program_words.proofs.asked.query_with.Goals as goal

pub returns-in-One-clause-some : goal.returns-in-One-clause-some
returns-in-One-clause-some c = ((refl, refl), (c.in-One._text.now, ap (λ (p : Plain). codes "query" ∷ plain_words p) c.in-One.is))
