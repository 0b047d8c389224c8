use Rattle.std.proofs.Common.{◌∙◌, sym, ap, subst}
use Rattle.std.specs.Prelude.{IsTrue}
use Rattle.busy_commands.proofs.of_plain_laws.Options.{none_some, some_is}
use Rattle.busy_commands.specs.program_words.Words.{uses_disks}
use Rattle.fleet_app.proofs.words.needs_disks.Goals as goal

pub returns-in-Some : goal.returns-in-Some
returns-in-Some c = (
  λ told. (c.in-Some.request, rw c.in-Some.is at c.in_ok-found.ensures.some, subst IsTrue c.uses_disks.ensures told),
  λ need. subst IsTrue (sym (c.uses_disks.ensures ∙ ap uses_disks (some_is c.in-Some.request need.0 (rw c.in-Some.is at c.in_ok-found.ensures.every need.0 need.1)))) need.2,
)

pub returns-in-None : goal.returns-in-None
returns-in-None c = (
  λ told. absurd (cc),
  λ need. none_some need.0 (rw c.in-None.is at c.in_ok-found.ensures.every need.0 need.1),
)
