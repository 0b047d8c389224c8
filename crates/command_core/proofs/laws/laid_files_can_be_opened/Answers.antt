use Rattle.command_core.proofs.Laid.{laid_files_stand, laid_files_are_undamaged}
use Rattle.command_core.proofs.laws.laid_files_can_be_opened.Goals as goal

pub returns-clause-stand : goal.returns-clause-stand
returns-clause-stand c = laid_files_stand

pub returns-clause-undamaged : goal.returns-clause-undamaged
returns-clause-undamaged c = laid_files_are_undamaged
