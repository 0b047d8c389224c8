use Rattle.std.proofs.Common.{refl}
use Rattle.core_opening.proofs.Assembled.{assembled}
use Rattle.core_opening.proofs.open.assemble.Goals as goal

pub returns-clause-ready : goal.returns-clause-ready
returns-clause-ready g c =
    let d = g.D.Disk in
    assembled d.is_told d.seen d.may_leave _ c.args.reading c.args.store.filled c.lacking-missing.result refl c.requires.queue c.requires.reading c.requires.queue_log c.requires.store c.requires.filled c.requires.store_log
    refl refl refl c.in-Ok.ensures refl c.greatest-last.ensures.greatest c.lacking-missing.ensures
