use Rattle.std.proofs.Common.{◌≡◌, ◌⊎◌, subst}
use Rattle.http_spec.specs.Requests.{IsCut}
use Rattle.http_front.specs.Reading.{Reading}
use Rattle.http_front.proofs.incoming.Incoming.next.Goals as goal

pub returns-clause-asks : goal.returns-clause-asks
returns-clause-asks g c =
    subst (λ (r : Reading). (c.next-next.new.link ≡ c.args.link.now) ⊎ IsCut r.ahead) c.self.view_is c.next-next.ensures.asks
