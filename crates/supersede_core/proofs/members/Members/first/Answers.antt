use Rattle.std.proofs.Common.{◌≡◌, arith}
use Rattle.supersede_core.proofs.members.Members.first.Goals as goal

pub returns-in-Some : goal.returns-in-Some
returns-in-Some c =
    let none : c.args.self.now.claimed ≡ 0 = omega (arith, c.if-self-gt0.false) in
    record {
      claimed = λ n. absurd (n none);
      unclaimed = λ z. record { stamp = c.in-Some.rank.now.0; there = c.in-Some.ensures.member; greatest = c.in-Some.ensures.greatest };
    }
