use Rattle.std.proofs.Common.{Some, refl, rules}
use Rattle.core_ends.specs.core_course.Sight.{sight_of}
use Rattle.live_stage.specs.StageCalls.{was_submitted}
use Rattle.http_routes.proofs.Answering.{is_query, may_be_submitted}
use Rattle.live_links.proofs.Holds.{first_stays}
use Rattle.live_links.proofs.Requests.{command_one, alone_one, unrouted_one, query_one}
use Rattle.live_links.proofs.request.routed.Goals as goal

pub submitted-requires : goal.submitted-requires
submitted-requires g c =
    let may = may_be_submitted c.args.now c.args.request c.in_ok-routed.routed c.in-Command.command c.in-Command.is c.in_ok-routed.ensures in
    record { pass = c.requires.pass; payload = may.0; received = may.1 }

pub asked-requires : goal.asked-requires
asked-requires g c = record {
  pass = c.requires.pass;
  first = c.requires.first;
  query = is_query c.args.now c.args.request c.in_ok-routed.routed c.in-Query.request c.in-Query.is c.in_ok-routed.ensures;
}

pub returns-in_err-routed-clause-answer : goal.returns-in_err-routed-clause-answer
returns-in_err-routed-clause-answer g c =
    unrouted_one (sight_of g.D.Disk g.K.Keeper) g.K.Keeper.generation (g.P.Patterns.says c.args.patterns.now) c.args.now c.args.request c.args.pass.now (g.P.Patterns.asked c.args.patterns.now)
    (g.P.Patterns.refusals c.args.patterns.now) _ (search rules)

pub returns-in-Command-clause-first : goal.returns-in-Command-clause-first
returns-in-Command-clause-first g c =
    let call = c.submitted.ensures.call in
    first_stays (sight_of g.D.Disk g.K.Keeper) g.K.Keeper.generation (Some (was_submitted c.in-Command.command call.0 call.1)) c.args.pass.now c.submitted.new.pass call.2 c.args.kept.now c.requires.first

pub returns-in-Command-clause-answer : goal.returns-in-Command-clause-answer
returns-in-Command-clause-answer g c =
    command_one (sight_of g.D.Disk g.K.Keeper) g.K.Keeper.generation (g.P.Patterns.says c.args.patterns.now) c.args.now c.args.request c.requires.plain c.args.pass.now c.submitted.new.pass
    (g.P.Patterns.asked c.args.patterns.now) (g.P.Patterns.refusals c.args.patterns.now) c.submitted.result c.in_ok-routed.routed c.in-Command.command c.args.request.ends c.in-Command.is c.in_ok-routed.ensures refl
    c.submitted.ensures.call

pub returns-in-Query-clause-answer : goal.returns-in-Query-clause-answer
returns-in-Query-clause-answer g c =
    query_one (sight_of g.D.Disk g.K.Keeper) g.K.Keeper.generation (g.P.Patterns.says c.args.patterns.now) c.args.now c.args.request c.requires.plain c.args.pass.now c.asked.new.pass
    (g.P.Patterns.asked c.args.patterns.now) (g.P.Patterns.asked c.asked.new.patterns) (g.P.Patterns.refusals c.args.patterns.now) (g.P.Patterns.refusals c.asked.new.patterns) c.in_ok-routed.routed c.in-Query.request
    c.asked.result c.in-Query.is c.in_ok-routed.ensures c.asked.ensures.answer

pub returns-in-Done-clause-answer : goal.returns-in-Done-clause-answer
returns-in-Done-clause-answer g c =
    alone_one (sight_of g.D.Disk g.K.Keeper) g.K.Keeper.generation (g.P.Patterns.says c.args.patterns.now) c.args.now c.args.request c.requires.plain c.args.pass.now (g.P.Patterns.asked c.args.patterns.now)
    (g.P.Patterns.refusals c.args.patterns.now) c.in_ok-routed.routed c.in-Done.answer _ refl c.in-Done.is c.in_ok-routed.ensures
