use Rattle.std.proofs.Common.{inr, sym, subst, get_or, ◌∙◌, Result, Ok, Err, OnOk}
use Rattle.fleet_ports.proofs.Runs.{joins, weakens}
use Rattle.log_spec.proofs.Heads.{image_shut}
use Rattle.record_log.specs.Lay.{IsShut, IsOldOrClosed, AllShut}
use Rattle.record_log.proofs.laid.prepare.Goals as goal

pub returns-clause-any_moment : goal.returns-clause-any_moment
returns-clause-any_moment g c =
    let d = g.D.Disk in
    let old = c.args.disk.now in
    let P = IsOldOrClosed (d.may_leave old) in
    let all_shut : AllShut (d.may_leave c.shut.new.disk) = λ f now. subst IsShut (sym (c.in_ok-shut.ensures.durable f now)) (c.in_ok-shut.ensures.closed (g.met.D.Disk.told c.shut.new.disk f now)).1 in
    let first = c.shut.ensures.any_moment in
    let second = weakens d.moment d.left_since c.shut.new.disk c.lay_rest.new.disk IsShut P (λ f s. inr (image_shut f s)) (c.lay_rest.ensures.any_moment all_shut) in
    let third = weakens d.moment d.left_since c.lay_rest.new.disk c.flush.new.disk (d.may_leave c.lay_rest.new.disk) P (λ f now. inr (image_shut f (c.lay_rest.ensures.shut all_shut f now))) c.flush.ensures.untouched.moments in
    joins d.moment d.left_since old c.shut.new.disk c.flush.new.disk P first (joins d.moment d.left_since c.shut.new.disk c.lay_rest.new.disk c.flush.new.disk P second third)

pub returns-in_err-lay_rest-clause-images : goal.returns-in_err-lay_rest-clause-images
returns-in_err-lay_rest-clause-images g c f now =
    let d = g.D.Disk in
    let all_shut : AllShut (d.may_leave c.shut.new.disk) = λ f now. subst IsShut (sym (c.in_ok-shut.ensures.durable f now)) (c.in_ok-shut.ensures.closed (g.met.D.Disk.told c.shut.new.disk f now)).1 in
    inr (image_shut f (c.lay_rest.ensures.shut all_shut f now))

pub returns-in_err-lay_rest-clause-any_moment : goal.returns-in_err-lay_rest-clause-any_moment
returns-in_err-lay_rest-clause-any_moment g c =
    let d = g.D.Disk in
    let old = c.args.disk.now in
    let P = IsOldOrClosed (d.may_leave old) in
    let all_shut : AllShut (d.may_leave c.shut.new.disk) = λ f now. subst IsShut (sym (c.in_ok-shut.ensures.durable f now)) (c.in_ok-shut.ensures.closed (g.met.D.Disk.told c.shut.new.disk f now)).1 in
    let second = weakens d.moment d.left_since c.shut.new.disk c.lay_rest.new.disk IsShut P (λ f s. inr (image_shut f s)) (c.lay_rest.ensures.any_moment all_shut) in
    joins d.moment d.left_since old c.shut.new.disk c.lay_rest.new.disk P c.shut.ensures.any_moment second

pub returns-clause-images : goal.returns-clause-images
returns-clause-images g c f now =
    let d = g.D.Disk in
    let all_shut : AllShut (d.may_leave c.shut.new.disk) = λ f now. subst IsShut (sym (c.in_ok-shut.ensures.durable f now)) (c.in_ok-shut.ensures.closed (g.met.D.Disk.told c.shut.new.disk f now)).1 in
    inr (image_shut f (c.lay_rest.ensures.shut all_shut f (c.flush.ensures.untouched.images f now)))

always : {T E P : Type 0} (r : Result T E) → P → OnOk r P
always (Ok x) p = p
always (Err e) p = tt

pub returns-clause-written : goal.returns-clause-written
returns-clause-written g c =
    always c.flush.result
    (λ told. (get_or (g.D.Disk.seen c.shut.new.disk) 0 0, (c.in_ok-shut.ensures.closed told).1, c.flush.ensures.untouched.same ∙ c.in_ok-lay_rest.ensures.written told))
