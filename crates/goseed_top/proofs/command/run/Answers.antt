use Rattle.std.proofs.Common.{inl, ap}
use Rattle.std.specs.Prelude.{Err}
use Rattle.seed_io.specs.declared.sink.SinkError.{SinkError}
use Rattle.goseed_top.proofs.CommandLemmas.{answers_cause, not_stopped}
use Rattle.goseed_top.proofs.PlanningLemmas.{draws, plans}
use Rattle.goseed_words.specs.Orders.{texts}
use Rattle.command_endings.specs.Worlds.{seen}
use Rattle.goseed_top.proofs.RunLemmas.{front_printed, leaves_others}
use Rattle.goseed_top.proofs.command.run.Goals as goal

pub returns-in-Ok-push-clause-cause : goal.returns-in-Ok-push-clause-cause
returns-in-Ok-push-clause-cause g c = λ inside room. answers_cause c.command_laws.ensures _ _ _ _ _ c.in-Ok.ensures.report

pub returns-in-Ok-push-clause-outside : goal.returns-in-Ok-push-clause-outside
returns-in-Ok-push-clause-outside g c = λ is. absurd (not_stopped c.command_laws.ensures _ _ _ _ _ c.in-Ok.ensures.report (inl is))

pub returns-in-Ok-push-clause-part : goal.returns-in-Ok-push-clause-part
returns-in-Ok-push-clause-part g c = λ told stopped. absurd (not_stopped c.command_laws.ensures _ _ _ _ _ c.in-Ok.ensures.report stopped)

pub returns-in-Err-Fault-clause-part : goal.returns-in-Err-Fault-clause-part
returns-in-Err-Fault-clause-part g c = λ told stopped.
    let pushed = rw c.deref.ensures.value at (c.in-Err-Fault.ensures.taken told) in
    front_printed (seen (g.F.Shelf.tells c.args.shelf.now) (g.F.Shelf.map c.args.shelf.now) (g.R.Rack.honest c.args.rack.now) (g.R.Rack.disk c.args.rack.now)) (seen (g.F.Shelf.tells c.args.shelf.now) (g.F.Shelf.map c.report_of.new.shelf) (g.R.Rack.honest c.args.rack.now) (g.R.Rack.disk c.report_of.new.rack)) (texts c.args.words.now) _ _ _ _ c.in-Ok.ensures.report (pushed.fault (ap (λ (e : SinkError). Err e) c.in-Err-Fault.field-0-is))

pub returns-in-Ok-push-clause-planned : goal.returns-in-Ok-push-clause-planned
returns-in-Ok-push-clause-planned g c = λ tells outside memory.
    let laws = c.planning_laws.ensures in
    plans laws.one (seen (g.F.Shelf.tells c.args.shelf.now) (g.F.Shelf.map c.args.shelf.now) (g.R.Rack.honest c.args.rack.now) (g.R.Rack.disk c.args.rack.now)) (seen (g.F.Shelf.tells c.args.shelf.now) (g.F.Shelf.map c.report_of.new.shelf) (g.R.Rack.honest c.args.rack.now) (g.R.Rack.disk c.report_of.new.rack)) (texts c.args.words.now) _ _ _ _ tells tells
    (record { text = c.in-Ok.report.text.items; ends = c.in-Ok.ensures.report; taken = λ told. (rw c.deref.ensures.value at (c.in-Ok-push.ensures.taken told)).ok })

pub returns-in-Ok-push-clause-drawn : goal.returns-in-Ok-push-clause-drawn
returns-in-Ok-push-clause-drawn g c = λ tells outside memory.
    draws (seen (g.F.Shelf.tells c.args.shelf.now) (g.F.Shelf.map c.args.shelf.now) (g.R.Rack.honest c.args.rack.now) (g.R.Rack.disk c.args.rack.now)) (seen (g.F.Shelf.tells c.args.shelf.now) (g.F.Shelf.map c.report_of.new.shelf) (g.R.Rack.honest c.args.rack.now) (g.R.Rack.disk c.report_of.new.rack)) (texts c.args.words.now) _ _ _ _ tells tells
    (record { text = c.in-Ok.report.text.items; ends = c.in-Ok.ensures.report; taken = λ told. (rw c.deref.ensures.value at (c.in-Ok-push.ensures.taken told)).ok })

pub returns-in-Err-Outside-clause-others : goal.returns-in-Err-Outside-clause-others
returns-in-Err-Outside-clause-others g c = λ tells name none.
    leaves_others (seen (g.F.Shelf.tells c.args.shelf.now) (g.F.Shelf.map c.args.shelf.now) (g.R.Rack.honest c.args.rack.now) (g.R.Rack.disk c.args.rack.now)) _ (texts c.args.words.now) (c.report_of.ensures.left tells) name none

pub returns-in-Err-Memory-clause-others : goal.returns-in-Err-Memory-clause-others
returns-in-Err-Memory-clause-others g c = λ tells name none.
    leaves_others (seen (g.F.Shelf.tells c.args.shelf.now) (g.F.Shelf.map c.args.shelf.now) (g.R.Rack.honest c.args.rack.now) (g.R.Rack.disk c.args.rack.now)) _ (texts c.args.words.now) (c.report_of.ensures.left tells) name none

pub returns-in-Ok-push-clause-others : goal.returns-in-Ok-push-clause-others
returns-in-Ok-push-clause-others g c = λ tells name none.
    leaves_others (seen (g.F.Shelf.tells c.args.shelf.now) (g.F.Shelf.map c.args.shelf.now) (g.R.Rack.honest c.args.rack.now) (g.R.Rack.disk c.args.rack.now)) _ (texts c.args.words.now) (c.report_of.ensures.left tells) name none

pub returns-in-Err-Fault-clause-others : goal.returns-in-Err-Fault-clause-others
returns-in-Err-Fault-clause-others g c = λ tells name none.
    leaves_others (seen (g.F.Shelf.tells c.args.shelf.now) (g.F.Shelf.map c.args.shelf.now) (g.R.Rack.honest c.args.rack.now) (g.R.Rack.disk c.args.rack.now)) _ (texts c.args.words.now) (c.report_of.ensures.left tells) name none

pub returns-clause-others : goal.returns-clause-others
returns-clause-others g c = λ tells name none.
    leaves_others (seen (g.F.Shelf.tells c.args.shelf.now) (g.F.Shelf.map c.args.shelf.now) (g.R.Rack.honest c.args.rack.now) (g.R.Rack.disk c.args.rack.now)) _ (texts c.args.words.now) (c.report_of.ensures.left tells) name none
