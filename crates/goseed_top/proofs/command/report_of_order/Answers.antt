use Rattle.std.proofs.lemmas.Result.{IfOk-weaker}
use Rattle.goseed_top.proofs.RunLemmas.{leaves_same}
use Rattle.goseed_top.proofs.command.report_of_order.Goals as goal

pub returns-in-Reading-clause-report : goal.returns-in-Reading-clause-report
returns-in-Reading-clause-report g c =
    IfOk-weaker c.report_of_reading.result _ _ (λ report ends. ends (g.R.Rack.honest c.args.rack.now) (g.R.Rack.disk c.args.rack.now)) c.report_of_reading.ensures.report

pub returns-in-Reading-clause-left : goal.returns-in-Reading-clause-left
returns-in-Reading-clause-left g c = λ told words asked. leaves_same _ _ words c.report_of_reading.ensures.same

pub returns-in-Searching-clause-report : goal.returns-in-Searching-clause-report
returns-in-Searching-clause-report g c =
    IfOk-weaker c.report_of_search.result _ _ (λ report ends. ends (g.R.Rack.honest c.args.rack.now) (g.R.Rack.disk c.args.rack.now)) c.report_of_search.ensures.report

pub returns-in-Searching-clause-left : goal.returns-in-Searching-clause-left
returns-in-Searching-clause-left g c = λ told. c.report_of_search.ensures.left told (g.R.Rack.honest c.args.rack.now) (g.R.Rack.disk c.args.rack.now)

pub returns-in-Trying-clause-report : goal.returns-in-Trying-clause-report
returns-in-Trying-clause-report g c =
    IfOk-weaker c.report_of_trial.result _ _ (λ report ends. ends (g.R.Rack.honest c.args.rack.now) (g.R.Rack.disk c.args.rack.now)) c.report_of_trial.ensures.report

pub returns-in-Trying-clause-left : goal.returns-in-Trying-clause-left
returns-in-Trying-clause-left g c = λ told. c.report_of_trial.ensures.left told (g.R.Rack.honest c.args.rack.now) (g.R.Rack.disk c.args.rack.now)

pub returns-in-Ordering-clause-report : goal.returns-in-Ordering-clause-report
returns-in-Ordering-clause-report g c =
    IfOk-weaker c.report_of_ordering.result _ _ (λ report ends. ends (g.R.Rack.honest c.args.rack.now) (g.R.Rack.disk c.args.rack.now)) c.report_of_ordering.ensures.report

pub returns-in-Ordering-clause-left : goal.returns-in-Ordering-clause-left
returns-in-Ordering-clause-left g c = λ told. c.report_of_ordering.ensures.left told (g.R.Rack.honest c.args.rack.now) (g.R.Rack.disk c.args.rack.now)
