use Rattle.goseed_cli.proofs.exit_of.Goals as goal

pub returns-in-Ok-clause-ended : goal.returns-in-Ok-clause-ended
returns-in-Ok-clause-ended g c = rw c.in-Ok.is
    (let ran = rw c.deref.ensures.value at c.run.ensures in
    record { status = c.run.result; is = c.code_of.ensures; answer = ran.answer; cause = ran.cause; outside = ran.outside })
