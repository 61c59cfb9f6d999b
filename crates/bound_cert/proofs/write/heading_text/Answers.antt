use Rattle.std.proofs.lemmas.Result.{on_ok_weaker}
use Rattle.bound_cert.proofs.Writing.{heading_written}
use Rattle.bound_cert.proofs.write.heading_text.Goals as goal

pub returns : goal.returns
returns c = on_ok_weaker c.push_bound.result (λ e.
    heading_written c.args.out.now.items c.push_title.new.out.items c.push_range.new.out.items c.push_pins.new.out.items c.push_answer.new.out.items c.push_plan.new.out.items c.push_bound.new.out.items c.args.heading.now
    c.in_ok-push_title.ensures c.in_ok-push_range.ensures c.in_ok-push_pins.ensures c.in_ok-push_answer.ensures c.in_ok-push_plan.ensures e) c.push_bound.ensures
