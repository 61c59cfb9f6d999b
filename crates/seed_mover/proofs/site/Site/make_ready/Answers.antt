use Rattle.std.proofs.Common.{sym, subst}
use Rattle.std.specs.Prelude.{Ok, Err}
use Rattle.seed_mover.specs.DropParts.{ReadiesDrop}
use Rattle.site_runs.specs.SiteValues.{SiteValue}
use Rattle.seed_mover.proofs.DropRuns.{held_on, no_memory, not_readied, now_holder, readied}
use Rattle.seed_mover.proofs.site.Site.make_ready.Goals as goal

pub judge_drop-requires : goal.judge_drop-requires
judge_drop-requires c =
    let w = c.reserve_drop.new.self in
    held_on c.args.side w c.args.name.now (now_holder c.args.self.now w c.args.side c.args.name.now c.requires.fresh c.requires.idle c.requires.holder c.reserve_drop.ensures.same)

pub returns-in-Err : goal.returns-in-Err
returns-in-Err c = no_memory c.args.self.now c.reserve_drop.new.self c.args.side c.args.name.now c.requires.fresh c.requires.idle c.requires.holder c.reserve_drop.ensures.same

pub returns-in-Ok-judge_drop : goal.returns-in-Ok-judge_drop
returns-in-Ok-judge_drop c =
    let v = c.args.self.now in
    let w = c.reserve_drop.new.self in
    let name = c.args.name.now in
    let side = c.args.side in
    subst (λ (x : SiteValue). ReadiesDrop v x name (Ok side)) (sym c.in-Ok-judge_drop.ensures.same)
    (readied v w side name c.requires.fresh c.requires.idle c.requires.holder c.reserve_drop.ensures.same c.in-Ok.ensures.room c.in-Ok-judge_drop.ensures.room)

pub returns-in-Err-judge_drop : goal.returns-in-Err-judge_drop
returns-in-Err-judge_drop c =
    let v = c.args.self.now in
    let w = c.reserve_drop.new.self in
    let name = c.args.name.now in
    let side = c.args.side in
    subst (λ (x : SiteValue). ReadiesDrop v x name (Err c.in-Err-judge_drop.error)) (sym c.in-Err-judge_drop.ensures.same)
    (not_readied v w side name c.requires.fresh c.requires.idle c.requires.holder c.reserve_drop.ensures.same c.in-Err-judge_drop.error c.in-Err-judge_drop.ensures.room)
