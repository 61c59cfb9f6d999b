use Rattle.std.proofs.Common.{arith, ◌∙◌, sym}
use Rattle.seed_model.specs.Files.{holds}
use Rattle.seed_model.specs.SumLaws.{AgreesBelow}
use Rattle.seed_model.specs.Masks.{in_mask}
use Rattle.seed_model.proofs.FirstBest.{first_best-agrees}
use Rattle.seed_model.proofs.best.try_all.Goals as goal

pub returns-in-Some-clause-found : goal.returns-in-Some-clause-found
returns-in-Some-clause-found c =
    let files = c.files.ensures.files in
    let same : AgreesBelow c.args.table.now.files (in_mask c.in-Some.mask) (holds c.in_ok-set-in-Some.set) = λ f lt. sym (c.in_ok-set-in-Some.ensures.same f (omega (arith, lt, files))) in (
      c.in_ok-set-in-Some.ensures.files ∙ files,
      first_best-agrees c.args.table.now c.args.range.now (in_mask c.in-Some.mask) (holds c.in_ok-set-in-Some.set) c.files.ensures.table same c.in-Some.ensures.found,
    )
