use Rattle.std.proofs.Common.{sym, subst}
use Rattle.site_core.specs.declared.action.Action.{Action}
use Rattle.seed_mover.specs.Acting.{Carries, CarriesOn}
use Rattle.seed_mover.proofs.site.Site.carry_out.Goals as goal

pub returns-in-CopyToB-clause-carries : goal.returns-in-CopyToB-clause-carries
returns-in-CopyToB-clause-carries g c = subst (λ (x : Action). Carries c.args.self.now c.copy.new.self x c.copy.result) (sym c.in-CopyToB.is) c.copy.ensures.carries

pub returns-in-CopyToB-clause-carried : goal.returns-in-CopyToB-clause-carried
returns-in-CopyToB-clause-carried g c = λ s honest stands is.
    let rack = g.R.Rack in
    subst (λ (x : Action). CarriesOn rack.disk rack.moment rack.left_since c.args.rack.now c.copy.new.rack c.args.self.now c.copy.new.self s x c.copy.result) (sym c.in-CopyToB.is) (c.copy.ensures.carried s honest stands is)

pub returns-in-AddToB-clause-carries : goal.returns-in-AddToB-clause-carries
returns-in-AddToB-clause-carries g c = subst (λ (x : Action). Carries c.args.self.now c.add.new.self x c.add.result) (sym c.in-AddToB.is) c.add.ensures.carries

pub returns-in-AddToB-clause-carried : goal.returns-in-AddToB-clause-carried
returns-in-AddToB-clause-carried g c = λ s honest stands is.
    let rack = g.R.Rack in
    subst (λ (x : Action). CarriesOn rack.disk rack.moment rack.left_since c.args.rack.now c.add.new.rack c.args.self.now c.add.new.self s x c.add.result) (sym c.in-AddToB.is) (c.add.ensures.carried s honest stands is)

pub returns-in-DropFromA-clause-carries : goal.returns-in-DropFromA-clause-carries
returns-in-DropFromA-clause-carries g c = subst (λ (x : Action). Carries c.args.self.now c.drop_at.new.self x c.drop_at.result) (sym c.in-DropFromA.is) c.drop_at.ensures.carries

pub returns-in-DropFromA-clause-carried : goal.returns-in-DropFromA-clause-carried
returns-in-DropFromA-clause-carried g c = λ s honest stands is.
    let rack = g.R.Rack in
    subst (λ (x : Action). CarriesOn rack.disk rack.moment rack.left_since c.args.rack.now c.drop_at.new.rack c.args.self.now c.drop_at.new.self s x c.drop_at.result) (sym c.in-DropFromA.is) (c.drop_at.ensures.carried s honest stands is)

pub returns-in-DropChunkA-clause-carries : goal.returns-in-DropChunkA-clause-carries
returns-in-DropChunkA-clause-carries g c = subst (λ (x : Action). Carries c.args.self.now c.drop_next.new.self x c.drop_next.result) (sym c.in-DropChunkA.is) c.drop_next.ensures.carries

pub returns-in-DropChunkA-clause-carried : goal.returns-in-DropChunkA-clause-carried
returns-in-DropChunkA-clause-carried g c = λ s honest stands is.
    let rack = g.R.Rack in
    subst (λ (x : Action). CarriesOn rack.disk rack.moment rack.left_since c.args.rack.now c.drop_next.new.rack c.args.self.now c.drop_next.new.self s x c.drop_next.result) (sym c.in-DropChunkA.is) (c.drop_next.ensures.carried s honest stands is)

pub returns-in-Moved-clause-carries : goal.returns-in-Moved-clause-carries
returns-in-Moved-clause-carries g c = subst (λ (x : Action). Carries c.args.self.now c.finish.new.self x c.finish.result) (sym c.in-Moved.is) c.finish.ensures.carries

pub returns-in-Moved-clause-carried : goal.returns-in-Moved-clause-carried
returns-in-Moved-clause-carried g c = λ s honest stands is.
    let rack = g.R.Rack in
    subst (λ (x : Action). CarriesOn rack.disk rack.moment rack.left_since c.args.rack.now c.finish.new.rack c.args.self.now c.finish.new.self s x c.finish.result) (sym c.in-Moved.is) (c.finish.ensures.carried s honest stands is)

pub returns-in-CopyToA-clause-carries : goal.returns-in-CopyToA-clause-carries
returns-in-CopyToA-clause-carries g c = subst (λ (x : Action). Carries c.args.self.now c.copy-in-CopyToA.new.self x c.copy-in-CopyToA.result) (sym c.in-CopyToA.is) c.copy-in-CopyToA.ensures.carries

pub returns-in-CopyToA-clause-carried : goal.returns-in-CopyToA-clause-carried
returns-in-CopyToA-clause-carried g c = λ s honest stands is.
    let rack = g.R.Rack in
    subst (λ (x : Action). CarriesOn rack.disk rack.moment rack.left_since c.args.rack.now c.copy-in-CopyToA.new.rack c.args.self.now c.copy-in-CopyToA.new.self s x c.copy-in-CopyToA.result) (sym c.in-CopyToA.is) (c.copy-in-CopyToA.ensures.carried s honest stands is)

pub returns-in-DropFromB-clause-carries : goal.returns-in-DropFromB-clause-carries
returns-in-DropFromB-clause-carries g c = subst (λ (x : Action). Carries c.args.self.now c.drop_at-in-DropFromB.new.self x c.drop_at-in-DropFromB.result) (sym c.in-DropFromB.is) c.drop_at-in-DropFromB.ensures.carries

pub returns-in-DropFromB-clause-carried : goal.returns-in-DropFromB-clause-carried
returns-in-DropFromB-clause-carried g c = λ s honest stands is.
    let rack = g.R.Rack in
    subst (λ (x : Action). CarriesOn rack.disk rack.moment rack.left_since c.args.rack.now c.drop_at-in-DropFromB.new.rack c.args.self.now c.drop_at-in-DropFromB.new.self s x c.drop_at-in-DropFromB.result) (sym c.in-DropFromB.is) (c.drop_at-in-DropFromB.ensures.carried s honest stands is)

pub returns-in-Undone-clause-carries : goal.returns-in-Undone-clause-carries
returns-in-Undone-clause-carries g c = subst (λ (x : Action). Carries c.args.self.now c.finish-in-Undone.new.self x c.finish-in-Undone.result) (sym c.in-Undone.is) c.finish-in-Undone.ensures.carries

pub returns-in-Undone-clause-carried : goal.returns-in-Undone-clause-carried
returns-in-Undone-clause-carried g c = λ s honest stands is.
    let rack = g.R.Rack in
    subst (λ (x : Action). CarriesOn rack.disk rack.moment rack.left_since c.args.rack.now c.finish-in-Undone.new.rack c.args.self.now c.finish-in-Undone.new.self s x c.finish-in-Undone.result) (sym c.in-Undone.is) (c.finish-in-Undone.ensures.carried s honest stands is)
