use Rattle.std.proofs.Common.{◌≡◌, take}
use Rattle.seed_model.specs.Masks.{mask_of}
use Rattle.seed_model.proofs.best.users_mask.Given as goal

abbrev pub invariant-loop-user : goal.invariant-loop-user
invariant-loop-user l = l.mask ≡ mask_of (take l.user-index l.users)
