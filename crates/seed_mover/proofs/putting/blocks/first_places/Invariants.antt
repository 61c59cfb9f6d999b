use Rattle.std.proofs.Common.{◌≡◌, take}
use Rattle.std.specs.Prelude.{map as each}
use Rattle.seed_mover.specs.Blocks.{KeepsPlaces, place_in}
use Rattle.seed_mover.proofs.putting.blocks.first_places.Given as goal

abbrev pub invariant-loop-place : goal.invariant-loop-place
invariant-loop-place l = record { kept : KeepsPlaces l.places (take l.place l.names); firsts : l.firsts.items ≡ each (place_in l.names) (take l.place l.names) }
