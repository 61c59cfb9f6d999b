-- Calls that left the map as it was.
use Rattle.std.proofs.Common.{◌≡◌, List, ℕ, ap, Err}
use Rattle.seed_io.specs.Shelf.{Told, Creates, Appends}
use Rattle.seed_io.specs.declared.shelf.ShelfError.TheVariants.{Memory}

pub creates_nothing : (old new : Told) (name : List ℕ) → new ≡ old → Creates old new name (Err Memory)
creates_nothing old new name e = record {
  others = λ other ne. ap (λ (m : Told). m other) e;
  ok = tt;
  fault = λ f. cc f;
  memory = λ m. ap (λ (m : Told). m name) e;
}

pub appends_nothing : (old new : Told) (name bytes : List ℕ) → new ≡ old → Appends old new name bytes (Err Memory)
appends_nothing old new name bytes e = record {
  others = λ other ne. ap (λ (m : Told). m other) e;
  ok = tt;
  fault = λ f. cc f;
  memory = λ m. ap (λ (m : Told). m name) e;
}
