-- Which classes each sum of a set counts.
use Rattle.std.specs.Prelude.{ℕ, List, Bool, ◌&&◌, not}
use Rattle.std.specs.List.{list_all, list_any}
use Rattle.seed_model.specs.declared.sums.Part.{Part}
use Rattle.seed_model.specs.declared.sums.Part.TheVariants.{Migrated, Touched, Replicated}

-- all users, some user, or some but not all
abbrev pub counts : Part → (ℕ → Bool) → List ℕ → Bool
counts Migrated set users = list_all set users
counts Touched set users = list_any set users
counts Replicated set users = list_any set users && not (list_all set users)
