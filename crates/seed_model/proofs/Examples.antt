-- The definitions on a table of five chunks: sizes 10, 20, 30, 7 and 5, used by the files 0 and 1, 0, 1, 1 and 2, and 2.
use Rattle.std.proofs.Common.{◌≡◌, ◌∷◌, [], ℕ, Bool, true, false, refl}
use Rattle.seed_model.specs.Files.{holds}
use Rattle.seed_model.specs.Tables.{TableValue}
use Rattle.seed_model.specs.Sums.{migrated_of, touched_of, replicated_of, total_of}

abbrev table : TableValue
table = record {
  files = 3;
  classes = record { size = 10; users = 0 ∷ 1 ∷ [] } ∷ record { size = 20; users = 0 ∷ [] } ∷ record { size = 30; users = 1 ∷ [] }
      ∷ record { size = 7; users = 1 ∷ 2 ∷ [] } ∷ record { size = 5; users = 2 ∷ [] } ∷ [];
}

-- a set of the three files
abbrev set : Bool → Bool → Bool → ℕ → Bool
set a b c = holds (a ∷ b ∷ c ∷ [])

all_bytes : total_of table ≡ 72
all_bytes = refl

none-migrates : migrated_of (set false false false) table ≡ 0
none-migrates = refl

none-replicates : replicated_of (set false false false) table ≡ 0
none-replicates = refl

none-touches : touched_of (set false false false) table ≡ 0
none-touches = refl

a-migrates : migrated_of (set true false false) table ≡ 20
a-migrates = refl

a-replicates : replicated_of (set true false false) table ≡ 10
a-replicates = refl

a-touches : touched_of (set true false false) table ≡ 30
a-touches = refl

b-migrates : migrated_of (set false true false) table ≡ 30
b-migrates = refl

b-replicates : replicated_of (set false true false) table ≡ 17
b-replicates = refl

b-touches : touched_of (set false true false) table ≡ 47
b-touches = refl

c-migrates : migrated_of (set false false true) table ≡ 5
c-migrates = refl

c-replicates : replicated_of (set false false true) table ≡ 7
c-replicates = refl

c-touches : touched_of (set false false true) table ≡ 12
c-touches = refl

ab-migrates : migrated_of (set true true false) table ≡ 60
ab-migrates = refl

ab-replicates : replicated_of (set true true false) table ≡ 7
ab-replicates = refl

ab-touches : touched_of (set true true false) table ≡ 67
ab-touches = refl

ac-migrates : migrated_of (set true false true) table ≡ 25
ac-migrates = refl

ac-replicates : replicated_of (set true false true) table ≡ 17
ac-replicates = refl

ac-touches : touched_of (set true false true) table ≡ 42
ac-touches = refl

bc-migrates : migrated_of (set false true true) table ≡ 42
bc-migrates = refl

bc-replicates : replicated_of (set false true true) table ≡ 10
bc-replicates = refl

bc-touches : touched_of (set false true true) table ≡ 52
bc-touches = refl

abc-migrates : migrated_of (set true true true) table ≡ 72
abc-migrates = refl

abc-replicates : replicated_of (set true true true) table ≡ 0
abc-replicates = refl

abc-touches : touched_of (set true true true) table ≡ 72
abc-touches = refl
