-- What callers see of a list in blocks.
use Rattle.std.specs.Prelude.{ℕ, ◌≡◌, ◌≤◌, List, refl}
use Rattle.std.specs.Coded.{Coded, code_by, coded×, coded_ℕ, coded_list}

-- the numbers, and how many more can be put in without memory
pub record TieredValue : Type 0 where
  pub items : List ℕ
  pub room : ℕ

abbrev pub tiered_code : Coded TieredValue
tiered_code = code_by (List ℕ × ℕ) (coded× (coded_list coded_ℕ) coded_ℕ) (λ v. (v.items, v.room)) (λ t. record { items = t.0; room = t.1 }) (λ _. refl)

-- the same numbers, with no less room
pub record IsSameList (old new : TieredValue) : Type 0 where
  pub items : new.items ≡ old.items
  pub room : old.room ≤ new.room
