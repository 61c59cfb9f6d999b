-- What a volume holds, as its calls see it.
use Rattle.std.specs.Prelude.{◌≡◌, ℕ, ◌≤◌, Bool, refl}
use Rattle.std.specs.Coded.{Coded, code_by, coded×, coded_ℕ, coded_bool}
use Rattle.site_forms.specs.Volumes.{Shape}
use Rattle.volume_index.specs.HoldingValues.{Places, HoldingValue, shape_code, lengths_code}

-- what is held, where the bytes are, whether the chunks are in order, and how many more chunks and files have room
pub record IndexValue : Type 0 where
  pub shape : Shape
  pub places : Places
  pub is_ordered : Bool
  pub chunk_room : ℕ
  pub file_room : ℕ

abbrev pub index_code : Coded IndexValue
index_code =
    code_by (Shape × (Places × (Bool × (ℕ × ℕ)))) (coded× shape_code (coded× lengths_code (coded× coded_bool (coded× coded_ℕ coded_ℕ)))) (λ v. (v.shape, (v.places, (v.is_ordered, (v.chunk_room, v.file_room)))))
    (λ t. record { shape = t.0; places = t.1.0; is_ordered = t.1.1.0; chunk_room = t.1.1.1.0; file_room = t.1.1.1.1 }) (λ _. refl)

-- the same of a holding
abbrev pub held_in : IndexValue → HoldingValue
held_in v = record { shape = v.shape; places = v.places; chunk_room = v.chunk_room; file_room = v.file_room }

-- the same files and chunks, with no less room
pub record IsSameIndex (old new : IndexValue) : Type 0 where
  pub shape : new.shape ≡ old.shape
  pub places : new.places ≡ old.places
  pub ordered : new.is_ordered ≡ old.is_ordered
  pub chunks : old.chunk_room ≤ new.chunk_room
  pub files : old.file_room ≤ new.file_room

pub record IsSameHolding (old new : HoldingValue) : Type 0 where
  pub shape : new.shape ≡ old.shape
  pub places : new.places ≡ old.places
  pub chunks : old.chunk_room ≤ new.chunk_room
  pub files : old.file_room ≤ new.file_room
