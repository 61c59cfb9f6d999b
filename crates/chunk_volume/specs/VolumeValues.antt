-- Volumes as contracts see them.
use Rattle.std.specs.Prelude.{ℕ, refl}
use Rattle.std.specs.Coded.{Coded, code_by, coded×, coded_ℕ}
use Rattle.chunk_log.specs.LogValues.{LogValue, log_code}
use Rattle.site_forms.specs.Volumes.{Shape}
use Rattle.volume_index.specs.HoldingValues.{Places, shape_code, lengths_code}

-- how many more chunks and files have room, and how long a record's body may be, so that no memory is wanted
pub record Room : Type 0 where
  pub chunks : ℕ
  pub files : ℕ
  pub body : ℕ

-- a volume: what it holds, where the bytes of its chunks are, its log, and its spare room. Its log is spent once a call of
-- the rack has failed in a call that writes.
pub record VolumeValue : Type 0 where
  pub shape : Shape
  pub places : Places
  pub log : LogValue
  pub room : Room

-- as pairs
abbrev pub room_code : Coded Room
room_code = code_by (ℕ × (ℕ × ℕ)) (coded× coded_ℕ (coded× coded_ℕ coded_ℕ)) (λ r. (r.chunks, (r.files, r.body))) (λ p. record { chunks = p.0; files = p.1.0; body = p.1.1 }) (λ _. refl)

abbrev pub volume_code : Coded VolumeValue
volume_code =
    code_by (Shape × (Places × (LogValue × Room))) (coded× shape_code (coded× lengths_code (coded× log_code room_code))) (λ v. (v.shape, (v.places, (v.log, v.room))))
    (λ p. record { shape = p.0; places = p.1.0; log = p.1.1.0; room = p.1.1.1 }) (λ _. refl)
