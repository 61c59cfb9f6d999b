-- Frames: a body with its gates, ready to be written.
use Rattle.std.specs.Prelude.{◌≡◌, ℕ, ◌+◌, ◌-◌, ◌^◌, ◌≤◌, List, ◌∷◌, length, take, drop, Vec, vec_capacity, refl}
use Rattle.std.specs.declared.alloc.Global.{Global}
use Rattle.std.specs.Coded.{Coded, code_by, coded×, coded_ℕ, coded_list}
use Rattle.site_forms.specs.Logs.{framed}

-- the longest body that fits, and the body that was set; none was set where it is empty
pub record FrameValue : Type 0 where
  pub room : ℕ
  pub body : List ℕ

-- a frame as a pair
abbrev pub frame_code : Coded FrameValue
frame_code = code_by (ℕ × List ℕ) (coded× coded_ℕ (coded_list coded_ℕ)) (λ f. (f.room, f.body)) (λ p. record { room = p.0; body = p.1 }) (λ _. refl)

-- the body between the open gate with the length in front and the closed gate behind it
abbrev pub body_in : List ℕ → List ℕ
body_in bytes = take (length bytes - 6) (drop 5 bytes)

-- the bytes of a frame have room, and are those of its body once one was set
pub record KeepsFrame (room : ℕ) (bytes : Vec ℕ Global) : Type 0 where
  pub most : room ≤ 2 ^ 24
  pub capacity : room + 6 ≤ vec_capacity bytes
  pub fits : length (body_in bytes.items) ≤ room
  pub spelled : 1 ≤ length (body_in bytes.items) → bytes.items ≡ 1 ∷ framed (body_in bytes.items)
