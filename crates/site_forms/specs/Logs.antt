-- The gated log: what the bytes of a device say.
--
-- At place 0 stands a gate, one byte. It is open exactly where it is 1. Behind an open gate come the length of a body in
-- four bytes, the most significant first, the body, and the next gate. The log ends at the first gate that is not open.
-- An image of one byte or none is blank: it has no bodies, whatever its byte.
use Rattle.std.specs.Prelude.{◌≡◌, ◌≢◌, ◌⊎◌, ℕ, zero, suc, ◌+◌, ◌^◌, ◌<◌, ◌≤◌, ◌==◌, Bool, ◌&&◌, nat_le, nat_lt, List, [], ◌∷◌, ◌++◌, length, take, drop, sum_by, slice_index, if◌then◌else◌}
use Rattle.std.specs.Int.{w32, from_be_bytes, to_be_bytes}

-- the bodies and the place of the gate that ends them, or the place of the gate at fault
pub data Parsed : Type 0 where
  Good : (bodies : List (List ℕ)) → (gate : ℕ) → Parsed
  Bad : (gate : ℕ) → Parsed

-- the length that is written behind a gate
abbrev pub body_length : List ℕ → ℕ
body_length rest = from_be_bytes w32 (take 4 rest)

-- behind an open gate at a place: a length of a body, and the body and the next gate lie inside the image and below 2^40
abbrev pub is_block : ℕ → List ℕ → Bool
is_block at rest =
    nat_le 4 (length rest)
    && (nat_le 1 (body_length rest)
    && (nat_le (body_length rest) (2 ^ 24) && (nat_lt (4 + body_length rest) (length rest) && nat_lt (at + 5 + body_length rest) (2 ^ 40))))

-- one body in front
abbrev pub more : List ℕ → Parsed → Parsed
more body (Good bodies gate) = Good (body ∷ bodies) gate
more body (Bad gate) = Bad gate

-- what the bytes from a gate on say; the first number is above the number of blocks
abbrev pub parse_from : ℕ → ℕ → List ℕ → Parsed
parse_from zero at rest = Bad at
parse_from (suc fuel) at [] = Bad at
parse_from (suc fuel) at (gate ∷ rest) =
    if gate == 1 then (if is_block at rest then more (take (body_length rest) (drop 4 rest)) (parse_from fuel (at + 5 + body_length rest) (drop (4 + body_length rest) rest)) else Bad at) else Good [] at

-- what an image says
abbrev pub parse : List ℕ → Parsed
parse image = if nat_le (length image) 1 then Good [] 0 else parse_from (length image) 0 image

-- an image with these bodies, whose gate at the end is there and closed
pub record IsLog (image : List ℕ) (bodies : List (List ℕ)) (place : ℕ) : Type 0 where
  pub good : parse image ≡ Good bodies place
  pub gate : place < length image
  pub closed : slice_index image place ≢ 1

-- what is written behind a gate: the length, the body and a closed gate
abbrev pub framed : List ℕ → List ℕ
framed body = to_be_bytes w32 (length body) ++ (body ++ 0 ∷ [])

-- how many bytes bodies take in a log: the place of the gate behind them
abbrev pub log_size : List (List ℕ) → ℕ
log_size bodies = sum_by (λ (body : List ℕ). 5 + length body) bodies

-- the blocks of bodies, one after the other
abbrev pub blocks : List (List ℕ) → List ℕ
blocks [] = []
blocks (body ∷ bodies) = 1 ∷ to_be_bytes w32 (length body) ++ (body ++ blocks bodies)

-- a body that a log may hold
pub record IsBody (body : List ℕ) : Type 0 where
  pub some : 1 ≤ length body
  pub most : length body ≤ 2 ^ 24

-- the same bodies, or one more
abbrev pub IsSameOrMore : List (List ℕ) → List ℕ → ℕ → List ℕ → Type 0
IsSameOrMore bodies body gate c = (parse c ≡ Good bodies gate) ⊎ (parse c ≡ Good (bodies ++ body ∷ []) (gate + 5 + length body))

-- an image with an open gate at a place, and behind it the length of a body and the body
pub record HasBodyAt (image : List ℕ) (gate : ℕ) (body : List ℕ) : Type 0 where
  pub is_open : slice_index image gate ≡ 1
  pub size : from_be_bytes w32 (take 4 (drop (gate + 1) image)) ≡ length body
  pub bytes : take (length body) (drop (gate + 5) image) ≡ body
