-- A device and its bodies.
use Rattle.std.specs.Prelude.{◌≡◌, ◌≢◌, ◌⊎◌, ℕ, ◌+◌, ◌^◌, ◌≤◌, List, [], ◌∷◌, ◌++◌, length, Result, OnOk}
use Rattle.volume_disk.specs.Medium.{Medium, at_rest, written}
use Rattle.volume_disk.specs.Disk.{Disk, Images, Crash, SameElsewhere}
use Rattle.volume_disk.specs.Time.{Passes}
use Rattle.site_forms.specs.Logs.{parse, framed, IsLog, IsSameOrMore}
use Rattle.site_forms.specs.Logs.Parsed.{Good}

-- a device at rest with these bodies
pub record EndsAtRest (m : Medium) (bodies : List (List ℕ)) (gate : ℕ) : Type 0 where
  pub image : List ℕ
  pub rest : m ≡ at_rest image
  pub log : IsLog image bodies gate

-- an image with the block of a body behind the gate at its end, and that gate open
abbrev pub with_block : List ℕ → ℕ → List ℕ → List ℕ
with_block image gate body = written (written image (gate + 1) (framed body)) gate (1 ∷ [])

-- elsewhere as they are; at the device the same bodies, or one more
pub record OneBodyMoreAt (device : ℕ) (bodies : List (List ℕ)) (body : List ℕ) (gate : ℕ) (b c : Images) : Type 0 where
  pub elsewhere : (other : ℕ) → other ≢ device → c other ≡ b other
  pub before : parse (b device) ≡ Good bodies gate
  pub here : IsSameOrMore bodies body gate (c device)

-- elsewhere as they are; at the device the same bodies
pub record SameBodiesAt (device : ℕ) (bodies : List (List ℕ)) (gate : ℕ) (b c : Images) : Type 0 where
  pub elsewhere : (other : ℕ) → other ≢ device → c other ≡ b other
  pub before : parse (b device) ≡ Good bodies gate
  pub here : parse (c device) ≡ Good bodies gate

-- the frame of a body lasts behind the gate at the end, and nothing else has changed: the gate is not written yet
pub record IsFramed (device gate : ℕ) (body : List ℕ) (d m : Disk) : Type 0 where
  pub others : SameElsewhere device d m
  pub image : (image : List ℕ) → d device ≡ at_rest image → m device ≡ at_rest (written image (gate + 1) (framed body))

-- before the gate is written a crash leaves only what has P: at every moment of a call that failed before, or up to one at
-- which the frame lasts behind the gate
abbrev pub UntilGate : {D T E : Type 0} → (D → Disk) → (D → ℕ) → (D → ℕ → Images → Type 0) → D → D → Disk → ℕ → ℕ → List ℕ → (Images → Type 0) → Result T E → Type 0
UntilGate {D = D} disk moment left_since old new d device gate body P result =
    (OnOk result ⊥ × Passes moment left_since old new P)
    ⊎ ((framing : D) × IsFramed device gate body d (disk framing) × Passes moment left_since old framing P)

-- a body that is added to the log on a device at rest, below the place 2^40: no other device changes; once done the
-- device is at rest with its block, and so with one body more; and a crash at any moment leaves the same bodies or one
-- more, the same until the gate is written
pub record BodyAppended {D E : Type 0} (disk : D → Disk) (moment : D → ℕ) (left_since : D → ℕ → Images → Type 0) (old new : D) (d e : Disk) (device gate : ℕ) (body : List ℕ) (result : Result (Unit {0}) E) : Type 0 where
  pub others : SameElsewhere device d e
  pub image : (image : List ℕ) → d device ≡ at_rest image → OnOk result (e device ≡ at_rest (with_block image gate body))
  pub kept : (image : List ℕ) (bodies : List (List ℕ)) → gate + 6 + length body ≤ 2 ^ 40 → d device ≡ at_rest image → IsLog image bodies gate
      → OnOk result (EndsAtRest (e device) (bodies ++ body ∷ []) (gate + 5 + length body))
  pub moments : (image : List ℕ) (bodies : List (List ℕ)) → gate + 6 + length body ≤ 2 ^ 40 → d device ≡ at_rest image → IsLog image bodies gate
      → Passes moment left_since old new (λ c. (b : Images) × Crash d b × OneBodyMoreAt device bodies body gate b c)
  pub until : (image : List ℕ) (bodies : List (List ℕ)) → d device ≡ at_rest image → IsLog image bodies gate
      → UntilGate disk moment left_since old new d device gate body (λ c. (b : Images) × Crash d b × SameBodiesAt device bodies gate b c) result
