use Rattle.std.specs.Prelude.{◌≡◌, ℕ, ◌+◌, ◌-◌, ◌*◌, ◌<◌, ◌≤◌, Bool, true, false, if◌then◌else◌, List, [], ◌∷◌, length, slice_index}
use Rattle.flow_net.specs.declared.pipes.Pipe.{Pipe}
use Rattle.flow_net.specs.Nets.{FillingValue, pipe_at}
use Rattle.flow_net.specs.Flows.{out_of, into, IsSide}

-- an amount that counts where a test holds
abbrev pub part : Bool → ℕ → ℕ
part b d = if b then d else 0

-- what can still cross one pipe out of a set of nodes: what is free where it leaves, what it carries where it enters
abbrev pub across : Bool → Bool → ℕ → ℕ → ℕ
across true false room x = room - x
across false true room x = x
across true true room x = 0
across false false room x = 0

-- what can still cross the pipes out of a set of nodes
abbrev pub left_across : (ℕ → Bool) → List Pipe → List ℕ → ℕ
left_across s [] xs = 0
left_across s (p ∷ ps) [] = 0
left_across s (p ∷ ps) (x ∷ xs) = across (s p.from) (s p.to) p.room x + left_across s ps xs

-- the amounts are within the rooms
abbrev pub AreWithin : List Pipe → List ℕ → Type 0
AreWithin pipes amounts = (i : ℕ) → i < length pipes → slice_index amounts i ≤ (pipe_at pipes i).room

-- some value flows from source to sink: out of a set flows as much as into it, but for the value at its source and sink
pub record IsCarried (pipes : List Pipe) (source sink : ℕ) (amounts : List ℕ) : Type 0 where
  pub each : length amounts ≡ length pipes
  pub within : AreWithin pipes amounts
  pub value : ℕ
  pub balanced :
      (s : ℕ → Bool) → out_of s pipes amounts + part (s sink) value ≡ into s pipes amounts + part (s source) value

-- pushes that carry at least the power each: what can still cross any source side falls by the power for each
pub record Augments (pipes : List Pipe) (source sink power : ℕ) (old new : FillingValue) : Type 0 where
  pub rises : old.pushes ≤ new.pushes
  pub falls :
      (s : ℕ → Bool) → IsSide source sink s →
      new.pushes * power + left_across s pipes new.amounts ≤ old.pushes * power + left_across s pipes old.amounts
