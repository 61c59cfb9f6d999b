use Rattle.std.specs.Prelude.{◌≡◌, ◌≢◌, ℕ, ◌+◌, ◌^◌, ◌<◌, ◌≤◌, true, false, List, [], ◌∷◌, length, slice_index}
use Rattle.flow_net.specs.declared.pipes.Use.{Use}

-- no use of the path is of this pipe
abbrev pub Avoids : ℕ → List Use → Type 0
Avoids pipe [] = Unit {0}
Avoids pipe (u ∷ us) = (u.pipe ≢ pipe) × Avoids pipe us

-- the amount on a use's pipe can change by d
pub record CanMove (d : ℕ) (amounts : List ℕ) (u : Use) : Type 0 where
  pub known : u.pipe < length amounts
  pub takes : u.back ≡ true → d ≤ slice_index amounts u.pipe
  pub adds : u.back ≡ false → slice_index amounts u.pipe + d < 2 ^ 128

-- each use of the path can change the amount on its pipe by d, and no pipe is used twice
abbrev pub IsReady : ℕ → List ℕ → List Use → Type 0
IsReady d amounts [] = Unit {0}
IsReady d amounts (u ∷ us) = CanMove d amounts u × Avoids u.pipe us × IsReady d amounts us
