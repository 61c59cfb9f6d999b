-- Next actions, one after the other.
use Rattle.std.specs.Prelude.{◌≡◌, ◌⊎◌, ℕ, ◌+◌, ◌<◌, ◌≤◌, ⊤, true, false, List, [], ◌∷◌, length, Result, Ok, Err}
use Rattle.site_core.specs.declared.action.Action.{Action}
use Rattle.site_core.specs.Steps.{remaining}
use Rattle.site_runs.specs.SiteValues.{SiteValue}
use Rattle.seed_mover.specs.declared.errors.SiteError.{SiteError}
use Rattle.seed_mover.specs.declared.errors.SiteError.TheVariants.{Spent}
use Rattle.seed_mover.specs.Moving.{Acts, IsActed, IsOnTheWay, tells_damage}

-- each is the next action when it is done
abbrev pub HaveActed : SiteValue → SiteValue → List Action → Type 0
HaveActed v w [] = w ≡ v
HaveActed v w (action ∷ actions) = (u : SiteValue) × IsActed v u action × HaveActed u w actions

-- the actions that are left of a site
abbrev pub left_in : SiteValue → ℕ
left_in v = remaining v.a.shape v.b.shape v.journal.phase

-- so many actions are done, each leaves one less, and they are as many as were asked for, or no file is on the way any more
pub record HasActed (v w : SiteValue) (count n : ℕ) : Type 0 where
  pub actions : List Action
  pub acted : HaveActed v w actions
  pub long : length actions ≡ n
  pub most : n ≤ count
  pub ends : (n ≡ count) ⊎ ¬ IsOnTheWay w.journal.phase
  pub left : left_in w + n ≡ left_in v

-- fewer are done than were asked for, and one more comes to this end
pub record StopsActing (v w : SiteValue) (count : ℕ) (error : SiteError) : Type 0 where
  pub actions : List Action
  pub mid : SiteValue
  pub acted : HaveActed v mid actions
  pub fewer : length actions < count
  pub way : IsOnTheWay mid.journal.phase
  pub stops : Acts mid w (Err error)

abbrev pub ActsInTurn : SiteValue → SiteValue → ℕ → Result ℕ SiteError → Type 0
ActsInTurn v w count (Ok n) = HasActed v w count n
ActsInTurn v w count (Err error) = StopsActing v w count error

-- what a site is after next actions, at most so many, on every rack
pub record ActsMany (v w : SiteValue) (count : ℕ) (result : Result ℕ SiteError) : Type 0 where
  pub spent : v.spent ≡ true → (result ≡ Err Spent) × (w ≡ v)
  pub acts : v.spent ≡ false → ActsInTurn v w count result

-- no device and no chunk of a site is damaged
abbrev pub FindsNoDamage : Result ℕ SiteError → Type 0
FindsNoDamage (Ok n) = ⊤
FindsNoDamage (Err error) = tells_damage error ≡ false
