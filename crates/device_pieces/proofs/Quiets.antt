-- Runs of calls that leave nothing new.
use Rattle.std.proofs.Common.{ℕ, ◌≤◌, refl, ◌∙◌}
use Rattle.volume_disk.specs.Disk.{Disk, Images, Crash, SameDisk}
use Rattle.volume_disk.specs.Time.{Elapses, Passes}
use Rattle.volume_disk.proofs.Moments.{begins, follows_on, holds_now}
use Rattle.volume_disk.proofs.Leads.{goes_on_same}
use Rattle.device_pieces.specs.Quiet.{Quiet}

module _ {D : Type 0} (moment : D → ℕ) (left_since : D → ℕ → Images → Type 0) where
  -- before the first call
  pub quiet_begins : (old : D) (d : Disk) → ((c : Images) → left_since old (moment old) c → Crash d c) → Quiet moment left_since old old d d
  quiet_begins old d only_now = record { same = λ k. refl; moments = begins moment left_since old (Crash d) only_now }

  -- one size or read
  pub quiet_call : (old new : D) (d e : Disk) → ((c : Images) → left_since old (moment old) c → Crash d c) → ((t : ℕ) (c : Images) → t ≤ moment old → Crash d c → left_since old t c)
      → Elapses (moment old) (moment new) (left_since old) (left_since new) (Crash e) → SameDisk d e → Quiet moment left_since old new d e
  quiet_call old new d e only_now counts time same = record { same = same; moments = goes_on_same moment left_since old old new (Crash d) d e counts (begins moment left_since old (Crash d) only_now) time same }

  -- quiet calls behind a run that has a property
  pub goes_on_quiet : (old mid new : D) (P : Images → Type 0) (d e : Disk) → ((t : ℕ) (c : Images) → t ≤ moment mid → Crash d c → left_since mid t c) → Passes moment left_since old mid P → Quiet moment left_since mid new d e → Passes moment left_since old new P
  goes_on_quiet old mid new P d e counts passes quiet = follows_on moment left_since old mid new P (Crash d) passes quiet.moments (λ c left. holds_now moment left_since old mid P (Crash d) counts passes c left)

  -- quiet calls behind quiet calls
  pub quiet_then : (old mid new : D) (d m e : Disk) → ((t : ℕ) (c : Images) → t ≤ moment mid → Crash m c → left_since mid t c) → Quiet moment left_since old mid d m → Quiet moment left_since mid new m e → Quiet moment left_since old new d e
  quiet_then old mid new d m e counts first second = record { same = λ k. second.same k ∙ first.same k; moments = goes_on_quiet old mid new (Crash d) m e counts first.moments second }
