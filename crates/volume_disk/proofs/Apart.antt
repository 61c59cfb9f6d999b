-- Devices are independent of one another. For the crates above.
use Rattle.std.proofs.Common.{◌≡◌, inl, inr, ℕ, List, Bool, sym, ap, subst, eq-eqb, ne_eqb}
use Rattle.std.specs.Prelude.{if◌then◌else◌}
use Rattle.std.proofs.lemmas.Bool.{cases_eq}
use Rattle.volume_disk.specs.Medium.{Medium, MayLeave}
use Rattle.volume_disk.specs.Disk.{Disk, Images, Crash, SameElsewhere, put_image}

pub put_here : (device other : ℕ) (image : List ℕ) (c : Images) → other ≡ device → put_image device image c other ≡ image
put_here device other image c here = ap (λ (b : Bool). if b then image else c other) (eq-eqb other device here)

pub put_elsewhere : (device other : ℕ) (image : List ℕ) (c : Images) → (other ≡ device → ⊥) → put_image device image c other ≡ c other
put_elsewhere device other image c elsewhere = ap (λ (b : Bool). if b then image else c other) (ne_eqb other device elsewhere)

-- where two disks differ at one device alone, a crash image of the second, with one of the first put there, is one of
-- the first
pub crash_elsewhere : (device : ℕ) (image : List ℕ) (d e : Disk) (c : Images) → SameElsewhere device d e → MayLeave (d device) image → Crash e c → Crash d (put_image device image c)
crash_elsewhere device image d e c others left crash = λ k is_device.
    elim (cases_eq k device) as (λ _. MayLeave (d k) (put_image device image c k)) [
      | inl here ↦ subst (λ (l : List ℕ). MayLeave (d k) l) (sym (put_here device k image c here)) (subst (λ (n : ℕ). MayLeave (d n) image) (sym here) left)
      | inr elsewhere ↦ subst (λ (l : List ℕ). MayLeave (d k) l) (sym (put_elsewhere device k image c elsewhere)) (subst (λ (m : Medium). MayLeave m (c k)) (others k elsewhere) (crash k is_device))
    ]
