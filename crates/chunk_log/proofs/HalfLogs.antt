-- The log of a half that is opened.
use Rattle.std.proofs.Common.{◌≡◌, ℕ, ◌+◌, ◌≤◌, List, Some, Result, Ok, Err, sym, ◌∙◌, ap, subst, arith}
use Rattle.std.specs.Result.{IsErrAnd}
use Rattle.volume_disk.specs.Medium.{Medium, at_rest}
use Rattle.volume_disk.specs.Disk.{Disk, SameElsewhere}
use Rattle.site_forms.specs.Halves.{Half, device as half_device, in_force as half_in_force}
use Rattle.site_forms.specs.Halves.Half.{First, Second}
use Rattle.site_forms.specs.Logs.{parse}
use Rattle.chunk_log.specs.declared.errors.LogError.{LogError}
use Rattle.chunk_log.specs.declared.errors.LogError.TheVariants.{RackFault as LogFault, Damage as LogDamage}
use Rattle.chunk_log.specs.LogValues.{LogValue}
use Rattle.chunk_log.specs.Opening.{Answers, OpenedAs, OpensLog}
use Rattle.chunk_log.specs.PlaceHalves.{IsHalf, IsHalfLog, IsHalfOf, NamesHalf}
use Rattle.chunk_log.proofs.PlaceHalves.{opened_place, place_stands, refused_place}

module _ (place dev limit : ℕ) (d m e : Disk) (is_place : place ≤ 2) where
  half_log : (half : Half) (log : LogValue) → dev ≡ half_device place half → half_in_force (d place).image (d (place + 3)).image ≡ Some half → m place ≡ at_rest (d place).image → m (place + 3) ≡ at_rest (d (place + 3)).image → SameElsewhere dev m e
      → Answers dev limit (Ok log) → OpensLog (m dev).image (e dev) (Ok log) → IsHalfLog d e place log
  half_log First log is force one two others answers opens =
      let x = (d place).image in
      let y = (d (place + 3)).image in
      let opened : OpenedAs x (e place) log.end = subst (λ (l : List ℕ). OpenedAs l (e place) log.end) (ap (λ (n : Medium). n.image) one) (subst (λ (n : ℕ). OpenedAs (m n).image (e n) log.end) is opens) in
      record {
        half = First;
        here = answers.0 ∙ is;
        is = force;
        bodies = opened.bodies;
        was = opened.told;
        now = ap (λ (n : ℕ). parse (e n).image) (answers.0 ∙ is) ∙ ap (λ (n : Medium). parse n.image) opened.rest ∙ opened.log.good;
        stands = place_stands First place x y d e log is_place force (answers.0 ∙ is) answers.2 (others (place + 3) (λ same. omega (arith, same, is)) ∙ two) opened;
      }
  half_log Second log is force one two others answers opens =
      let x = (d place).image in
      let y = (d (place + 3)).image in
      let opened : OpenedAs y (e (place + 3)) log.end = subst (λ (l : List ℕ). OpenedAs l (e (place + 3)) log.end) (ap (λ (n : Medium). n.image) two) (subst (λ (n : ℕ). OpenedAs (m n).image (e n) log.end) is opens) in
      record {
        half = Second;
        here = answers.0 ∙ is;
        is = force;
        bodies = opened.bodies;
        was = opened.told;
        now = ap (λ (n : ℕ). parse (e n).image) (answers.0 ∙ is) ∙ ap (λ (n : Medium). parse n.image) opened.rest ∙ opened.log.good;
        stands = place_stands Second place x y d e log is_place force (answers.0 ∙ is) answers.2 (others place (λ same. omega (arith, same, is)) ∙ one) opened;
      }

  pub half_opened : (half : Half) (result : Result LogValue LogError) → dev ≡ half_device place half → half_in_force (d place).image (d (place + 3)).image ≡ Some half → m place ≡ at_rest (d place).image → m (place + 3) ≡ at_rest (d (place + 3)).image → SameElsewhere dev m e
      → Answers dev limit result → OpensLog (m dev).image (e dev) result → IsHalfOf d e place result
  half_opened half (Ok log) is force one two others answers opens = half_log half log is force one two others answers opens
  half_opened half (Err (LogDamage device at)) is force one two others answers opens = opened_place half place dev limit d m e (Err (LogDamage device at)) is_place is force one two others answers opens
  half_opened half (Err LogFault) is force one two others answers opens = tt

half_refused : (d e : Disk) (place : ℕ) (error : LogError) → NamesHalf place (Err error) → IsHalf (d place).image (d (place + 3)).image place (Err error) → IsHalfOf d e place (Err error)
half_refused d e place LogFault named is = tt
half_refused d e place (LogDamage device at) named is = refused_place d e place (LogDamage device at) named is

-- a refusal that is handed on
pub half_handed : (d e : Disk) (place : ℕ) (error : LogError) (result : Result LogValue LogError) → IsErrAnd result (λ other. other ≡ error) → NamesHalf place (Err error) → IsHalf (d place).image (d (place + 3)).image place (Err error) → IsHalfOf d e place result
half_handed d e place error (Ok log) handed named is = absurd handed
half_handed d e place error (Err other) handed named is = subst (λ (x : LogError). IsHalfOf d e place (Err x)) (sym handed) (half_refused d e place error named is)
