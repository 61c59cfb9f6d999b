use Rattle.std.proofs.Common.{◌≡◌, ℕ, List, Bool, Option, true, false, sym, ◌∙◌, ap, subst}
use Rattle.std.specs.Prelude.{Ok, Err, is_some}
use Rattle.std.specs.FinMap as map
use Rattle.site_forms.specs.Volumes.{Shape}
use Rattle.volume_index.specs.HoldingCalls.{IsFilePlace}
use Rattle.volume_index.proofs.IndexReads.{held_by_place, lacking_by_place}
use Rattle.seed_mover.specs.declared.entries.Side.TheVariants.{A, B}
use Rattle.seed_mover.specs.declared.errors.SiteError.TheVariants.{NoSuchFile}
use Rattle.seed_mover.specs.DropParts.{JudgesDrop}
use Rattle.seed_mover.specs.SiteInside.{view_of}
use Rattle.site_runs.specs.SiteValues.{SiteValue}
use Rattle.seed_mover.proofs.DropRuns.{not_held}
use Rattle.seed_mover.proofs.site.Site.may_drop.Goals as goal

-- what was found in the holding of a volume
held_in : (shape now : Shape) (name : List ℕ) (place : Option ℕ) (some : Bool) → now ≡ shape → IsFilePlace now.files name place → some ≡ is_some place → some ≡ true → map.contains_key shape.files name ≡ true
held_in shape now name place some same is told test = ap (λ (s : Shape). map.contains_key s.files name) (sym same) ∙ held_by_place now.files name place is (sym told ∙ test)

lacking_in : (shape now : Shape) (name : List ℕ) (place : Option ℕ) (some : Bool) → now ≡ shape → IsFilePlace now.files name place → some ≡ is_some place → some ≡ false → map.contains_key shape.files name ≡ false
lacking_in shape now name place some same is told test = ap (λ (s : Shape). map.contains_key s.files name) (sym same) ∙ lacking_by_place now.files name place is (sym told ∙ test)

pub returns-then-is_some : goal.returns-then-is_some
returns-then-is_some c =
    let v = view_of c.self.inside in
    subst (λ (x : SiteValue). JudgesDrop x c.args.name.now (Ok A)) c.self.view_is
    (sym c.phase.ensures ∙ c.in-Idle.is, held_in v.a.shape c.holding.result.now.shape c.args.name.now c.find.result c.is_some.result c.holding.ensures.shape c.find.ensures c.is_some.ensures c.if-is_some.true)

pub returns-then-is_some-2 : goal.returns-then-is_some-2
returns-then-is_some-2 c =
    let v = view_of c.self.inside in
    subst (λ (x : SiteValue). JudgesDrop x c.args.name.now (Ok B)) c.self.view_is (
      sym c.phase.ensures ∙ c.in-Idle.is,
      (
        lacking_in v.a.shape c.holding.result.now.shape c.args.name.now c.find.result c.is_some.result c.holding.ensures.shape c.find.ensures c.is_some.ensures c.if-is_some.false,
        held_in v.b.shape c.holding-2.result.now.shape c.args.name.now c.find-2.result c.is_some-2.result c.holding-2.ensures.shape c.find-2.ensures c.is_some-2.ensures c.if-is_some-2.true,
      ),
    )

pub returns : goal.returns
returns c =
    let v = view_of c.self.inside in
    let name = c.args.name.now in
    subst (λ (x : SiteValue). JudgesDrop x name (Err NoSuchFile)) c.self.view_is (
      sym c.phase.ensures ∙ c.in-Idle.is,
      not_held v name (lacking_in v.a.shape c.holding.result.now.shape name c.find.result c.is_some.result c.holding.ensures.shape c.find.ensures c.is_some.ensures c.if-is_some.false)
          (lacking_in v.b.shape c.holding-2.result.now.shape name c.find-2.result c.is_some-2.result c.holding-2.ensures.shape c.find-2.ensures c.is_some-2.ensures c.if-is_some-2.false),
    )
