-- The answer of a node: what its ends say, and what the slope that was found gives.
use Rattle.std.proofs.Common.{◌≡◌, ℕ, ◌-◌, ◌^◌, ◌<◌, Bool, List, cond, eqb, length, sym, ◌∙◌, ap, subst, arith}
use Rattle.std.specs.Int.{IsGcd}
use Rattle.seed_model.specs.declared.node.Node.{Node}
use Rattle.seed_model.specs.declared.node.Mix.{Mix}
use Rattle.seed_model.specs.declared.range.Range.{Range}
use Rattle.seed_model.specs.Files.{holds}
use Rattle.seed_model.specs.Ranges.{IsRange}
use Rattle.seed_model.specs.Tables.{TableValue, IsTable}
use Rattle.seed_model.specs.SumLaws.{AgreesBelow}
use Rattle.seed_model.specs.Sums.{migrated_of}
use Rattle.seed_model.specs.Nodes.{IsNode, smallest_member, largest_member}
use Rattle.seed_model.proofs.ClassSums.{files_alone}
use Rattle.bound_cert.specs.declared.multipliers.Multipliers.{Multipliers}
use Rattle.hull_bound.specs.declared.search.Corner.{Corner}
use Rattle.hull_bound.specs.declared.search.Found.{Found}
use Rattle.hull_bound.specs.Corners.{IsCorner, IsAimed}
use Rattle.hull_bound.specs.Forms.{AreMultipliersAt}
use Rattle.hull_bound.specs.Minima.{AreMinima}
use Rattle.hull_bound.specs.Relaxations.{IsSearchMix, IsRelaxation}
use Rattle.hull_bound.specs.Walks.{node_gives, multipliers_of}
use Rattle.hull_bound.proofs.Valued.{relaxed}

-- the bytes of the largest and of the smallest member
pub largest_migrates : (table : TableValue) (node : Node) (corner : Corner) (set : List Bool) → IsTable table → IsNode table.files node → IsCorner table corner → corner.set ≡ set
    → AgreesBelow (length node.outside) (largest_member node) (holds set) → corner.migrated ≡ migrated_of (largest_member node) table
largest_migrates table node corner set lawful one is e agrees =
    let same : AgreesBelow table.files (largest_member node) (holds corner.set) = λ f h. agrees f (omega (arith, h, one.outside)) ∙ ap (λ (s : List Bool). holds s f) (sym e) in
    is.migrates ∙ sym (files_alone table (largest_member node) (holds corner.set) lawful same).0

pub smallest_migrates : (table : TableValue) (node : Node) (corner : Corner) (set : List Bool) → IsCorner table corner → corner.set ≡ set → set ≡ node.inside
    → corner.migrated ≡ migrated_of (smallest_member node) table
smallest_migrates table node corner set is e inside = is.migrates ∙ ap (λ (s : List Bool). migrated_of (holds s) table) (e ∙ inside)

-- what the slope that was found gives
pub relaxation_of : (table : TableValue) (range : Range) (node : Node) (found : Found) (m : Multipliers) (mix : Mix) → IsTable table → IsRange range → IsAimed table range node found
    → m ≡ multipliers_of found.slope.p found.slope.q (node_gives found.slope.p table node found.minima.flow.amounts)
    → mix.first ≡ found.minima.least → mix.second ≡ found.minima.greatest
    → mix.alpha ≡ cond (eqb (migrated_of (holds found.minima.least) table) (migrated_of (holds found.minima.greatest) table)) 1 (migrated_of (holds found.minima.greatest) table - found.aim)
    → mix.beta ≡ found.aim - migrated_of (holds found.minima.least) table
    → mix.alpha < 2 ^ 51 → mix.beta < 2 ^ 51
    → IsRelaxation table range node m mix
relaxation_of table range node found m mix lawful fits f e_m e_first e_second e_alpha e_beta alpha_fits beta_fits =
    let p : ℕ = found.slope.p in
    let q : ℕ = found.slope.q in
    let plain : AreMultipliersAt table node p q m = rw e_m f.solved.gives in
    let same_p : m.p ≡ p = plain.over in
    let same_q : m.q ≡ q = plain.under in
    let at : AreMultipliersAt table node m.p m.q m =
    subst (λ (n : ℕ). AreMultipliersAt table node n m.q m) (sym same_p) (subst (λ (n : ℕ). AreMultipliersAt table node p n m) (sym same_q) plain) in
    let e1 : migrated_of (holds mix.first) table ≡ migrated_of (holds found.minima.least) table = ap (λ (s : List Bool). migrated_of (holds s) table) e_first in
    let e2 : migrated_of (holds mix.second) table ≡ migrated_of (holds found.minima.greatest) table = ap (λ (s : List Bool). migrated_of (holds s) table) e_second in
    let minima : AreMinima table p q node (holds mix.first) (holds mix.second) = rw (e_first, e_second) f.solved.are_minima in
    let search : IsSearchMix table range node p q mix =
    record {
      aim = found.aim;
      is_aim = f.is_aim;
      minima = minima;
      below = omega (arith, e1, f.below);
      above = omega (arith, e2, f.above);
      alpha = rw (e_first, e_second) e_alpha;
      beta = rw e_first e_beta;
    } in
    let moved : IsSearchMix table range node m.p m.q mix = rw (same_p, same_q) search in
    let lowest : IsGcd m.p m.q 1 = rw (same_p, same_q) f.lowest in
    relaxed table range node p q mix lawful fits search m at same_p same_q f.turns
    (ap (λ (s : List Bool). length s) e_first ∙ f.solved.least_files) (ap (λ (s : List Bool). length s) e_second ∙ f.solved.greatest_files) lowest moved alpha_fits beta_fits
