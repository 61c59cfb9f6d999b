-- What is offered as a plan.
use Rattle.std.proofs.Common.{◌≡◌, ℕ, Bool, Option, Some, None, List, length, sym, ◌∙◌, ap, subst, arith}
use Rattle.seed_model.specs.declared.node.Node.{Node}
use Rattle.seed_model.specs.declared.range.Range.{Range}
use Rattle.seed_model.specs.Files.{holds}
use Rattle.seed_model.specs.Ranges.{InRange}
use Rattle.seed_model.specs.Sums.{migrated_of, replicated_of}
use Rattle.seed_model.specs.Tables.{TableValue}
use Rattle.seed_model.specs.Nodes.{IsMember, IsAdmitted}
use Rattle.branch_bound.specs.declared.entry.Kept.{Kept}
use Rattle.branch_bound.specs.States.{IsKept, IsOffered, IsReached, KeepsBetter}

pub not_offered : (table : TableValue) (range : Range) (kept : Option Kept) (set : List Bool) → (InRange table range (holds set) → ⊥) → IsOffered table range kept set
not_offered table range kept set n = λ i. absurd (n i)

pub reached_offered : (table : TableValue) (range : Range) (kept : Option Kept) (set : List Bool) (bytes : ℕ) → IsReached bytes kept → bytes ≡ replicated_of (holds set) table → IsOffered table range kept set
reached_offered table range None set bytes r e = absurd r
reached_offered table range (Some k) set bytes r e = λ i. omega (arith, r, e)

pub new_offered : (table : TableValue) (range : Range) (k : Kept) (set : List Bool) → k.replicated ≡ replicated_of (holds set) table → IsOffered table range (Some k) set
new_offered table range k set e = λ i. omega (arith, e)

pub better_new : (kept : Option Kept) (k : Kept) (bytes : ℕ) → (IsReached bytes kept → ⊥) → k.replicated ≡ bytes → KeepsBetter kept (Some k)
better_new None k bytes n e = tt
better_new (Some old) k bytes n e = omega (arith, n, e)

pub new_kept : (table : TableValue) (range : Range) (root : Node) (k : Kept) (set : List Bool) → k.set ≡ set → length set ≡ table.files → k.migrated ≡ migrated_of (holds set) table → k.replicated ≡ replicated_of (holds set) table
    → InRange table range (holds set) → IsMember table.files root (holds set) → IsKept table range root k
new_kept table range root k set is files m r i member = record {
  files = ap (λ (z : List Bool). length z) is ∙ files;
  migrated = m ∙ ap (λ z. migrated_of (holds z) table) (sym is);
  replicated = r ∙ ap (λ z. replicated_of (holds z) table) (sym is);
  admitted = subst (λ z. IsAdmitted table range root (holds z)) (sym is) (record { member = member; in_range = i });
}
