-- What of a tree is left out of a certificate.
use Rattle.std.specs.Prelude.{ℕ, ◌+◌, ◌*◌, nat_lt, Bool, false, Option, Some, None}
use Rattle.seed_model.specs.Nodes.{weight_of}
use Rattle.branch_bound.specs.declared.entry.Relaxation.{Relaxation}
use Rattle.branch_bound.specs.declared.entry.Finding.{Finding}
use Rattle.branch_bound.specs.declared.entry.Finding.TheVariants.{Low, High, Valued}

-- a value reaches so many bytes: its ceiling is not below them
abbrev pub reaches : ℕ → Relaxation → Bool
reaches bytes r = nat_lt (bytes * weight_of r.mix) (r.worth + weight_of r.mix)

-- whether what lies below a branched node is left out: its value reaches the bound
abbrev pub is_cut : Option ℕ → Finding → Bool
is_cut None finding = false
is_cut (Some bytes) Low = false
is_cut (Some bytes) High = false
is_cut (Some bytes) (Valued r) = reaches bytes r
