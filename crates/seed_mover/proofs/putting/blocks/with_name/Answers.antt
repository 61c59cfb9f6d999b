use Rattle.std.proofs.Common.{◌≡◌, Bool, true, ℕ, ◌+◌, Option, sym, ◌∙◌, ap, rules}
use Rattle.std.specs.Prelude.{if◌then◌else◌, not, is_some}
use Rattle.site_forms.specs.Volumes.{all_lists}
use Rattle.volume_index.proofs.Sets.{set_holds}
use Rattle.seed_mover.specs.Blocks.{is_lacking, is_unused, more_new}
use Rattle.seed_mover.proofs.PutCounts.{byte_of, not_back}
use Rattle.seed_mover.proofs.putting.blocks.with_name.Goals as goal

pub returns : goal.returns
returns c =
    let a = c.args.holding.now.shape in
    let name = c.args.name.now in
    let counts = c.args.counts in
    let first : c.args.is_first ≡ true = search rules in
    let unused : c.from.result ≡ (if is_unused a name then 1 else 0) = byte_of (not c.is_used.result) c.from.result c.from.ensures ∙ ap (λ (b : Bool). if not b then 1 else 0) (c.is_used.ensures ∙ set_holds (all_lists a.files) name) in
    let lacking : c.from-2.result ≡ (if is_lacking a name then 1 else 0) = byte_of c.is_none.result c.from-2.result c.from-2.ensures ∙ ap (λ (b : Bool). if b then 1 else 0) (not_back (is_some c.chunk_len.result) c.is_none.result c.is_none.ensures ∙ ap (λ (o : Option ℕ). not (is_some o)) c.chunk_len.ensures) in
    (λ i. record { names = counts.names + 1; unused = counts.unused + unused i; lacking = counts.lacking + lacking i })
    ∙ ap (λ (b : Bool). if b then more_new a counts name else counts) (sym first)
