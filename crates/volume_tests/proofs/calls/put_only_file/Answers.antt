use Rattle.std.proofs.Common.{rules, ◌≡◌, ℕ, List, [], ◌∷◌, true, sym, subst}
use Rattle.std.specs.FinMap as fin_map
use Rattle.std.specs.String.{string_bytes}
use Rattle.site_forms.specs.Volumes.{chunk_or, keeps_limits}
use Rattle.volume_tests.proofs.OneFile.{one_file_fits}
use Rattle.volume_tests.proofs.calls.put_only_file.Goals as goal

pub put_file-requires-clause-limits : goal.put_file-requires-clause-limits
put_file-requires-clause-limits c =
    let shape = c.args.volume.now.shape in
    let items : c.push.new.self.items ≡ c.args.chunk.now ∷ [] = search rules in
    subst (λ (l : List (List ℕ)). keeps_limits (λ chunk. chunk_or 0 shape chunk) (fin_map.insert shape.files (string_bytes c.args.name) l) ≡ true) (sym items) (one_file_fits shape (string_bytes c.args.name) c.args.chunk.now c.requires.none c.requires.held)
