use Rattle.std.proofs.Common.{◌≡◌, ◌+◌, ◌++◌, ℕ, List, [], Some, Result, Vec, get_or, sym, ◌∙◌, ap, subst}
use Rattle.std.specs.Prelude.{is_some}
use Rattle.std.specs.declared.alloc.Global.{Global}
use Rattle.std.specs.FinMap as map
use Rattle.device_pieces.proofs.Quiets.{quiet_then}
use Rattle.chunk_volume.specs.declared.errors.VolError.{VolError}
use Rattle.chunk_volume.specs.declared.errors.VolError.TheVariants.{Memory}
use Rattle.chunk_volume.specs.ReadingVolumes.{ReadsFile, FindsFile}
use Rattle.chunk_volume.specs.VolumeValues.{VolumeValue}
use Rattle.chunk_volume.proofs.Adding.{handed}
use Rattle.chunk_volume.proofs.Files.{PiecesRead, PiecesFound, file_list, chunk_held, pieces_more, found_more, piece_held, file_read, file_found, file_refused, file_bad}
use Rattle.chunk_volume.proofs.Puts.{place_inside}
use Rattle.chunk_volume.proofs.Writing.{stands_quiet}
use Rattle.volume_index.specs.HoldingValues.{KeepsShape}
use Rattle.chunk_volume.proofs.volume.Volume.read_file.Goals as goal

pub file_chunks-list-requires : goal.file_chunks-list-requires
file_chunks-list-requires g c = place_inside c.self.inside.holding.shape.files c.in-Some.place c.args.name.now c.in-Some.ensures

pub read_held-requires : goal.read_held-requires
read_held-requires g c =
    let v = c.args.self.now in
    let name = c.args.name.now in
    let list = c.file_chunks-list.result.now in
    let is : map.get v.shape.files name ≡ Some list = ap (λ (x : VolumeValue). map.get x.shape.files name) (sym c.self.view_is) ∙ file_list c.self.inside.holding.shape.files c.in-Some.place name list c.in-Some.ensures c.file_chunks-list.ensures.list in
    chunk_held v.shape name list c.chunks.chunk-index (subst (λ (x : VolumeValue). KeepsShape x.shape) c.self.view_is c.file_count-files.ensures.keeps) is c.chunks-test.true

pub returns-in_err-read_held-clause-reads : goal.returns-in_err-read_held-clause-reads
returns-in_err-read_held-clause-reads g c =
    let v = c.args.self.now in
    let name = c.args.name.now in
    let list = c.file_chunks-list.result.now in
    let error = c.in_err-read_held.field-0.0 in
    let is : map.get v.shape.files name ≡ Some list = ap (λ (x : VolumeValue). map.get x.shape.files name) (sym c.self.view_is) ∙ file_list c.self.inside.holding.shape.files c.in-Some.place name list c.in-Some.ensures c.file_chunks-list.ensures.list in
    handed c.from_residual.result error (λ (x : Result (Vec ℕ Global) VolError). ReadsFile v name x) c.from_residual.ensures.1
    (file_refused v name list c.chunks.chunk-index c.read_held.new.piece.items error is c.chunks-test.true c.in_err-read_held.ensures.held)

pub returns-in_err-read_held-clause-found : goal.returns-in_err-read_held-clause-found
returns-in_err-read_held-clause-found g c = λ place volume honest stands.
    let v = c.args.self.now in
    let name = c.args.name.now in
    let list = c.file_chunks-list.result.now in
    let error = c.in_err-read_held.field-0.0 in
    let inv = c.chunks.invariant in
    let d = g.R.Rack.disk c.args.rack.now in
    let m = g.R.Rack.disk c.chunks.rack in
    let held = c.in_err-read_held.ensures.held in
    let is : map.get v.shape.files name ≡ Some list = ap (λ (x : VolumeValue). map.get x.shape.files name) (sym c.self.view_is) ∙ file_list c.self.inside.holding.shape.files c.in-Some.place name list c.in-Some.ensures c.file_chunks-list.ensures.list in
    handed c.from_residual.result error (λ (x : Result (Vec ℕ Global) VolError). FindsFile volume name x) c.from_residual.ensures.1
    (file_bad place v m volume name list c.chunks.chunk-index c.chunks.bytes.items c.read_held.new.piece.items error (stands_quiet place v volume d m (inv.quiet honest).same stands) is c.chunks-test.true (inv.found place volume honest stands) held
    (c.in_err-read_held.ensures.bytes held.at held.len (inv.honest ∙ honest) held.placed held.long))

pub returns-in_err-extend_from_slice-clause-reads : goal.returns-in_err-extend_from_slice-clause-reads
returns-in_err-extend_from_slice-clause-reads g c =
    let v = c.args.self.now in
    let name = c.args.name.now in
    let list = c.file_chunks-list.result.now in
    let is : map.get v.shape.files name ≡ Some list = ap (λ (x : VolumeValue). map.get x.shape.files name) (sym c.self.view_is) ∙ file_list c.self.inside.holding.shape.files c.in-Some.place name list c.in-Some.ensures c.file_chunks-list.ensures.list in
    handed c.from_residual-in_err-extend_from_slice.result Memory (λ (x : Result (Vec ℕ Global) VolError). ReadsFile v name x) c.from_residual-in_err-extend_from_slice.ensures.1 (ap is_some is)

pub chunks-preserved : goal.chunks-preserved
chunks-preserved g c =
    let rack = g.R.Rack in
    let v = c.args.self.now in
    let list = c.file_chunks-list.result.now in
    let i = c.chunks.chunk-index in
    let inv = c.chunks.invariant in
    let d = rack.disk c.args.rack.now in
    let m = rack.disk c.chunks.rack in
    let held = c.in_ok-read_held.ensures.held in
    let piece = c.read_held.new.piece.items in
    let joined : c.extend_from_slice.new.self.items ≡ c.chunks.bytes.items ++ piece = c.in_ok-extend_from_slice.ensures.items ∙ ap (λ (l : List ℕ). c.chunks.bytes.items ++ l) c.as_slice.ensures.value in
    record {
      count = c.in_ok-read_held.ensures.cause.kept (λ same. cc) ∙ inv.count;
      honest = c.in_ok-read_held.ensures.honest ∙ inv.honest;
      quiet = λ honest.
          quiet_then rack.moment rack.left_since c.args.rack.now c.chunks.rack c.read_held.new.rack _ _ _ (λ t x le crash. g.met.R.Rack.counts_now _ t x (inv.honest ∙ honest) le crash) (inv.quiet honest)
          (c.in_ok-read_held.ensures.quiet (inv.honest ∙ honest));
      read = subst (λ (l : List ℕ). PiecesRead list (i + 1) l) (sym joined) (pieces_more list i c.chunks.bytes.items piece c.chunks-test.true held.reads.1 inv.read);
      found = λ place volume honest stands.
          subst (λ (l : List ℕ). PiecesFound volume list (i + 1) l) (sym joined)
          (found_more volume list i c.chunks.bytes.items piece c.chunks-test.true
          (piece_held place v m volume (get_or list i []) piece (stands_quiet place v volume d m (inv.quiet honest).same stands) held (c.in_ok-read_held.ensures.bytes held.at held.len (inv.honest ∙ honest) held.placed held.long))
          held.reads.1 (inv.found place volume honest stands));
    }

pub returns-clause-reads : goal.returns-clause-reads
returns-clause-reads g c =
    let v = c.args.self.now in
    let name = c.args.name.now in
    let list = c.file_chunks-list.result.now in
    let is : map.get v.shape.files name ≡ Some list = ap (λ (x : VolumeValue). map.get x.shape.files name) (sym c.self.view_is) ∙ file_list c.self.inside.holding.shape.files c.in-Some.place name list c.in-Some.ensures c.file_chunks-list.ensures.list in
    file_read v name list c.chunks.chunk-index c.chunks.bytes is c.chunks-test.false c.chunks.invariant.read

pub returns-clause-found : goal.returns-clause-found
returns-clause-found g c = λ place volume honest stands.
    let v = c.args.self.now in
    let name = c.args.name.now in
    let list = c.file_chunks-list.result.now in
    let is : map.get v.shape.files name ≡ Some list = ap (λ (x : VolumeValue). map.get x.shape.files name) (sym c.self.view_is) ∙ file_list c.self.inside.holding.shape.files c.in-Some.place name list c.in-Some.ensures c.file_chunks-list.ensures.list in
    file_found place v (g.R.Rack.disk c.args.rack.now) volume name list c.chunks.chunk-index c.chunks.bytes stands is c.chunks-test.false (c.chunks.invariant.found place volume honest stands)
