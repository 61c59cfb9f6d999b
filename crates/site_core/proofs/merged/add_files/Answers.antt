use Rattle.std.proofs.Common.{◌+◌, true, sym, ◌∙◌, ap, subst, arith}
use Rattle.std.specs.Prelude.{not}
use Rattle.std.specs.FinMap as map
use Rattle.volume_index.proofs.IndexReads.{held_by_place, lacking_by_place}
use Rattle.site_core.proofs.Merging.{list_held, upto_step_same, upto_step_added, upto_added, upto_among, upto_end, more_fail}
use Rattle.site_forms.specs.Views.{joined_files}
use Rattle.site_core.specs.Fitting.{AddsCopy, HasUpto}
use Rattle.volume_index.specs.Indexes.{IndexValue}
use Rattle.site_core.proofs.merged.add_files.Goals as goal
use Rattle.site_core.proofs.merged.add_files.Goals.{then-is_none+in_ok-add_copy+else-not-branch, else-is_none}

pub add_copy-requires-clause-held : goal.add_copy-requires-clause-held
add_copy-requires-clause-held c = list_held c.args.holding.now.shape c.files.index.shape c.args.index.now.shape c.files.place c.file_name-name.result.now c.file_chunks.result.now c.file_count-place-end.ensures.keeps c.requires c.files.invariant.chunks c.file_name-name.ensures.name c.file_chunks.ensures.list

pub returns-then-not-branch : goal.returns-then-not-branch
returns-then-not-branch c =
    let old = c.args.index.now.shape in
    let other = c.args.holding.now.shape in
    let cur = c.files.index.shape in
    let name = c.file_name-name.result.now in
    let list = c.file_chunks.result.now in
    let lacks = lacking_by_place cur.files name c.find.result c.find.ensures (c.is_none.ensures ∙ ap not c.if-is_none.true) in
    let more = upto_added old.files other.files c.files.place name list c.file_name-name.ensures.name c.file_chunks.ensures.list cur.files c.files.invariant.files lacks in
    more_fail (map.insert cur.files name list) (joined_files old.files other.files) (upto_among old.files other.files (map.insert cur.files name list) (c.files.place + 1) more)
    (subst (AddsCopy cur name list c.add_copy.new.index.shape) c.if-not-branch.true c.in_ok-add_copy.ensures)

pub files-preserved : goal.files-preserved
files-preserved c =
    let old = c.args.index.now.shape in
    let other = c.args.holding.now.shape in
    let cur = c.files.index.shape in
    let name = c.file_name-name.result.now in
    elim c.if-is_none.branch [
      | then-is_none+in_ok-add_copy+else-not-branch w ↦
          let lacks = lacking_by_place cur.files name c.find.result c.find.ensures (c.is_none.ensures ∙ ap not w.if-is_none.true) in
          let added : AddsCopy cur name w.file_chunks.result.now w.add_copy.new.index.shape true = subst (AddsCopy cur name w.file_chunks.result.now w.add_copy.new.index.shape) w.if-not-branch.false w.in_ok-add_copy.ensures in
          subst (HasUpto old other (c.files.place + 1)) (sym (ap (λ (v : IndexValue). v.shape) w.index-is ∙ added))
          (upto_step_added old other cur c.files.place name w.file_chunks.result.now c.file_name-name.ensures.name w.file_chunks.ensures.list c.files.invariant lacks)
      | else-is_none w ↦
          let held = held_by_place cur.files name c.find.result c.find.ensures (c.is_none.ensures ∙ ap not w.if-is_none.false) in
          subst (HasUpto old other (c.files.place + 1)) (sym (ap (λ (v : IndexValue). v.shape) w.index-is)) (upto_step_same old other cur c.files.place name c.file_name-name.ensures.name c.files.invariant held)
    ]

pub returns : goal.returns
returns c = (
  upto_end c.args.index.now.shape.files c.args.holding.now.shape.files c.files.index.shape.files c.files.place (omega (arith, c.files-test.false, c.file_count-place-end.ensures.count)) c.files.invariant.files,
  c.files.invariant.chunks,
)
