use Rattle.std.proofs.Common.{◌≡◌, true, false, sym, ◌∙◌, ap, subst}
use Rattle.std.proofs.lemmas.Result.{IfOk-weaker}
use Rattle.std.specs.FinMap as map
use Rattle.site_forms.specs.Views.{joined_files}
use Rattle.site_forms.specs.Volumes.{Files, Shape}
use Rattle.site_core.specs.Fitting.{counts_keep, AddsFiles, Merges}
use Rattle.site_core.proofs.Fitting.{joined_empty, first_among, merges_from}
use Rattle.site_core.proofs.Merging.{more_fail}
use Rattle.site_core.proofs.merged.merge.Goals as goal

pub returns-then-not-branch : goal.returns-then-not-branch
returns-then-not-branch c =
    let a = c.args.a.now.shape in
    let cur = c.add_chunks-2.new.index.shape in
    let none : cur.files ≡ map.empty = c.in_ok-add_chunks-2.ensures.files ∙ c.in_ok-add_chunks.ensures.files ∙ ap (λ (s : Shape). s.files) c.requires in
    let fails : AddsFiles cur a c.add_files.new.index.shape false = subst (AddsFiles cur a c.add_files.new.index.shape) c.if-not-branch.true c.in_ok-add_files.ensures in
    more_fail a.files (joined_files a.files c.args.b.now.shape.files) (first_among a.files c.args.b.now.shape.files)
    (ap counts_keep (sym (ap (λ (f : Files). joined_files f a.files) none ∙ joined_empty a.files)) ∙ fails)

pub returns : goal.returns
returns c =
    let a = c.args.a.now.shape in
    let cur = c.add_chunks-2.new.index.shape in
    let none : cur.files ≡ map.empty = c.in_ok-add_chunks-2.ensures.files ∙ c.in_ok-add_chunks.ensures.files ∙ ap (λ (s : Shape). s.files) c.requires in
    let added : AddsFiles cur a c.add_files.new.index.shape true = subst (AddsFiles cur a c.add_files.new.index.shape) c.if-not-branch.false c.in_ok-add_files.ensures in
    let now : c.add_files.new.index.shape.files ≡ a.files = added.0 ∙ ap (λ (f : Files). joined_files f a.files) none ∙ joined_empty a.files in
    IfOk-weaker c.add_files-2.result (AddsFiles c.add_files.new.index.shape c.args.b.now.shape c.add_files-2.new.index.shape) (Merges a c.args.b.now.shape c.add_files-2.new.index.shape)
    (λ is adds. merges_from a c.args.b.now.shape c.add_files.new.index.shape c.add_files-2.new.index.shape is now adds) c.add_files-2.ensures
