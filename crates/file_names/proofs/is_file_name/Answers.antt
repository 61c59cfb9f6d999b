use Rattle.std.proofs.Common.{◌∙◌, sym, ap, refl, not}
use Rattle.file_names.specs.FileNames.{StartsWithMark}
use Rattle.file_names.proofs.Marks.{unmarked_bytes, name_from, plain_name, not_true}
use Rattle.file_names.proofs.is_file_name.Goals as goal

pub returns-then-starts_with_mark : goal.returns-then-starts_with_mark
returns-then-starts_with_mark c =
    let bytes = c.as_bytes-bytes.ensures.value in
    let marked = c.if-starts_with_mark.ensures.0 refl in
    (λ no. cc, λ h. absurd (unmarked_bytes c.args.name.now h (marked.0, sym bytes ∙ marked.1)))

pub returns : goal.returns
returns c =
    let bytes = c.as_bytes-bytes.ensures.value in
    let lawful = c.if-not-has_lawful_length.ensures.0 refl in
    let some = rw bytes at lawful.0 in
    let short = rw bytes at lawful.1 in
    let unmarked : ¬ StartsWithMark c.args.name.now = λ s. let no = c.if-starts_with_mark.ensures.1 (s.0, bytes ∙ s.1) in cc in (
      λ yes. name_from c.args.name.now c.utf8.name some short unmarked (sym c.has_control.ensures ∙ not_true c.has_control.result yes),
      λ h. ap not (c.has_control.ensures ∙ plain_name c.args.name.now h),
    )
