use Rattle.std.proofs.Common.{◌≡◌, ℕ, List, None, true, sym, ◌∙◌, ap, arith}
use Rattle.std.specs.Prelude.{is_some, if◌then◌else◌}
use Rattle.std.proofs.lemmas.List.{take_all}
use Rattle.site_forms.specs.Sites.{HoldsFile}
use Rattle.site_core.proofs.Fitting.{each_listed}
use Rattle.std.specs.FinMap as map
use Rattle.std.proofs.lemmas.Bool.{true≢false}
use Rattle.std.proofs.lemmas.Option.{slice_get_within, get_or_from_slice_get}
use Rattle.site_forms.specs.Names.{is_listed}
use Rattle.volume_index.proofs.IndexReads.{lacking_by_place}
use Rattle.site_core.proofs.Keeping.{all_pass}
use Rattle.site_core.proofs.Maps.{used_by}
use Rattle.site_core.proofs.Lists.{listed_at}
use Rattle.site_core.proofs.Merging.{named_lacks, copy_fits, file_there}
use Rattle.site_core.proofs.Searching.{place_within}
use Rattle.site_core.proofs.merged.add_named.Goals as goal

pub names-init : goal.names-init
names-init c = record { files = λ name. ap (λ m. map.get m name) c.requires.empty ∙ map.get-empty _ name; chunks = c.requires.chunks; held = λ i less. absurd (omega (arith, less)) }

pub returns-in_default : goal.returns-in_default
returns-in_default c = λ all.
    let name = c.get-name.result.now in
    let listed : is_listed c.args.names.now name ≡ true = ap (is_listed c.args.names.now) (sym (get_or_from_slice_get c.args.names.now c.names.place name _ c.get-name.ensures.name)) ∙ listed_at c.args.names.now c.names.place (slice_get_within c.args.names.now c.names.place name c.get-name.ensures.name) in
    true≢false (sym (all name listed) ∙ lacking_by_place c.args.whole.now.shape.files name c.find.result c.find.ensures (ap is_some c.in_default.is))

pub file_chunks-requires : goal.file_chunks-requires
file_chunks-requires c = place_within c.args.whole.now.shape.files c.get-name.result.now c.find.result c.in-Some.file c.find.ensures c.in-Some.is

pub add_copy-requires-clause-lacking : goal.add_copy-requires-clause-lacking
add_copy-requires-clause-lacking c = named_lacks c.args.whole.now.shape c.args.names.now c.names.place c.get-name.result.now c.file_chunks.result.now c.get-name.ensures.name
    (file_there c.args.whole.now.shape c.get-name.result.now c.find.result c.in-Some.file c.file_chunks.result.now c.find.ensures c.in-Some.is c.file_chunks.ensures.list)
    c.names.index.shape.files c.requires.distinct c.names.invariant.files

pub add_copy-requires-clause-held : goal.add_copy-requires-clause-held
add_copy-requires-clause-held c = all_pass (map.contains_key c.names.index.shape.chunks) c.file_chunks.result.now (λ q uses. c.names.invariant.chunks q
    (used_by c.args.whole.now.shape.files c.get-name.result.now c.file_chunks.result.now q
    (file_there c.args.whole.now.shape c.get-name.result.now c.find.result c.in-Some.file c.file_chunks.result.now c.find.ensures c.in-Some.is c.file_chunks.ensures.list) uses))

pub names-preserved : goal.names-preserved
names-preserved c = copy_fits c.args.whole.now.shape c.names.index.shape c.add_copy.new.index.shape c.args.names.now c.names.place c.get-name.result.now c.file_chunks.result.now c.in_ok-add_copy.field-0 c.file_count-files.ensures.keeps c.get-name.ensures.name
    (file_there c.args.whole.now.shape c.get-name.result.now c.find.result c.in-Some.file c.file_chunks.result.now c.find.ensures c.in-Some.is c.file_chunks.ensures.list) c.names.invariant c.in_ok-add_copy.ensures

pub returns : goal.returns
returns c = (
  λ name. c.names.invariant.files name ∙ ap (λ (l : List (List ℕ)). if is_listed l name then map.get c.args.whole.now.shape.files name else None) (take_all c.names.place c.args.names.now (omega (arith, c.names-test.false, c.len-place-end.ensures.count))),
  each_listed (HoldsFile c.args.whole.now.shape) c.args.names.now (λ j inside. c.names.invariant.held j (omega (arith, inside, c.names-test.false, c.len-place-end.ensures.count))),
)
