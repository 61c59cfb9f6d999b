use Rattle.std.proofs.Common.{◌≡◌, ℕ, List, [], get_or, Some, true, refl, sym, ◌∙◌, ap, subst, arith}
use Rattle.std.specs.Prelude.{is_some, not}
use Rattle.std.specs.FinMap as map
use Rattle.std.specs.Bool.{nat_eq}
use lib.Pointwise.{pointwise}
use Rattle.std.proofs.lemmas.Bool.{true≢false, not-false}
use Rattle.std.proofs.lemmas.Option.{get_or_from_slice_get}
use Rattle.site_forms.specs.Sites.{HoldsFile}
use Rattle.volume_index.proofs.IndexReads.{lacking_by_place}
use Rattle.site_core.proofs.Fitting.{is_so, is_not, same_lists, list_itself}
use Rattle.site_core.proofs.Maps.{some_same}
use Rattle.site_core.proofs.Merging.{each_key, file_there}
use Rattle.site_core.proofs.Searching.{place_within, more_before}
use Rattle.site_core.proofs.fit.have_one_list.Goals as goal
use Rattle.site_core.proofs.fit.have_one_list.Goals.{in-Some+else-ne, in_default}

pub file_chunks-requires : goal.file_chunks-requires
file_chunks-requires c = place_within c.args.a.now.shape.files c.file_name.result.now c.find.result c.in-Some.other c.find.ensures c.in-Some.is

pub returns-then-ne : goal.returns-then-ne
returns-then-ne c =
    let a = c.args.a.now.shape in
    let b = c.args.b.now.shape in
    let name = c.file_name.result.now in
    let in_a = file_there a name c.find.result c.in-Some.other c.file_chunks.result.now c.find.ensures c.in-Some.is c.file_chunks.ensures.list in
    let in_b = file_there b name (Some c.files.place) c.files.place c.file_chunks-in-Some.result.now c.file_name.ensures.name refl c.file_chunks-in-Some.ensures.list in
    is_not (λ all.
    let same = some_same c.file_chunks.result.now c.file_chunks-in-Some.result.now (sym in_a ∙ all name (ap is_some in_a) (ap is_some in_b) ∙ in_b) in
    true≢false (sym c.if-ne.true ∙ c.ne.ensures ∙ ap not (subst (λ (l : List (List ℕ)). pointwise (pointwise nat_eq) c.file_chunks.result.now l ≡ true) same (list_itself c.file_chunks.result.now))))

pub files-preserved : goal.files-preserved
files-preserved c =
    let a = c.args.a.now.shape in
    let b = c.args.b.now.shape in
    let name = c.file_name.result.now in
    let key = get_or_from_slice_get (map.keys b.files) c.files.place name [] c.file_name.ensures.name in
    let here : HoldsFile a name → map.get a.files name ≡ map.get b.files name = elim c.match-find.branch [
      | in-Some+else-ne w ↦ λ _.
          let in_a = file_there a name c.find.result w.in-Some.other w.file_chunks.result.now c.find.ensures w.in-Some.is w.file_chunks.ensures.list in
          let in_b = file_there b name (Some c.files.place) c.files.place w.file_chunks-in-Some.result.now c.file_name.ensures.name refl w.file_chunks-in-Some.ensures.list in
          let same = same_lists w.file_chunks.result.now w.file_chunks-in-Some.result.now (not-false (pointwise (pointwise nat_eq) w.file_chunks.result.now w.file_chunks-in-Some.result.now) (sym w.ne.ensures ∙ w.if-ne.false)) in
          in_a ∙ ap Some same ∙ sym in_b
      | in_default w ↦ λ held. absurd (true≢false (sym held ∙ lacking_by_place a.files name c.find.result c.find.ensures (ap is_some w.in_default.is)))
    ] in
    more_before (λ (j : ℕ). HoldsFile a (get_or (map.keys b.files) j []) → map.get a.files (get_or (map.keys b.files) j []) ≡ map.get b.files (get_or (map.keys b.files) j [])) c.files.place c.files.invariant
    (subst (λ (q : List ℕ). HoldsFile a q → map.get a.files q ≡ map.get b.files q) (sym key) here)

pub returns : goal.returns
returns c = is_so (λ name in_a in_b. each_key c.args.b.now.shape.files (λ q. HoldsFile c.args.a.now.shape q → map.get c.args.a.now.shape.files q ≡ map.get c.args.b.now.shape.files q)
    (λ j inside. c.files.invariant j (omega (arith, inside, c.files-test.false, c.file_count-place-end.ensures.count))) name in_b in_a)
