use Rattle.std.proofs.Common.{◌<◌, ℕ, Some, List, get_or, length, sym, [], ap, subst, arith}
use Rattle.std.specs.Prelude.{slice_get}
use Rattle.std.proofs.lemmas.Option.{get_or_from_slice_get, slice_get_within}
use Rattle.site_core.specs.Cursors.{IsCopied, FindsLacking}
use Rattle.site_core.proofs.Searching.{first_found, none_found, more_before, past_next}
use Rattle.site_core.proofs.search.first_to_copy.Goals as goal

pub returns-in-Some-clause-chunk : goal.returns-in-Some-clause-chunk
returns-in-Some-clause-chunk c =
    let s = c.args.source.now.shape in
    let t = c.args.target.now.shape in
    let found : FindsLacking s t (get_or c.args.names.now c.loop-place.place []) (Some c.in-Some.found) =
    subst (λ (n : List ℕ). FindsLacking s t n (Some c.in-Some.found)) (sym (get_or_from_slice_get c.args.names.now c.loop-place.place c.get.result.now [] c.get.ensures.name))
    (subst (FindsLacking s t c.get.result.now) c.in-Some.is c.lacking_of.ensures.finds) in
    sym (first_found s t c.args.names.now c.loop-place.place c.in-Some.found (slice_get_within c.args.names.now c.loop-place.place c.get.result.now c.get.ensures.name) c.loop-place.invariant.0.files found)

pub returns-in-Some-clause-before : goal.returns-in-Some-clause-before
returns-in-Some-clause-before c =
    let s = c.args.source.now.shape in
    let t = c.args.target.now.shape in
    let found : FindsLacking s t (get_or c.args.names.now c.loop-place.place []) (Some c.in-Some.found) =
    subst (λ (n : List ℕ). FindsLacking s t n (Some c.in-Some.found)) (sym (get_or_from_slice_get c.args.names.now c.loop-place.place c.get.result.now [] c.get.ensures.name))
    (subst (FindsLacking s t c.get.result.now) c.in-Some.is c.lacking_of.ensures.finds) in
    record { within = c.loop-place.invariant.0.within; files = c.loop-place.invariant.0.files; chunks = found.3 }

pub loop-place-preserved : goal.loop-place-preserved
loop-place-preserved c =
    let s = c.args.source.now.shape in
    let t = c.args.target.now.shape in
    let inside : c.loop-place.place < length c.args.names.now = slice_get_within c.args.names.now c.loop-place.place c.get.result.now c.get.ensures.name in (
      record {
        within = omega (arith, inside);
        files = more_before (λ (i : ℕ). IsCopied s t (get_or c.args.names.now i [])) c.loop-place.place c.loop-place.invariant.0.files
            (subst (IsCopied s t) (sym (get_or_from_slice_get c.args.names.now c.loop-place.place c.get.result.now [] c.get.ensures.name)) (subst (FindsLacking s t c.get.result.now) c.in_default.is c.lacking_of.ensures.finds));
        chunks = λ j less within. absurd (omega (arith, less));
      },
      past_next c.args.name c.args.chunk c.loop-place.place c.loop-place.from c.loop-place.invariant.1,
    )

pub returns-clause-chunk : goal.returns-clause-chunk
returns-clause-chunk c =
    let s = c.args.source.now.shape in
    let t = c.args.target.now.shape in
    sym (ap (λ (l : List (List ℕ)). slice_get l 0) (none_found s t c.args.names.now (λ k inside. c.loop-place.invariant.0.files k (omega (arith, inside, c.loop-place-test.false, c.len-count.ensures.count)))))
