use Rattle.std.proofs.Common.{◌+◌, sym, ◌∙◌, ap, subst, arith, refl, take}
use Rattle.std.specs.FinMap as map
use Rattle.std.proofs.lemmas.List.{get_or_default}
use Rattle.volume_index.specs.declared.chunk_table.ListCounts.{ListCounts}
use Rattle.volume_index.specs.ChunkTables.{Entries, MarksList}
use Rattle.volume_index.proofs.Sets.{count_none}
use Rattle.volume_index.proofs.Marks.{mark_more, marks_none, counts_more, few_more}
use Rattle.volume_index.proofs.chunk_table.ChunkTable.mark.Goals as goal

pub loop-name-init : goal.loop-name-init
loop-name-init c = record {
  marks = marks_none c.args.self.now.entries;
  ordered = refl;
  room = refl;
  distinct = sym count_none;
  matching = sym count_none;
  few = omega arith;
  fewer = omega arith;
}

pub loop-name-preserved : goal.loop-name-preserved
loop-name-preserved c =
    let list = c.args.list.now in
    let i = c.loop-name.name-index in
    let init = c.args.self.now.entries in
    let now = c.loop-name.self.entries in
    let e = c.unwrap-entry.result in
    let found = sym c.get.ensures ∙ c.unwrap-entry.ensures in
    let counts = counts_more c.args.users init now list i _ e c.loop-name.counts (c.loop-name-test.true, get_or_default _ _ _ _ c.loop-name-test.true) c.requires.free c.loop-name.invariant.marks found c.loop-name.invariant.distinct c.loop-name.invariant.matching in
    let few = few_more c.loop-name.counts e c.args.users i c.loop-name.invariant.few c.loop-name.invariant.fewer in
    record {
      marks = subst (λ (m : Entries). MarksList (take (i + 1) list) init m) (sym (c.replace.ensures.entries ∙ ap (map.insert now _) c.marked.ensures))
          (mark_more init now list i _ e (c.loop-name-test.true, get_or_default _ _ _ _ c.loop-name-test.true) c.loop-name.invariant.marks found);
      ordered = c.replace.ensures.ordered ∙ c.loop-name.invariant.ordered;
      room = c.replace.ensures.room ∙ c.loop-name.invariant.room;
      distinct = ap (λ (x : ListCounts). x.distinct) c.counted-counts.ensures ∙ counts.0;
      matching = ap (λ (x : ListCounts). x.matching) c.counted-counts.ensures ∙ counts.1;
      few = omega (arith, ap (λ (x : ListCounts). x.distinct) c.counted-counts.ensures, few.0);
      fewer = omega (arith, ap (λ (x : ListCounts). x.matching) c.counted-counts.ensures, few.1);
    }
