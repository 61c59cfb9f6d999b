use Rattle.std.proofs.Common.{◌+◌, sym, ◌∙◌, ap, subst, take}
use Rattle.std.specs.FinMap as map
use Rattle.std.proofs.lemmas.List.{get_or_default}
use Rattle.volume_index.specs.ChunkTables.{Entries, SettlesList}
use Rattle.volume_index.proofs.Marks.{settle_more, met_may, next_listed}
use Rattle.volume_index.proofs.chunk_table.ChunkTable.settle.Goals as goal

pub settled-requires : goal.settled-requires
settled-requires c = λ marked.
    met_may c.args.change c.args.self.now.entries c.loop-name.self.entries (take c.loop-name.name-index c.args.list.now) _ c.unwrap-entry.result c.loop-name.invariant.settles (sym c.get.ensures ∙ c.unwrap-entry.ensures) marked
    (λ first was. c.requires.may _ first (next_listed c.args.list.now c.loop-name.name-index _ (c.loop-name-test.true, get_or_default _ _ _ _ c.loop-name-test.true)) was)

pub loop-name-preserved : goal.loop-name-preserved
loop-name-preserved c =
    let list = c.args.list.now in
    let i = c.loop-name.name-index in
    let init = c.args.self.now.entries in
    let now = c.loop-name.self.entries in
    let e = c.unwrap-entry.result in
    let found = sym c.get.ensures ∙ c.unwrap-entry.ensures in
    record {
      settles = subst (λ (m : Entries). SettlesList c.args.change (take (i + 1) list) init m) (sym (c.replace.ensures.entries ∙ ap (map.insert now _) c.settled.ensures))
          (settle_more c.args.change init now list i _ e (c.loop-name-test.true, get_or_default _ _ _ _ c.loop-name-test.true) c.loop-name.invariant.settles found
          (λ first was. c.requires.marked _ first (next_listed list i _ (c.loop-name-test.true, get_or_default _ _ _ _ c.loop-name-test.true)) was));
      ordered = c.replace.ensures.ordered ∙ c.loop-name.invariant.ordered;
      room = c.replace.ensures.room ∙ c.loop-name.invariant.room;
    }
