use Rattle.std.proofs.Common.{ℕ, sym, ◌∙◌, ap}
use Rattle.std.specs.Prelude.{is_some}
use Rattle.std.specs.Cmp.Lexicographic.{nat_list_eq_equiv}
use Rattle.std.specs.FinMap as map
use Rattle.indexmap.specs.IndexMap.{set_value_at, spare}
use Rattle.indexmap.specs.Layout.{length-set_value_at}
use Rattle.indexmap.proofs.CallerLemmas.{updates-with_value_at, keys-with_value_at}
use Rattle.std.proofs.lemmas.Option.{get_or_from_slice_get}
use Rattle.volume_index.specs.ChunkTables.{ChunkTableValue, new_entry, table_room}
use Rattle.volume_index.proofs.Lookups.{get-lookup}
use Rattle.volume_index.proofs.TableReads.{found_at, written, table_stays}
use Rattle.volume_index.proofs.chunk_table.ChunkTable.replace.Goals as goal

pub unwrap-number-requires : goal.unwrap-number-requires
unwrap-number-requires c =
    c.get_index_of.ensures.found
    ∙ ap is_some (sym (get-lookup c.self.inside.entries.entries c.args.name.now) ∙ ap (λ (v : ChunkTableValue). map.get v.entries c.args.name.now) c.self.view_is)
    ∙ c.requires

pub returns-clause-entries : goal.returns-clause-entries
returns-clause-entries c =
    let es = c.self.inside.entries.entries in
    let at = found_at es c.args.name.now c.unwrap-number.result (sym c.get_index_of.ensures.index ∙ c.unwrap-number.ensures) in
    let pair = c.pair_mut-kept.ensures.value in
    written es (set_value_at es c.unwrap-number.result c.args.entry) c.args.self.now.entries c.args.name.now _ c.args.entry (ap (λ (v : ChunkTableValue). v.entries) c.self.view_is)
    (sym (ap (λ x. x.0) (get_or_from_slice_get es c.unwrap-number.result _ (_, new_entry 0 0) pair)) ∙ at.1)
    (updates-with_value_at c.self.inside.entries c.unwrap-number.result c.args.entry nat_list_eq_equiv c.pair_mut-kept.ensures.unique _ _ pair).0

pub invariant_of-self : goal.invariant_of-self
invariant_of-self c =
    let es = c.self.inside.entries.entries in
    table_stays c.self.inside.is_ordered es (set_value_at es c.unwrap-number.result c.args.entry) c.self.inside.order.items c.args.self.now.entries c.args.name.now c.args.entry
    (ap (λ (v : ChunkTableValue). v.entries) c.self.view_is) c.requires (returns-clause-entries c) (keys-with_value_at c.self.inside.entries c.unwrap-number.result c.args.entry)
    (length-set_value_at es c.unwrap-number.result c.args.entry) c.self.invariant

pub returns-clause-room : goal.returns-clause-room
returns-clause-room c =
    ap (λ (n : ℕ). table_room (spare c.self.inside.entries) c.self.inside.order.room n) (length-set_value_at c.self.inside.entries.entries c.unwrap-number.result c.args.entry)
    ∙ ap (λ (v : ChunkTableValue). v.room) c.self.view_is
