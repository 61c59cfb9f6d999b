use Rattle.std.proofs.Common.{◌≡◌, List, [], ◌∷◌, ◌++◌, ℕ, false, sym, ◌∙◌, ap, subst, arith, length, length-append}
use Rattle.std.specs.Prelude.{nat_eq}
use Rattle.std.specs.List.{insert}
use Rattle.std.specs.Cmp.Lexicographic.{pointwise}
use Rattle.std.specs.FinMap as map
use Rattle.indexmap.proofs.CallerLemmas.{insert_entry-new}
use Rattle.site_forms.specs.Volumes.{bytes_cmp}
use Rattle.volume_index.specs.declared.chunk_table.ChunkEntry.{ChunkEntry}
use Rattle.volume_index.specs.ChunkTables.{ChunkTableValue, Entries, IsOrder, IsRank}
use Rattle.volume_index.proofs.TableReads.{put_last_view, lookup_lacks}
use Rattle.volume_index.proofs.Orders.{order_with}
use Rattle.volume_index.proofs.chunk_table.ChunkTable.put_in_order.Goals as goal

pub returns-clause-entries : goal.returns-clause-entries
returns-clause-entries c =
    let es = c.self.inside.entries.entries in
    let m = c.args.self.now.entries in
    let view = ap (λ (v : ChunkTableValue). v.entries) c.self.view_is in
    ap (λ (l : List (List ℕ × ChunkEntry)). map.from_entries {R = bytes_cmp} l)
    ((rw c.unwrap.ensures at c.insert-2.ensures.entries) ∙ insert_entry-new (pointwise nat_eq) c.self.inside.entries c.args.name.now c.args.entry (lookup_lacks es m c.args.name.now view c.requires.lacking))
    ∙ put_last_view es m c.args.name.now c.args.entry view c.requires.lacking

pub invariant_of-self : goal.invariant_of-self
invariant_of-self c =
    let es = c.self.inside.entries.entries in
    let order = c.self.inside.order.items in
    let m = c.args.self.now.entries in
    let name = c.args.name.now in
    let view = ap (λ (v : ChunkTableValue). v.entries) c.self.view_is in
    let more : List (List ℕ × ChunkEntry) = es ++ (name, c.args.entry) ∷ [] in
    let after : c.insert-2.new.self.entries ≡ more =
    (rw c.unwrap.ensures at c.insert-2.ensures.entries) ∙ insert_entry-new (pointwise nat_eq) c.self.inside.entries name c.args.entry (lookup_lacks es m name view c.requires.lacking) in
    let numbers : c.insert.new.self.items ≡ insert order c.rank-rank.result (length es) = c.insert.ensures.items ∙ ap (λ (n : ℕ). insert order c.rank-rank.result n) c.len-number.ensures.len in
    let is : IsOrder es order = c.self.invariant.ordered (ap (λ (v : ChunkTableValue). v.is_ordered) c.self.view_is ∙ c.requires.ordered) in
    let ranked : IsRank (map.keys (map.from_entries {R = bytes_cmp} es)) name c.rank-rank.result = subst (λ (n : Entries). IsRank (map.keys n) name c.rank-rank.result) (sym view) c.rank-rank.ensures in
    let lacking : map.contains_key (map.from_entries {R = bytes_cmp} es) name ≡ false = ap (λ (n : Entries). map.contains_key n name) view ∙ c.requires.lacking in
    let joined : IsOrder more (insert order c.rank-rank.result (length es)) = order_with es order name c.args.entry c.rank-rank.result is ranked lacking in
    record {
      few = omega (arith, c.requires.room, ap (λ (v : ChunkTableValue). v.room) c.self.view_is, ap length after, length-append es ((name, c.args.entry) ∷ []));
      ordered = λ _. subst (λ (l : List (List ℕ × ChunkEntry)). IsOrder l c.insert.new.self.items) (sym after) (subst (λ (o : List ℕ). IsOrder more o) (sym numbers) joined);
    }
