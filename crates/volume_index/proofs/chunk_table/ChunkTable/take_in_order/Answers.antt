use Rattle.std.proofs.Common.{◌≡◌, ◌-◌, List, [], ℕ, sym, ◌∙◌, ap, subst, arith, length, set, Some, option_map}
use Rattle.std.specs.Prelude.{is_some, slice_get}
use Rattle.std.specs.List.{remove, swap_remove}
use Rattle.std.specs.Map.Iter.{deref_pair}
use Rattle.std.specs.FinMap as map
use Rattle.std.proofs.lemmas.List.{length-set}
use Rattle.std.proofs.lemmas.Option.{slice_get-get_or, get_or_from_slice_get}
use Rattle.site_forms.specs.Volumes.{bytes_cmp}
use Rattle.volume_index.specs.declared.chunk_table.ChunkEntry.{ChunkEntry}
use Rattle.volume_index.specs.ChunkTables.{ChunkTableValue, Entries, IsOrder, name_at, new_entry}
use Rattle.volume_index.proofs.Lookups.{get-lookup}
use Rattle.volume_index.proofs.TableReads.{found_at, taken}
use Rattle.volume_index.proofs.Orders.{Leaves, leaves_known, entry_held, order_without}
use Rattle.volume_index.proofs.Ranks.{keys_without}
use Rattle.volume_index.proofs.chunk_table.ChunkTable.take_in_order.Goals as goal

pub unwrap-number-requires : goal.unwrap-number-requires
unwrap-number-requires c =
    c.get_index_of.ensures.found
    ∙ ap is_some (sym (get-lookup c.self.inside.entries.entries c.args.name.now) ∙ ap (λ (v : ChunkTableValue). map.get v.entries c.args.name.now) c.self.view_is)
    ∙ c.requires.held

pub set-requires : goal.set-requires
set-requires c =
    let es = c.self.inside.entries.entries in
    let order = c.self.inside.order.items in
    let m = c.args.self.now.entries in
    let view = ap (λ (v : ChunkTableValue). v.entries) c.self.view_is in
    let is : IsOrder es order = c.self.invariant.ordered (ap (λ (v : ChunkTableValue). v.is_ordered) c.self.view_is ∙ c.requires.ordered) in
    let at = found_at es c.args.name.now c.unwrap-number.result (sym c.get_index_of.ensures.index ∙ c.unwrap-number.ensures) in
    let pair = c.unwrap.result in
    let found : slice_get es (c.len.result - 1) ≡ Some (pair.0.now, pair.1.now) = sym c.get_index.ensures.entry ∙ ap (option_map deref_pair) c.unwrap.ensures in
    let last : slice_get es (length es - 1) ≡ Some (pair.0.now, pair.1.now) = ap (λ (n : ℕ). slice_get es (n - 1)) (sym c.len.ensures.len) ∙ found in
    let named : name_at es (length es - 1) ≡ pair.0.now = ap (λ (x : List ℕ × ChunkEntry). x.0) (get_or_from_slice_get es (length es - 1) (pair.0.now, pair.1.now) ([], new_entry 0 0) last) in
    let known = leaves_known es order m c.unwrap-number.result c.rank-rank.result c.rank-last.result c.args.name.now pair.0.now view is at.0 at.1 named c.rank-rank.ensures c.rank-last.ensures c.requires.held
    (entry_held es m (length es - 1) pair.0.now pair.1.now view last) in
    known.last_inside

pub remove-requires : goal.remove-requires
remove-requires c =
    let es = c.self.inside.entries.entries in
    let order = c.self.inside.order.items in
    let m = c.args.self.now.entries in
    let view = ap (λ (v : ChunkTableValue). v.entries) c.self.view_is in
    let is : IsOrder es order = c.self.invariant.ordered (ap (λ (v : ChunkTableValue). v.is_ordered) c.self.view_is ∙ c.requires.ordered) in
    let at = found_at es c.args.name.now c.unwrap-number.result (sym c.get_index_of.ensures.index ∙ c.unwrap-number.ensures) in
    let pair = c.unwrap.result in
    let found : slice_get es (c.len.result - 1) ≡ Some (pair.0.now, pair.1.now) = sym c.get_index.ensures.entry ∙ ap (option_map deref_pair) c.unwrap.ensures in
    let last : slice_get es (length es - 1) ≡ Some (pair.0.now, pair.1.now) = ap (λ (n : ℕ). slice_get es (n - 1)) (sym c.len.ensures.len) ∙ found in
    let named : name_at es (length es - 1) ≡ pair.0.now = ap (λ (x : List ℕ × ChunkEntry). x.0) (get_or_from_slice_get es (length es - 1) (pair.0.now, pair.1.now) ([], new_entry 0 0) last) in
    let known = leaves_known es order m c.unwrap-number.result c.rank-rank.result c.rank-last.result c.args.name.now pair.0.now view is at.0 at.1 named c.rank-rank.ensures c.rank-last.ensures c.requires.held
    (entry_held es m (length es - 1) pair.0.now pair.1.now view last) in
    omega (arith, known.rank_inside, ap length c.set.ensures.items, length-set order c.rank-last.result c.unwrap-number.result)

pub unwrap-requires-2 : goal.unwrap-requires-2
unwrap-requires-2 c =
    let es = c.self.inside.entries.entries in
    let at = found_at es c.args.name.now c.unwrap-number.result (sym c.get_index_of.ensures.index ∙ c.unwrap-number.ensures) in
    ap is_some (c.swap_remove_index.ensures.entry ∙ slice_get-get_or es c.unwrap-number.result ([], new_entry 0 0) at.0)

pub returns-clause-entries : goal.returns-clause-entries
returns-clause-entries c =
    let es = c.self.inside.entries.entries in
    let at = found_at es c.args.name.now c.unwrap-number.result (sym c.get_index_of.ensures.index ∙ c.unwrap-number.ensures) in
    let gone = c.unwrap-2.result in
    let there : slice_get es c.unwrap-number.result ≡ Some gone = sym c.swap_remove_index.ensures.entry ∙ c.unwrap-2.ensures in
    taken es c.swap_remove_index.new.self.entries c.args.self.now.entries c.args.name.now gone.0 (ap (λ (v : ChunkTableValue). v.entries) c.self.view_is)
    (sym (ap (λ (x : List ℕ × ChunkEntry). x.0) (get_or_from_slice_get es c.unwrap-number.result gone ([], new_entry 0 0) there)) ∙ at.1)
    (rw c.unwrap-2.ensures at c.swap_remove_index.ensures.updates).0

pub invariant_of-self : goal.invariant_of-self
invariant_of-self c =
    let es = c.self.inside.entries.entries in
    let order = c.self.inside.order.items in
    let m = c.args.self.now.entries in
    let name = c.args.name.now in
    let number = c.unwrap-number.result in
    let rank = c.rank-rank.result in
    let view = ap (λ (v : ChunkTableValue). v.entries) c.self.view_is in
    let is : IsOrder es order = c.self.invariant.ordered (ap (λ (v : ChunkTableValue). v.is_ordered) c.self.view_is ∙ c.requires.ordered) in
    let at = found_at es name number (sym c.get_index_of.ensures.index ∙ c.unwrap-number.ensures) in
    let pair = c.unwrap.result in
    let found : slice_get es (c.len.result - 1) ≡ Some (pair.0.now, pair.1.now) = sym c.get_index.ensures.entry ∙ ap (option_map deref_pair) c.unwrap.ensures in
    let last : slice_get es (length es - 1) ≡ Some (pair.0.now, pair.1.now) = ap (λ (n : ℕ). slice_get es (n - 1)) (sym c.len.ensures.len) ∙ found in
    let named : name_at es (length es - 1) ≡ pair.0.now = ap (λ (x : List ℕ × ChunkEntry). x.0) (get_or_from_slice_get es (length es - 1) (pair.0.now, pair.1.now) ([], new_entry 0 0) last) in
    let known : Leaves es order number rank c.rank-last.result name pair.0.now = leaves_known es order m number rank c.rank-last.result name pair.0.now view is at.0 at.1 named c.rank-rank.ensures c.rank-last.ensures c.requires.held
    (entry_held es m (length es - 1) pair.0.now pair.1.now view last) in
    let gone = c.unwrap-2.result in
    let after : c.swap_remove_index.new.self.entries ≡ swap_remove es number gone = rw c.unwrap-2.ensures at c.swap_remove_index.ensures.entries in
    let left : map.from_entries {R = bytes_cmp} (swap_remove es number gone) ≡ map.remove m name = ap (λ (l : List (List ℕ × ChunkEntry)). map.from_entries {R = bytes_cmp} l) (sym after) ∙ returns-clause-entries c in
    let keys : map.keys (map.remove m name) ≡ remove (map.keys (map.from_entries {R = bytes_cmp} es)) rank = keys_without m name rank c.rank-rank.ensures c.requires.held ∙ ap (λ (n : Entries). remove (map.keys n) rank) (sym view) in
    let ordered : IsOrder (swap_remove es number gone) (remove (set order c.rank-last.result number) rank) = order_without es order number rank c.rank-last.result name pair.0.now gone known (map.remove m name) keys left in
    let numbers : c.remove.new.self.items ≡ remove (set order c.rank-last.result number) rank = c.remove.ensures.items ∙ ap (λ (l : List ℕ). remove l rank) c.set.ensures.items in
    record {
      few = omega (arith, c.self.invariant.few, c.swap_remove_index.ensures.len);
      ordered = λ _. subst (λ (l : List (List ℕ × ChunkEntry)). IsOrder l c.remove.new.self.items) (sym after) (subst (λ (o : List ℕ). IsOrder (swap_remove es number gone) o) (sym numbers) ordered);
    }
