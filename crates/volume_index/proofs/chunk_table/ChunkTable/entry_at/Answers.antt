use Rattle.std.proofs.Common.{◌≡◌, ◌<◌, List, ℕ, length, sym, ◌∙◌, ap, arith, Some, option_map}
use Rattle.std.specs.Prelude.{slice_get, nat_eq}
use Rattle.std.specs.Cmp.Lexicographic.{pointwise}
use Rattle.std.specs.Map.{lookup}
use Rattle.std.specs.Map.Iter.{deref_pair}
use Rattle.std.specs.FinMap as map
use Rattle.volume_index.specs.ChunkTables.{ChunkTableValue, IsOrder}
use Rattle.volume_index.proofs.Lookups.{get-lookup}
use Rattle.volume_index.proofs.TableReads.{order_long, number_inside, number_read, name_read, key_is}
use Rattle.volume_index.proofs.chunk_table.ChunkTable.entry_at.Goals as goal

pub get-number-requires : goal.get-number-requires
get-number-requires c =
    let es = c.self.inside.entries.entries in
    let order = c.self.inside.order.items in
    let is : IsOrder es order = c.self.invariant.ordered (ap (λ (v : ChunkTableValue). v.is_ordered) c.self.view_is ∙ c.requires.ordered) in
    omega (arith, c.requires.there, order_long es order c.args.self.now.entries is (ap (λ (v : ChunkTableValue). v.entries) c.self.view_is))

pub unwrap-requires : goal.unwrap-requires
unwrap-requires c =
    let es = c.self.inside.entries.entries in
    let order = c.self.inside.order.items in
    let is : IsOrder es order = c.self.invariant.ordered (ap (λ (v : ChunkTableValue). v.is_ordered) c.self.view_is ∙ c.requires.ordered) in
    let here : c.args.place < length order = omega (arith, c.requires.there, order_long es order c.args.self.now.entries is (ap (λ (v : ChunkTableValue). v.entries) c.self.view_is)) in
    c.get_index.ensures.found.1 (number_inside es order c.args.place c.get-number.result is here (number_read order c.args.place c.get-number.result here c.get-number.ensures))

pub returns : goal.returns
returns c =
    let es = c.self.inside.entries.entries in
    let order = c.self.inside.order.items in
    let m = c.args.self.now.entries in
    let is : IsOrder es order = c.self.invariant.ordered (ap (λ (v : ChunkTableValue). v.is_ordered) c.self.view_is ∙ c.requires.ordered) in
    let pair = c.unwrap.result in
    let found : slice_get es c.get-number.result ≡ Some (pair.0.now, pair.1.now) = sym c.get_index.ensures.entry ∙ ap (option_map deref_pair) c.unwrap.ensures in
    let here : c.args.place < length order = omega (arith, c.requires.there, order_long es order m is (ap (λ (v : ChunkTableValue). v.entries) c.self.view_is)) in
    let named = name_read es order m c.args.place c.get-number.result pair.0.now pair.1.now is (ap (λ (v : ChunkTableValue). v.entries) c.self.view_is) c.requires.there
    (number_read order c.args.place c.get-number.result here c.get-number.ensures) found in
    let value : lookup (pointwise nat_eq pair.0.now) es ≡ Some pair.1.now = rw c.unwrap.ensures at c.get_index.ensures.value in
    ap (λ (name : List ℕ). map.get m name) (key_is m c.args.place pair.0.now named)
    ∙ ap (λ (v : ChunkTableValue). map.get v.entries pair.0.now) (sym c.self.view_is)
    ∙ get-lookup es pair.0.now
    ∙ value
