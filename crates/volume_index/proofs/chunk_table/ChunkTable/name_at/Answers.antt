use Rattle.std.proofs.Common.{◌≡◌, ◌<◌, length, sym, ◌∙◌, ap, arith, Some, option_map}
use Rattle.std.specs.Prelude.{slice_get}
use Rattle.std.specs.Map.Iter.{deref_pair}
use Rattle.volume_index.specs.ChunkTables.{ChunkTableValue, IsOrder}
use Rattle.volume_index.proofs.TableReads.{order_long, number_inside, number_read, name_read}
use Rattle.volume_index.proofs.chunk_table.ChunkTable.name_at.Goals as goal

pub get-number-requires : goal.get-number-requires
get-number-requires c =
    let es = c.self.inside.entries.entries in
    let order = c.self.inside.order.items in
    let is : IsOrder es order = c.self.invariant.ordered (ap (λ (v : ChunkTableValue). v.is_ordered) c.self.view_is ∙ c.requires.ordered) in
    omega (arith, c.requires.there, order_long es order c.args.self.now.entries is (ap (λ (v : ChunkTableValue). v.entries) c.self.view_is))

pub unwrap-requires : goal.unwrap-requires
unwrap-requires c =
    let es = c.self.inside.entries.entries in
    let order = c.self.inside.order.items in
    let is : IsOrder es order = c.self.invariant.ordered (ap (λ (v : ChunkTableValue). v.is_ordered) c.self.view_is ∙ c.requires.ordered) in
    let here : c.args.place < length order = omega (arith, c.requires.there, order_long es order c.args.self.now.entries is (ap (λ (v : ChunkTableValue). v.entries) c.self.view_is)) in
    c.get_index.ensures.found.1 (number_inside es order c.args.place c.get-number.result is here (number_read order c.args.place c.get-number.result here c.get-number.ensures))

pub returns : goal.returns
returns c =
    let es = c.self.inside.entries.entries in
    let order = c.self.inside.order.items in
    let is : IsOrder es order = c.self.invariant.ordered (ap (λ (v : ChunkTableValue). v.is_ordered) c.self.view_is ∙ c.requires.ordered) in
    let pair = c.unwrap.result in
    let found : slice_get es c.get-number.result ≡ Some (pair.0.now, pair.1.now) = sym c.get_index.ensures.entry ∙ ap (option_map deref_pair) c.unwrap.ensures in
    let here : c.args.place < length order = omega (arith, c.requires.there, order_long es order c.args.self.now.entries is (ap (λ (v : ChunkTableValue). v.entries) c.self.view_is)) in
    name_read es order c.args.self.now.entries c.args.place c.get-number.result pair.0.now pair.1.now is (ap (λ (v : ChunkTableValue). v.entries) c.self.view_is) c.requires.there
    (number_read order c.args.place c.get-number.result here c.get-number.ensures) found
