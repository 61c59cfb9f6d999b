use Rattle.std.proofs.Common.{◌≡◌, ◌+◌, ◌++◌, refl, sym, ◌∙◌, ap, subst, arith}
use Rattle.std.specs.Prelude.{not}
use Rattle.std.specs.List.{list_all, filter}
use Rattle.site_forms.specs.Volumes.{Shape, all_lists, distinct_count, pair_count}
use Rattle.std.specs.FinMap as map
use Rattle.volume_index.specs.declared.index.Index.TheInside.{Inside}
use Rattle.volume_index.specs.ChunkTables.{ChunkTableValue, has_users}
use Rattle.volume_index.specs.FirstLimits.{first_broken, first_limit}
use Rattle.volume_index.specs.Indexes.{IndexValue}
use Rattle.volume_index.specs.IndexInside.{view_of}
use Rattle.volume_index.proofs.FirstLimits.{counts_by}
use Rattle.volume_index.proofs.Indexing.{few_of, matching_few, distinct_few, list_held, kept_same}
use Rattle.volume_index.proofs.Joins.{kept_entries}
use Rattle.volume_index.proofs.index.Index.first_limit.Goals as goal

pub invariant_of-self : goal.invariant_of-self
invariant_of-self c =
    let a = c.self.inside in
    let b : Inside = record a { chunks = c.change_users-counts.new.self } in
    kept_same a b c.self.invariant (kept_entries c.args.held.now a.chunks.entries b.chunks.entries c.change_users-counts.ensures.entries) refl refl refl refl (omega arith)

pub returns-clause-same : goal.returns-clause-same
returns-clause-same c =
    let a = c.self.inside in
    let new = c.change_users-counts.new.self in
    let entries = kept_entries c.args.held.now a.chunks.entries new.entries c.change_users-counts.ensures.entries in
    let same : new ≡ a.chunks = λ i. record { entries = entries i; is_ordered = c.change_users-counts.ensures.ordered i; room = c.change_users-counts.ensures.room i } in
    ap (λ (t : ChunkTableValue). view_of (record a { chunks = t })) same ∙ c.self.view_is

pub change_users-counts-requires-clause-held : goal.change_users-counts-requires-clause-held
change_users-counts-requires-clause-held c =
    let a = c.self.inside in
    sym (list_held a.chunks.entries a.files.files c.args.held.now) ∙ ap (λ (v : IndexValue). list_all (map.contains_key v.shape.chunks) c.args.held.now) c.self.view_is ∙ c.requires.held

pub overflow_add-used : goal.overflow_add-used
overflow_add-used c =
    let few = few_of c.self.inside c.self.invariant in
    omega (arith, few.used, c.change_users-counts.ensures.counts.matching, matching_few (has_users 0 c.self.inside.chunks.entries) c.args.held.now, c.requires.short)

pub overflow_add-used-2 : goal.overflow_add-used-2
overflow_add-used-2 c =
    let few = few_of c.self.inside c.self.invariant in
    omega (arith, few.used, c.change_users-counts.ensures.counts.matching, matching_few (has_users 0 c.self.inside.chunks.entries) c.args.held.now, c.requires.short, c.requires.few)

pub overflow_add-pairs : goal.overflow_add-pairs
overflow_add-pairs c =
    let few = few_of c.self.inside c.self.invariant in
    omega (arith, few.pairs, c.change_users-counts.ensures.counts.distinct, distinct_few c.args.held.now, c.requires.short)

pub overflow_add-pairs-2 : goal.overflow_add-pairs-2
overflow_add-pairs-2 c =
    let few = few_of c.self.inside c.self.invariant in
    omega (arith, few.pairs, c.change_users-counts.ensures.counts.distinct, distinct_few c.args.held.now, c.requires.short, c.requires.few)

pub returns-clause-first : goal.returns-clause-first
returns-clause-first c = λ list.
    subst (λ (s : Shape). filter (map.contains_key s.chunks) list ≡ c.args.held.now → distinct_count (filter (λ n. not (map.contains_key s.chunks n)) list) ≡ c.args.lacking → c.first_broken.result ≡ first_limit s list)
    (ap (λ (v : IndexValue). v.shape) c.self.view_is)
    (λ are count.
    let a = c.self.inside in
    let counts = c.change_users-counts.result in
    let all = sym (list_held a.chunks.entries a.files.files c.args.held.now) ∙ ap (λ (v : IndexValue). list_all (map.contains_key v.shape.chunks) c.args.held.now) c.self.view_is ∙ c.requires.held in
    let told = counts_by a list c.args.held.now c.args.lacking counts c.self.invariant are all count c.change_users-counts.ensures.counts in
    let files : c.len-files.result + 1 ≡ map.len a.files.files + 1 = omega (arith, c.len-files.ensures) in
    let chunks : a.used + counts.matching + c.args.lacking ≡ distinct_count (list ++ all_lists a.files.files) = sym told.0 in
    let pairs : a.pairs + counts.distinct + c.args.lacking ≡ distinct_count list + pair_count a.files.files = omega (arith, told.1, c.self.invariant.pairs) in
    c.first_broken.ensures ∙ (λ i. first_broken (files i) (chunks i) (pairs i)))
