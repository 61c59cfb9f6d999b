use Rattle.std.proofs.Common.{◌≡◌, ◌+◌, ◌≤◌, ℕ, length, true, false, refl, sym, ◌∙◌, ap, arith, rules}
use Rattle.std.specs.Prelude.{nat_le, ◌&&◌}
use Rattle.std.specs.List.{list_all}
use Rattle.std.specs.FinMap as map
use Rattle.seed_model.specs.declared.limits.TheConstants.{MOST_FILES, MOST_CHUNKS, MOST_PAIRS}
use Rattle.site_forms.specs.Volumes.{may_add_file}
use Rattle.volume_index.specs.declared.index.Index.TheInside.{Inside}
use Rattle.volume_index.specs.ChunkTables.{ChunkTableValue, has_users}
use Rattle.volume_index.specs.Indexes.{IndexValue}
use Rattle.volume_index.specs.IndexInside.{view_of}
use Rattle.volume_index.proofs.Indexing.{few_of, matching_few, distinct_few, list_held, kept_same}
use Rattle.volume_index.proofs.IndexReads.{held_by_place, lacking_by_place, no_held_file, no_lacking_chunk, by_counts}
use Rattle.volume_index.proofs.Joins.{kept_entries}
use Rattle.volume_index.proofs.index.Index.may_add_file.Goals as goal

pub returns-then-is_some-clause-is : goal.returns-then-is_some-clause-is
returns-then-is_some-clause-is c =
    no_held_file (view_of c.self.inside).shape c.args.name.now c.args.chunks.now (held_by_place c.self.inside.files.files c.args.name.now c.find.result c.find.ensures (sym c.is_some.ensures ∙ c.if-is_some.true))
    ∙ ap (λ (v : IndexValue). may_add_file (λ n. n) 0 v.shape c.args.name.now c.args.chunks.now) c.self.view_is

pub returns-then-not-holds_all-clause-is : goal.returns-then-not-holds_all-clause-is
returns-then-not-holds_all-clause-is c =
    let lacks : c.holds_all.result ≡ false = search rules in
    no_lacking_chunk (view_of c.self.inside).shape c.args.name.now c.args.chunks.now (list_held c.self.inside.chunks.entries c.self.inside.files.files c.args.chunks.now ∙ sym c.holds_all.ensures ∙ lacks)
    ∙ ap (λ (v : IndexValue). may_add_file (λ n. n) 0 v.shape c.args.name.now c.args.chunks.now) c.self.view_is

pub overflow_add-self-inside : goal.overflow_add-self-inside
overflow_add-self-inside c =
    let few = few_of c.self.inside c.self.invariant in
    omega (arith, few.used, c.change_users-counts.ensures.counts.matching, matching_few (has_users 0 c.self.inside.chunks.entries) c.args.chunks.now, c.if-chunks-gt-LONGEST_LIST.false)

pub overflow_add-self-inside-2 : goal.overflow_add-self-inside-2
overflow_add-self-inside-2 c =
    let few = few_of c.self.inside c.self.invariant in
    omega (arith, few.pairs, c.change_users-counts.ensures.counts.distinct, distinct_few c.args.chunks.now, c.if-chunks-gt-LONGEST_LIST.false)

pub invariant_of-self : goal.invariant_of-self
invariant_of-self c =
    let a = c.self.inside in
    let b : Inside = record a { chunks = c.change_users-counts.new.self } in
    kept_same a b c.self.invariant (kept_entries c.args.chunks.now a.chunks.entries b.chunks.entries c.change_users-counts.ensures.entries) refl refl refl refl (omega arith)

pub returns-clause-same : goal.returns-clause-same
returns-clause-same c =
    let a = c.self.inside in
    let new = c.change_users-counts.new.self in
    let entries = kept_entries c.args.chunks.now a.chunks.entries new.entries c.change_users-counts.ensures.entries in
    let same : new ≡ a.chunks = λ i. record { entries = entries i; is_ordered = c.change_users-counts.ensures.ordered i; room = c.change_users-counts.ensures.room i } in
    ap (λ (t : ChunkTableValue). view_of (record a { chunks = t })) same ∙ c.self.view_is

pub returns-clause-is : goal.returns-clause-is
returns-clause-is c =
    let a = c.self.inside in
    let list = c.args.chunks.now in
    let counts = c.change_users-counts.result in
    let lacking = lacking_by_place a.files.files c.args.name.now c.find.result c.find.ensures (sym c.is_some.ensures ∙ c.if-is_some.false) in
    let all : c.holds_all.result ≡ true = search rules in
    let held : list_all (map.contains_key a.chunks.entries) list ≡ true = sym c.holds_all.ensures ∙ all in
    let short : length list ≤ 524279 = omega (arith, c.if-chunks-gt-LONGEST_LIST.false) in
    c.fits.ensures
    ∙ ap (λ (n : ℕ). nat_le (n + 1) MOST_FILES && (nat_le (a.used + counts.matching) MOST_CHUNKS && nat_le (a.pairs + counts.distinct) MOST_PAIRS)) c.len-files.ensures
    ∙ by_counts a c.args.name.now list counts c.self.invariant c.requires lacking held short c.change_users-counts.ensures.counts
    ∙ ap (λ (v : IndexValue). may_add_file (λ n. n) 0 v.shape c.args.name.now list) c.self.view_is
