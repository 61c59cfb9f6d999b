use Rattle.std.proofs.Common.{◌≡◌, ◌+◌, List, ℕ, length, refl, sym, ◌∙◌, ap, subst, arith, true}
use Rattle.std.specs.FinMap as map
use Rattle.std.specs.String.{string_bytes}
use Rattle.site_forms.specs.Volumes.{Files, holds_all, may_add_file, with_file}
use Rattle.volume_index.specs.declared.chunk_table.Change.TheVariants.{Join}
use Rattle.volume_index.specs.declared.index.Index.TheInside.{Inside}
use Rattle.volume_index.specs.ChunkTables.{has_users}
use Rattle.volume_index.specs.Indexes.{IndexValue}
use Rattle.volume_index.specs.IndexInside.{view_of}
use Rattle.volume_index.proofs.Indexing.{JoinsFile, kept_same, kept_file_in, few_of, list_held, may_join, matching_few, distinct_few}
use Rattle.volume_index.proofs.Joins.{same_places, same_lengths}
use Rattle.volume_index.proofs.Shapes.{MayAdd, may_add}
use Rattle.volume_index.proofs.index.Index.add_file.Goals as goal

pub invariant_of-self : goal.invariant_of-self
invariant_of-self c =
    let a = c.self.inside in
    let b : Inside = record a { files = c.reserve.new.self } in
    kept_same a b c.self.invariant refl c.in_err-reserve.ensures.same refl refl refl (omega arith)

pub change_users-counts-requires-clause-held : goal.change_users-counts-requires-clause-held
change_users-counts-requires-clause-held c =
    let a = c.self.inside in
    let list = c.as_slice.result.now in
    let may : MayAdd (view_of a).shape (string_bytes c.args.name) c.args.chunks.items = may_add (view_of a).shape (string_bytes c.args.name) c.args.chunks.items
    (ap (λ (v : IndexValue). may_add_file (λ n. n) 0 v.shape (string_bytes c.args.name) c.args.chunks.items) c.self.view_is ∙ c.requires) in
    sym (list_held a.chunks.entries a.files.files list) ∙ subst (λ (l : List (List ℕ)). holds_all (view_of a).shape l ≡ true) (sym c.as_slice.ensures.value) may.held

pub change_users-counts-requires-clause-may : goal.change_users-counts-requires-clause-may
change_users-counts-requires-clause-may c = may_join c.self.inside c.as_slice.result.now c.self.invariant

pub overflow_add-self : goal.overflow_add-self
overflow_add-self c =
    let a = c.self.inside in
    let few = few_of a c.self.invariant in
    let may : MayAdd (view_of a).shape (string_bytes c.args.name) c.args.chunks.items = may_add (view_of a).shape (string_bytes c.args.name) c.args.chunks.items
    (ap (λ (v : IndexValue). may_add_file (λ n. n) 0 v.shape (string_bytes c.args.name) c.args.chunks.items) c.self.view_is ∙ c.requires) in
    omega (arith, few.used, c.change_users-counts.ensures.counts.matching, matching_few (has_users 0 a.chunks.entries) c.as_slice.result.now, may.short, ap (λ (l : List (List ℕ)). length l) c.as_slice.ensures.value)

pub overflow_add-self-2 : goal.overflow_add-self-2
overflow_add-self-2 c =
    let a = c.self.inside in
    let few = few_of a c.self.invariant in
    let may : MayAdd (view_of a).shape (string_bytes c.args.name) c.args.chunks.items = may_add (view_of a).shape (string_bytes c.args.name) c.args.chunks.items
    (ap (λ (v : IndexValue). may_add_file (λ n. n) 0 v.shape (string_bytes c.args.name) c.args.chunks.items) c.self.view_is ∙ c.requires) in
    omega (arith, few.pairs, c.change_users-counts.ensures.counts.distinct, distinct_few c.as_slice.result.now, may.short, ap (λ (l : List (List ℕ)). length l) c.as_slice.ensures.value)

pub invariant_of-self-2 : goal.invariant_of-self-2
invariant_of-self-2 c =
    let a = c.self.inside in
    let name = string_bytes c.args.name in
    let list = c.as_slice.result.now in
    let counts = c.change_users-counts.result in
    let b : Inside = record a { chunks = c.change_users-counts.new.self; files = c.put.new.self; used = a.used + counts.matching; pairs = a.pairs + counts.distinct } in
    let may : MayAdd (view_of a).shape name c.args.chunks.items = may_add (view_of a).shape name c.args.chunks.items (ap (λ (v : IndexValue). may_add_file (λ n. n) 0 v.shape name c.args.chunks.items) c.self.view_is ∙ c.requires) in
    let put : c.put.new.self.files ≡ map.insert c.reserve.new.self.files name c.args.chunks.items = rw c.unwrap.ensures at c.put.ensures.ok in
    let joins : JoinsFile a b name list counts = record {
      may = subst (λ (l : List (List ℕ)). MayAdd (view_of a).shape name l) (sym c.as_slice.ensures.value) may;
      changes = c.change_users-counts.ensures.entries;
      told = c.change_users-counts.ensures.counts;
      files = put ∙ (λ i. map.insert (c.in_ok-reserve.ensures.same i) name (sym c.as_slice.ensures.value i));
      used = refl;
      pairs = refl;
      bytes = refl;
      first = refl;
    } in
    kept_file_in a b name list counts c.self.invariant joins

pub returns-clause-shape : goal.returns-clause-shape
returns-clause-shape c =
    let a = c.self.inside in
    let name = string_bytes c.args.name in
    let list = c.args.chunks.items in
    let put : c.put.new.self.files ≡ map.insert c.reserve.new.self.files name list = rw c.unwrap.ensures at c.put.ensures.ok in
    (λ i. record { chunks = same_lengths Join c.as_slice.result.now a.chunks.entries c.change_users-counts.new.self.entries c.change_users-counts.ensures.entries i; files = (put ∙ ap (λ (f : Files). map.insert f name list) c.in_ok-reserve.ensures.same) i })
    ∙ ap (λ (v : IndexValue). with_file v.shape name list) c.self.view_is

pub returns-clause-places : goal.returns-clause-places
returns-clause-places c =
    same_places Join c.as_slice.result.now c.self.inside.chunks.entries c.change_users-counts.new.self.entries c.change_users-counts.ensures.entries ∙ ap (λ (v : IndexValue). v.places) c.self.view_is
