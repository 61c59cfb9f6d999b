-- Volumes with files on the way between them, seen by the origin: what each record of either volume keeps.
use Rattle.std.proofs.Common.{◌≡◌, ◌⊎◌, inl, inr, ⊎_elim, ℕ, List, true, Option, Some, None, refl, sym, ◌∙◌, ap, subst}
use Rattle.std.specs.Prelude.{is_some}
use Rattle.std.specs.Cmp.Lexicographic.{nat_list_cmp_total}
use Rattle.std.specs.FinMap as map
use Rattle.std.proofs.lemmas.Bool.{true≢false}
use Rattle.std.proofs.lemmas.Option.{none-some}
use Rattle.site_forms.specs.Sites.{HoldsFile, HoldsChunk, UsesChunk, IsNamed, IsUnderway, length_in}
use Rattle.site_forms.specs.Views.{joined_files}
use Rattle.site_forms.specs.Volumes.{Files, Shape, with_chunk, with_file, without_file, without_chunk}
use Rattle.volume_index.proofs.Alls.{held_value}
use Rattle.volume_index.proofs.MapValues.{same_names}
use Rattle.site_core.proofs.Counting.{counts_fit, AreAmong, AreShort, counts_decide, length_short}
use Rattle.site_core.proofs.Maps.{either, get_joined, with_cases, without_cases, held_before}

-- A and B hold the files of an origin; those of B are named, and so are those that use a chunk of B
pub record Way (o : Files) (names : List (List ℕ)) (a b : Shape) : Type 0 where
  pub joined : (name : List ℕ) → map.get o name ≡ either (map.get a.files name) (map.get b.files name)
  pub among_b : AreAmong b.files o
  pub somewhere : (name : List ℕ) → IsNamed names name → map.contains_key o name ≡ true
  pub planned : (name : List ℕ) → HoldsFile b name → IsNamed names name
  pub copied : (chunk : List ℕ) → HoldsChunk b chunk → (name : List ℕ) × IsNamed names name × UsesChunk o name chunk
  pub needed : (chunk : List ℕ) → HoldsChunk a chunk → (name : List ℕ) × UsesChunk o name chunk
  pub fit : counts_fit o ≡ true

-- BETWEEN THE TWO FORMS

held_first : {X : Type 0} (x y : Option X) → is_some x ≡ true → is_some (either x y) ≡ true
held_first None y held = absurd (true≢false (sym held))
held_first (Some v) y held = refl

held_second : {X : Type 0} (x y : Option X) → is_some y ≡ true → is_some (either x y) ≡ true
held_second None y held = held
held_second (Some v) y held = refl

held_either : {X : Type 0} (x y : Option X) → is_some (either x y) ≡ true → is_some x ≡ true ⊎ is_some y ≡ true
held_either None y held = inr held
held_either (Some v) y held = inl refl

second_is : {X : Type 0} (x y : Option X) (v : X) → (is_some x ≡ true → x ≡ y) → y ≡ Some v → either x y ≡ Some v
second_is None y v same is = is
second_is (Some w) y v same is = same refl ∙ is

pub way_from : (a b : Shape) (names : List (List ℕ)) → IsUnderway a b names → AreShort a → AreShort b → Way (joined_files a.files b.files) names a b
way_from a b names under short_a short_b =
    let o = joined_files a.files b.files in
    let is = get_joined a.files b.files in
    record {
      joined = is;
      among_b = λ name list found. is name ∙ second_is (map.get a.files name) (map.get b.files name) list (λ held. under.one_list name held (ap is_some found)) found;
      somewhere = λ name listed. ap is_some (is name) ∙ ⊎_elim
          (λ in_a. held_first (map.get a.files name) (map.get b.files name) in_a)
          (λ in_b. held_second (map.get a.files name) (map.get b.files name) in_b)
          (under.somewhere name listed);
      planned = under.planned;
      copied = under.copied;
      needed = under.needed;
      fit = sym (counts_decide (length_in a b) o (length_short a b short_a short_b)) ∙ under.limits;
    }

module _ (o : Files) (names : List (List ℕ)) (a b : Shape) (way : Way o names a b) where
  pub among_a : AreAmong a.files o
  among_a name list found = way.joined name ∙ ap (λ x. either x (map.get b.files name)) found

  pub same_origin : joined_files a.files b.files ≡ o
  same_origin = map.same_map nat_list_cmp_total same_names _ _ (λ name. get_joined a.files b.files name ∙ sym (way.joined name))

  one_list : (name : List ℕ) → HoldsFile a name → HoldsFile b name → map.get a.files name ≡ map.get b.files name
  one_list name in_a in_b =
      let x = held_value a.files name in_a in
      let y = held_value b.files name in_b in
      x.1 ∙ sym (among_a name x.0 x.1) ∙ way.among_b name y.0 y.1 ∙ sym y.1

  pub way_to : AreShort a → AreShort b → IsUnderway a b names
  way_to short_a short_b = record {
    somewhere = λ name listed. held_either (map.get a.files name) (map.get b.files name) (ap is_some (sym (way.joined name)) ∙ way.somewhere name listed);
    planned = way.planned;
    one_list = one_list;
    copied = λ chunk held. subst (λ (f : Files). (name : List ℕ) × IsNamed names name × UsesChunk f name chunk) (sym same_origin) (way.copied chunk held);
    needed = λ chunk held. subst (λ (f : Files). (name : List ℕ) × UsesChunk f name chunk) (sym same_origin) (way.needed chunk held);
    limits = counts_decide (length_in a b) (joined_files a.files b.files) (length_short a b short_a short_b) ∙ ap counts_fit same_origin ∙ way.fit;
  }

  -- CHUNKS

  pub chunk_to_b : (chunk : List ℕ) (len : ℕ) (name : List ℕ) → IsNamed names name → UsesChunk o name chunk → Way o names a (with_chunk b chunk len)
  chunk_to_b chunk len name listed uses = record {
    joined = way.joined;
    among_b = way.among_b;
    somewhere = way.somewhere;
    planned = way.planned;
    copied = λ q held. with_cases b.chunks chunk (λ x. is_some x ≡ true → (n : List ℕ) × IsNamed names n × UsesChunk o n q) len q
        (λ is _. (name, listed, subst (UsesChunk o name) (sym is) uses)) (λ _ old. way.copied q old) held;
    needed = way.needed;
    fit = way.fit;
  }

  pub chunk_to_a : (chunk : List ℕ) (len : ℕ) (name : List ℕ) → UsesChunk o name chunk → Way o names (with_chunk a chunk len) b
  chunk_to_a chunk len name uses = record {
    joined = way.joined;
    among_b = way.among_b;
    somewhere = way.somewhere;
    planned = way.planned;
    copied = way.copied;
    needed = λ q held. with_cases a.chunks chunk (λ x. is_some x ≡ true → (n : List ℕ) × UsesChunk o n q) len q
        (λ is _. (name, subst (UsesChunk o name) (sym is) uses)) (λ _ old. way.needed q old) held;
    fit = way.fit;
  }

  pub chunk_from_b : (chunk : List ℕ) → Way o names a (without_chunk b chunk)
  chunk_from_b chunk = record {
    joined = way.joined;
    among_b = way.among_b;
    somewhere = way.somewhere;
    planned = way.planned;
    copied = λ q held. way.copied q (held_before b.chunks chunk q held);
    needed = way.needed;
    fit = way.fit;
  }

  pub chunk_from_a : (chunk : List ℕ) → Way o names (without_chunk a chunk) b
  chunk_from_a chunk = record {
    joined = way.joined;
    among_b = way.among_b;
    somewhere = way.somewhere;
    planned = way.planned;
    copied = way.copied;
    needed = λ q held. way.needed q (held_before a.chunks chunk q held);
    fit = way.fit;
  }

  -- FILES, each with its list of the origin

  second_new : {X : Type 0} (x y w : Option X) (v : X) → w ≡ either x y → w ≡ Some v → w ≡ either x (Some v)
  second_new None y w v was is = is
  second_new (Some u) y w v was is = was

  pub file_to_b : (name : List ℕ) (list : List (List ℕ)) → IsNamed names name → map.get o name ≡ Some list → Way o names a (with_file b name list)
  file_to_b name list listed found = record {
    joined = λ q. with_cases b.files name (λ x. map.get o q ≡ either (map.get a.files q) x) list q
        (λ is. second_new (map.get a.files q) (map.get b.files q) (map.get o q) list (way.joined q) (ap (map.get o) is ∙ found)) (λ _. way.joined q);
    among_b = λ q l. with_cases b.files name (λ x. x ≡ Some l → map.get o q ≡ Some l) list q (λ is e. ap (map.get o) is ∙ found ∙ e) (λ _ e. way.among_b q l e);
    somewhere = way.somewhere;
    planned = λ q. with_cases b.files name (λ x. is_some x ≡ true → IsNamed names q) list q (λ is _. subst (IsNamed names) (sym is) listed) (λ _ held. way.planned q held);
    copied = way.copied;
    needed = way.needed;
    fit = way.fit;
  }

  pub file_to_a : (name : List ℕ) (list : List (List ℕ)) → map.get o name ≡ Some list → Way o names (with_file a name list) b
  file_to_a name list found = record {
    joined = λ q. with_cases a.files name (λ x. map.get o q ≡ either x (map.get b.files q)) list q (λ is. ap (map.get o) is ∙ found) (λ _. way.joined q);
    among_b = way.among_b;
    somewhere = way.somewhere;
    planned = way.planned;
    copied = way.copied;
    needed = way.needed;
    fit = way.fit;
  }

  pub file_from_a : (name : List ℕ) (list : List (List ℕ)) → map.get b.files name ≡ Some list → Way o names (without_file a name) b
  file_from_a name list found = record {
    joined = λ q. without_cases a.files name (λ x. map.get o q ≡ either x (map.get b.files q)) q
        (λ is. ap (map.get o) is ∙ way.among_b name list found ∙ sym (ap (map.get b.files) is ∙ found)) (λ _. way.joined q);
    among_b = way.among_b;
    somewhere = way.somewhere;
    planned = way.planned;
    copied = way.copied;
    needed = way.needed;
    fit = way.fit;
  }

  pub file_from_b : (name : List ℕ) (list : List (List ℕ)) → map.get a.files name ≡ Some list → Way o names a (without_file b name)
  file_from_b name list found = record {
    joined = λ q. without_cases b.files name (λ x. map.get o q ≡ either (map.get a.files q) x) q
        (λ is. ap (map.get o) is ∙ among_a name list found ∙ sym (ap (λ x. either x None) (ap (map.get a.files) is ∙ found))) (λ _. way.joined q);
    among_b = λ q l. without_cases b.files name (λ x. x ≡ Some l → map.get o q ≡ Some l) q (λ _ e. absurd (none-some l e)) (λ _ e. way.among_b q l e);
    somewhere = way.somewhere;
    planned = λ q held. way.planned q (held_before b.files name q held);
    copied = way.copied;
    needed = way.needed;
    fit = way.fit;
  }
