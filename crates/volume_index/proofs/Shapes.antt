-- What a volume keeps, where a chunk or a file joins or leaves.
use Rattle.std.specs.Cmp.{tied_itself}
use Rattle.std.proofs.Common.{◌≡◌, ℕ, ◌+◌, ◌^◌, ◌≤◌, List, [], ◌∷◌, length, Bool, true, false, cond, Option, Some, None, refl, sym, ◌∙◌, ap, arith}
use Rattle.std.specs.Prelude.{is_some, not, ◌&&◌, ◌||◌, nat_le, sum_by, All, if◌then◌else◌}
use Rattle.std.specs.List.{list_all}
use Rattle.std.specs.Ordering.{eq_by_cmp, is_eq}
use Rattle.std.specs.Cmp.Lexicographic.{nat_list_cmp_total, texts_ties, same_text}
use Rattle.std.specs.Str.{bytes_eq}
use Rattle.std.specs.FinMap as map
use Rattle.std.proofs.lemmas.Bool.{true≢false, and_parts, and_from, not-true, false_from_ne_true, or_right, leb-true, le-leb}
use Rattle.std.proofs.lemmas.List.Sums.{sum_by-cons}
use Rattle.std.proofs.lemmas.List.Elements.{All-head, All-tail}
use Rattle.file_names.specs.FileNames.{IsFileName}
use Rattle.seed_model.specs.declared.limits.TheConstants.{MOST_FILES, MOST_CHUNKS, MOST_PAIRS}
use Rattle.site_forms.specs.Names.{is_name, is_listed}
use Rattle.site_forms.specs.VolumeRecords.{IsChunkName}
use Rattle.site_forms.specs.Volumes.{bytes_cmp, Files, Shape, used, pair_count, chunk_or, holds_all, keeps_limits, with_chunk, with_file, without_file, without_chunk, may_add_file}
use Rattle.site_forms.proofs.NameTests.{name_test}
use Rattle.volume_index.proofs.Alls.{all_values, get_with, get_without, still_held, keys_with_more, keys_with_less, values_with_more, values_with_less}
use Rattle.volume_index.proofs.Limits.{counts_decide}
use Rattle.volume_index.proofs.Users.{users_without}
use Rattle.volume_index.specs.HoldingValues.{KeepsShape}
use Rattle.volume_index.specs.Users.{use_of, user_count}

-- LISTS WHOSE CHUNKS ARE HELD

all_held : (p q : List ℕ → Bool) (list : List (List ℕ)) → ((x : List ℕ) → is_listed list x ≡ true → p x ≡ true → q x ≡ true) → list_all p list ≡ true → list_all q list ≡ true
all_held p q [] follows all = refl
all_held p q (x ∷ xs) follows all =
    let parts = and_parts (p x) (list_all p xs) all in
    and_from (q x) (list_all q xs) (follows x (ap (λ (b : Bool). b || is_listed xs x) (itself x)) parts.0)
    (all_held p q xs (λ y listed held. follows y (or_right (bytes_eq y x) (is_listed xs y) listed) held) parts.1)
  where
    itself : (y : List ℕ) → bytes_eq y y ≡ true
    itself y = texts_ties y y ∙ ap is_eq (tied_itself nat_list_cmp_total y)

-- a chunk of such a list is held
pub listed_held : (p : List ℕ → Bool) (list : List (List ℕ)) (q : List ℕ) → list_all p list ≡ true → is_listed list q ≡ true → p q ≡ true
listed_held p [] q all listed = absurd (true≢false (sym listed))
listed_held p (x ∷ xs) q all listed =
    let parts = and_parts (p x) (list_all p xs) all in
    elim (bytes_eq q x) as (λ b. bytes_eq q x ≡ b → (b || is_listed xs q) ≡ true → p q ≡ true) [
      | true ↦ λ ties _. ap p (same_text q x (sym ties)) ∙ parts.0
      | false ↦ λ _ later. listed_held p xs q parts.1 later
    ] refl listed

none_use : (q : List ℕ) (lists : List (List (List ℕ))) → All (λ list. is_listed list q ≡ false) lists → sum_by (use_of q) lists ≡ 0
none_use q [] none = refl
none_use q (list ∷ lists) none =
    omega (arith, sum_by-cons (use_of q) list lists, ap {B = ℕ} (λ (b : Bool). if b then 1 else 0) (All-head (λ l. is_listed l q ≡ false) list lists none), none_use q lists (All-tail (λ l. is_listed l q ≡ false) list lists none))

-- no file uses a chunk that is lacking
pub lacking_unused : (shape : Shape) (q : List ℕ) → KeepsShape shape → map.contains_key shape.chunks q ≡ false → user_count shape.files q ≡ 0
lacking_unused shape q keeps lacking = none_use q (map.values shape.files) (all_values shape.files (λ list. is_listed list q ≡ false) (λ name list is.
    false_from_ne_true (is_listed list q) (λ listed. true≢false (sym (listed_held (map.contains_key shape.chunks) list q (keeps.held name list is) listed) ∙ lacking))))

-- a list of a file uses no chunk that no file uses
user_none : (b : Bool) (n s : ℕ) → s ≡ (if b then 1 else 0) + n → s ≡ 0 → b ≡ false
user_none true n s is none = absurd (omega (arith, is, none))
user_none false n s is none = refl

pub unused_unlisted : (files : Files) (name : List ℕ) (list : List (List ℕ)) (q : List ℕ) → map.get files name ≡ Some list → user_count files q ≡ 0 → is_listed list q ≡ false
unused_unlisted files name list q is none = user_none (is_listed list q) (user_count (map.remove files name) q) (user_count files q) (users_without files name list q is) none

-- LIMITS, from the three counts

pub same_limits : (shape after : Shape) → KeepsShape shape → All (λ n. n ≤ 2 ^ 20) (map.values after.chunks) → after.files ≡ shape.files → keeps_limits (λ chunk. chunk_or 0 after chunk) after.files ≡ true
same_limits shape after keeps most same =
    counts_decide after after.files most
    ∙ ap (λ (f : Files). nat_le (map.len f) MOST_FILES && (nat_le (map.len (used f)) MOST_CHUNKS && nat_le (pair_count f) MOST_PAIRS)) same
    ∙ sym (counts_decide shape shape.files keeps.most)
    ∙ keeps.limits

-- A CHUNK MORE

pub keeps_with_chunk : (shape : Shape) (name : List ℕ) (len : ℕ) → KeepsShape shape → IsChunkName name → 1 ≤ len → len ≤ 2 ^ 20 → KeepsShape (with_chunk shape name len)
keeps_with_chunk shape name len keeps named some most =
    let lengths = values_with_more (λ n. n ≤ 2 ^ 20) shape.chunks name len most keeps.most in
    record {
      names = keeps.names;
      held = λ file list is. all_held (map.contains_key shape.chunks) (map.contains_key (map.insert shape.chunks name len)) list (λ x _ held. still_held shape.chunks name len x held) (keeps.held file list is);
      short = keeps.short;
      chunk_names = keys_with_more IsChunkName shape.chunks name len named keeps.chunk_names;
      some = values_with_more (λ n. 1 ≤ n) shape.chunks name len some keeps.some;
      most = lengths;
      limits = same_limits shape (with_chunk shape name len) keeps lengths refl;
    }

-- A CHUNK LESS, which no file uses

kept_else : (b : Bool) {X : Type 0} (o : Option X) → b ≡ false → is_some o ≡ true → is_some (cond b None o) ≡ true
kept_else true o other held = absurd (true≢false other)
kept_else false o other held = held

unlisted_apart : (list : List (List ℕ)) (name x : List ℕ) → is_listed list name ≡ false → is_listed list x ≡ true → eq_by_cmp bytes_cmp x name ≡ false
unlisted_apart list name x unlisted listed = false_from_ne_true (eq_by_cmp bytes_cmp x name) (λ ties.
    true≢false (sym listed ∙ ap (is_listed list) (same_text x name (sym (texts_ties x name ∙ ties))) ∙ unlisted))

pub keeps_without_chunk : (shape : Shape) (name : List ℕ) → KeepsShape shape → user_count shape.files name ≡ 0 → KeepsShape (without_chunk shape name)
keeps_without_chunk shape name keeps none =
    let lengths = values_with_less (λ n. n ≤ 2 ^ 20) shape.chunks name keeps.most in
    record {
      names = keeps.names;
      held = λ file list is. all_held (map.contains_key shape.chunks) (map.contains_key (map.remove shape.chunks name)) list
          (λ x listed held. ap is_some (map.get-remove nat_list_cmp_total shape.chunks name x)
          ∙ kept_else (eq_by_cmp bytes_cmp x name) (map.get shape.chunks x) (unlisted_apart list name x (unused_unlisted shape.files file list name is none) listed) held)
          (keeps.held file list is);
      short = keeps.short;
      chunk_names = keys_with_less IsChunkName shape.chunks name keeps.chunk_names;
      some = values_with_less (λ n. 1 ≤ n) shape.chunks name keeps.some;
      most = lengths;
      limits = same_limits shape (without_chunk shape name) keeps lengths refl;
    }

-- A FILE MORE

-- what lets a file be added
pub record MayAdd (shape : Shape) (name : List ℕ) (list : List (List ℕ)) : Type 0 where
  pub lawful : IsFileName name
  pub lacking : map.contains_key shape.files name ≡ false
  pub held : holds_all shape list ≡ true
  pub short : length list ≤ 524279
  pub limits : keeps_limits (λ chunk. chunk_or 0 shape chunk) (map.insert shape.files name list) ≡ true

pub may_add : (shape : Shape) (name : List ℕ) (list : List (List ℕ)) → may_add_file (λ n. n) 0 shape name list ≡ true → MayAdd shape name list
may_add shape name list may =
    let a = and_parts (is_name name) _ may in
    let b = and_parts (not (map.contains_key shape.files name)) _ a.1 in
    let c = and_parts (holds_all shape list) _ b.1 in
    let d = and_parts (nat_le (length list) 524279) _ c.1 in
    record {
      lawful = (name_test name).0 a.0;
      lacking = not-true (map.contains_key shape.files name) b.0;
      held = c.0;
      short = leb-true (length list) 524279 d.0;
      limits = d.1;
    }

pub keeps_with_file : (shape : Shape) (name : List ℕ) (list : List (List ℕ)) → KeepsShape shape → MayAdd shape name list → KeepsShape (with_file shape name list)
keeps_with_file shape name list keeps may = record {
  names = keys_with_more IsFileName shape.files name list may.lawful keeps.names;
  held = get_with (λ _ l. holds_all shape l ≡ true) shape.files name list may.held keeps.held;
  short = get_with (λ _ l. length l ≤ 524279) shape.files name list may.short keeps.short;
  chunk_names = keeps.chunk_names;
  some = keeps.some;
  most = keeps.most;
  limits = may.limits;
}

-- A FILE LESS

fewer_ok : (a b c d e f x y z : ℕ) → d ≤ a → e ≤ b → f ≤ c → (nat_le a x && (nat_le b y && nat_le c z)) ≡ true → (nat_le d x && (nat_le e y && nat_le f z)) ≡ true
fewer_ok a b c d e f x y z first second third all =
    let p = and_parts (nat_le a x) _ all in
    let q = and_parts (nat_le b y) _ p.1 in
    and_from (nat_le d x) _ (le-leb d x (omega (arith, first, leb-true a x p.0)))
    (and_from (nat_le e y) _ (le-leb e y (omega (arith, second, leb-true b y q.0)))
    (le-leb f z (omega (arith, third, leb-true c z q.1))))

pub keeps_without_file : (shape : Shape) (name : List ℕ) → KeepsShape shape → map.len (map.remove shape.files name) ≤ map.len shape.files → map.len (used (map.remove shape.files name)) ≤ map.len (used shape.files)
    → pair_count (map.remove shape.files name) ≤ pair_count shape.files → KeepsShape (without_file shape name)
keeps_without_file shape name keeps fewer fewer_used fewer_pairs = record {
  names = keys_with_less IsFileName shape.files name keeps.names;
  held = get_without (λ _ l. holds_all shape l ≡ true) shape.files name (λ q l _ is. keeps.held q l is);
  short = get_without (λ _ l. length l ≤ 524279) shape.files name (λ q l _ is. keeps.short q l is);
  chunk_names = keeps.chunk_names;
  some = keeps.some;
  most = keeps.most;
  limits =
      counts_decide shape (map.remove shape.files name) keeps.most
      ∙ fewer_ok (map.len shape.files) (map.len (used shape.files)) (pair_count shape.files) (map.len (map.remove shape.files name)) (map.len (used (map.remove shape.files name))) (pair_count (map.remove shape.files name)) MOST_FILES MOST_CHUNKS MOST_PAIRS
      fewer fewer_used fewer_pairs (sym (counts_decide shape shape.files keeps.most) ∙ keeps.limits);
}
