-- A volume with the chunks of the blocks of a file, in memory.
use Rattle.std.proofs.Common.{◌≡◌, ⊎_elim, ℕ, ◌+◌, ◌*◌, ◌^◌, ◌<◌, ◌≤◌, List, [], ◌∷◌, ◌++◌, length, Bool, true, false, cond, refl, sym, ◌∙◌, ap, arith}
use Rattle.std.specs.Prelude.{All, Option, Some, None, map as each, not, ◌||◌, ◌&&◌, nat_le, sum_by, is_some}
use Rattle.std.specs.List.{filter}
use Rattle.std.specs.Str.{bytes_eq}
use Rattle.std.specs.FinMap as map
use Rattle.std.specs.Cmp.Lexicographic.{nat_list_cmp_total, same_text, texts_ties}
use Rattle.std.specs.Ordering.{eq_by_cmp}
use Rattle.std.proofs.lemmas.Bool.{and_from, and_parts, leb-true, le-leb, cases_lt}
use Rattle.std.proofs.lemmas.List.{append-nil, append_assoc, length-append, length-map}
use Rattle.std.proofs.lemmas.List.Sums.{sum_by-cons}
use Rattle.std.proofs.lemmas.List.Elements.{All-head, All-tail}
use Rattle.sha2.specs.Sha256.{sha256}
use Rattle.sha2.proofs.Facts256.{length-sha256}
use Rattle.seed_model.specs.declared.limits.TheConstants.{MOST_FILES, MOST_CHUNKS, MOST_PAIRS, MOST_BYTES}
use Rattle.recipe_reader.specs.declared.error.What.{What}
use Rattle.recipe_reader.specs.declared.error.What.TheVariants.{Files as FilesPast, Chunks, Bytes, Pairs}
use Rattle.site_forms.specs.Names.{is_listed}
use Rattle.site_forms.specs.VolumeRecords.{IsChunk, VolumeRecord}
use Rattle.site_forms.specs.VolumeRecords.VolumeRecord.{ChunkRecord}
use Rattle.site_forms.specs.Volumes.{Files, Shape, bytes_cmp, chunk_or, distinct_count, keeps_limits, pair_count, used, used_bytes, with_chunk}
use Rattle.volume_index.specs.HoldingValues.{KeepsShape}
use Rattle.volume_index.proofs.Limits.{short_chunk}
use Rattle.volume_index.proofs.Sets.{count_none}
use Rattle.volume_index.proofs.Shapes.{keeps_with_chunk}
use Rattle.volume_index.proofs.Users.{pairs_with, used_with}
use Rattle.seed_mover.specs.declared.putting.blocks.NewCounts.{NewCounts}
use Rattle.seed_mover.specs.Blocks.{CountsNew, JudgesCounts, is_lacking}
use Rattle.seed_mover.specs.Putting.{IsPast, IsWithin, KeepsAll, LacksFile, files_with, length_with, new_chunks, with_block, with_blocks}
use Rattle.seed_mover.proofs.FirstPlaces.{count_more}

-- WHAT IS HELD

pub with_held : (a : Shape) (block : List ℕ) → map.contains_key a.chunks (sha256 block) ≡ true → with_block a block ≡ a
with_held a block is = ap (λ (b : Bool). cond b a (with_chunk a (sha256 block) (length block))) is

pub with_new : (a : Shape) (block : List ℕ) → map.contains_key a.chunks (sha256 block) ≡ false → with_block a block ≡ with_chunk a (sha256 block) (length block)
with_new a block is = ap (λ (b : Bool). cond b a (with_chunk a (sha256 block) (length block))) is

pub blocks_behind : (a : Shape) (front rest : List (List ℕ)) → with_blocks a (front ++ rest) ≡ with_blocks (with_blocks a front) rest
blocks_behind a [] rest = refl
blocks_behind a (block ∷ front) rest = blocks_behind (with_block a block) front rest

-- files stay
pub same_files : (a : Shape) (blocks : List (List ℕ)) → (with_blocks a blocks).files ≡ a.files
same_files a [] = refl
same_files a (block ∷ blocks) = same_files (with_block a block) blocks ∙ one (map.contains_key a.chunks (sha256 block))
  where
    one : (b : Bool) → (cond b a (with_chunk a (sha256 block) (length block))).files ≡ a.files
    one true = refl
    one false = refl

some_by : (t : Bool) (o : Option ℕ) (n : ℕ) → is_some (cond t (Some n) o) ≡ (is_some o || t)
some_by true None n = refl
some_by true (Some m) n = refl
some_by false None n = refl
some_by false (Some m) n = refl

one_held_by : (a : Shape) (block q : List ℕ) (b : Bool) → map.contains_key a.chunks (sha256 block) ≡ b
    → map.contains_key (cond b a (with_chunk a (sha256 block) (length block))).chunks q ≡ (map.contains_key a.chunks q || bytes_eq q (sha256 block))
one_held_by a block q true is = held_by (map.contains_key a.chunks q) (bytes_eq q (sha256 block)) (λ ties. ap (map.contains_key a.chunks) (same_text q (sha256 block) (sym ties)) ∙ is)
  where
    held_by : (h t : Bool) → (t ≡ true → h ≡ true) → h ≡ (h || t)
    held_by true t same = refl
    held_by false true same = same refl
    held_by false false same = refl
one_held_by a block q false is =
    ap is_some (map.get-insert nat_list_cmp_total a.chunks (sha256 block) (length block) q)
    ∙ some_by (eq_by_cmp bytes_cmp q (sha256 block)) (map.get a.chunks q) (length block)
    ∙ ap (λ (b : Bool). map.contains_key a.chunks q || b) (sym (texts_ties q (sha256 block)))

pub one_held : (a : Shape) (block q : List ℕ) → map.contains_key (with_block a block).chunks q ≡ (map.contains_key a.chunks q || bytes_eq q (sha256 block))
one_held a block q = one_held_by a block q (map.contains_key a.chunks (sha256 block)) refl

or_behind : (a b c : Bool) → ((a || b) || c) ≡ (a || (b || c))
or_behind true b c = refl
or_behind false b c = refl

or_none : (a : Bool) → a ≡ (a || false)
or_none true = refl
or_none false = refl

pub all_held : (a : Shape) (blocks : List (List ℕ)) (q : List ℕ) → map.contains_key (with_blocks a blocks).chunks q ≡ (map.contains_key a.chunks q || is_listed (each sha256 blocks) q)
all_held a [] q = or_none (map.contains_key a.chunks q)
all_held a (block ∷ blocks) q =
    all_held (with_block a block) blocks q
    ∙ ap (λ (b : Bool). b || is_listed (each sha256 blocks) q) (one_held a block q)
    ∙ or_behind (map.contains_key a.chunks q) (bytes_eq q (sha256 block)) (is_listed (each sha256 blocks) q)

-- it keeps what every volume does
keeps_one : (a : Shape) (block : List ℕ) → KeepsShape a → IsChunk block → KeepsShape (with_block a block)
keeps_one a block keeps chunk = by (map.contains_key a.chunks (sha256 block))
  where
    by : (b : Bool) → KeepsShape (cond b a (with_chunk a (sha256 block) (length block)))
    by true = keeps
    by false = keeps_with_chunk a (sha256 block) (length block) keeps (length-sha256 block) chunk.some chunk.most

pub keeps_all : (a : Shape) (blocks : List (List ℕ)) → KeepsShape a → All IsChunk blocks → KeepsShape (with_blocks a blocks)
keeps_all a [] keeps all = keeps
keeps_all a (block ∷ blocks) keeps all = keeps_all (with_block a block) blocks (keeps_one a block keeps (All-head IsChunk block blocks all)) (All-tail IsChunk block blocks all)

-- THE RECORDS

abbrev pub one_new : Shape → List ℕ → List VolumeRecord
one_new a block = cond (map.contains_key a.chunks (sha256 block)) [] (ChunkRecord (sha256 block) block ∷ [])

pub new_front : (a : Shape) (block : List ℕ) (rest : List (List ℕ)) → new_chunks a (block ∷ rest) ≡ one_new a block ++ new_chunks (with_block a block) rest
new_front a block rest = by (map.contains_key a.chunks (sha256 block))
  where
    by : (b : Bool) → cond b (new_chunks a rest) (ChunkRecord (sha256 block) block ∷ new_chunks (with_chunk a (sha256 block) (length block)) rest)
        ≡ cond b [] (ChunkRecord (sha256 block) block ∷ []) ++ new_chunks (cond b a (with_chunk a (sha256 block) (length block))) rest
    by true = refl
    by false = refl

pub new_behind : (a : Shape) (front rest : List (List ℕ)) → new_chunks a (front ++ rest) ≡ new_chunks a front ++ new_chunks (with_blocks a front) rest
new_behind a [] rest = refl
new_behind a (block ∷ front) rest =
    new_front a block (front ++ rest)
    ∙ ap (λ l. one_new a block ++ l) (new_behind (with_block a block) front rest)
    ∙ sym (append_assoc (one_new a block) (new_chunks (with_block a block) front) (new_chunks (with_blocks (with_block a block) front) rest))
    ∙ ap (λ l. l ++ new_chunks (with_blocks (with_block a block) front) rest) (sym (new_front a block front))

-- as many as there are new names
more_by : (h l : Bool) (n : ℕ) → cond l n (n + cond (not h) 1 0) ≡ n + cond (h || l) 0 1
more_by true true n = omega arith
more_by true false n = refl
more_by false true n = omega arith
more_by false false n = refl

one_length : (a : Shape) (block : List ℕ) → length (one_new a block) ≡ cond (map.contains_key a.chunks (sha256 block)) 0 1
one_length a block = by (map.contains_key a.chunks (sha256 block))
  where
    by : (b : Bool) → length (cond b [] (ChunkRecord (sha256 block) block ∷ [])) ≡ cond b 0 1
    by true = refl
    by false = refl

each_push : (front : List (List ℕ)) (block : List ℕ) → each sha256 (front ++ block ∷ []) ≡ each sha256 front ++ sha256 block ∷ []
each_push [] block = refl
each_push (b ∷ front) block = ap (λ l. sha256 b ∷ l) (each_push front block)

pub push_front : (front : List (List ℕ)) (block : List ℕ) (rest : List (List ℕ)) → (front ++ block ∷ []) ++ rest ≡ front ++ block ∷ rest
push_front [] block rest = refl
push_front (b ∷ front) block rest = ap (λ l. b ∷ l) (push_front front block rest)

new_count_from : (a : Shape) (front rest : List (List ℕ))
    → distinct_count (filter (is_lacking a) (each sha256 (front ++ rest))) ≡ distinct_count (filter (is_lacking a) (each sha256 front)) + length (new_chunks (with_blocks a front) rest)
new_count_from a front [] = ap (λ l. distinct_count (filter (is_lacking a) (each sha256 l))) (append-nil front) ∙ omega arith
new_count_from a front (block ∷ rest) =
    let name = sha256 block in
    let u = with_blocks a front in
    let count : List (List ℕ) → ℕ = λ l. distinct_count (filter (is_lacking a) (each sha256 l)) in
    let here : count (front ++ block ∷ []) ≡ count front + cond (map.contains_key u.chunks name) 0 1 =
    ap (λ l. distinct_count (filter (is_lacking a) l)) (each_push front block)
    ∙ count_more (is_lacking a) (each sha256 front) name
    ∙ more_by (map.contains_key a.chunks name) (is_listed (each sha256 front) name) (count front)
    ∙ ap (λ (b : Bool). count front + cond b 0 1) (sym (all_held a front name)) in
    let later : count ((front ++ block ∷ []) ++ rest) ≡ count (front ++ block ∷ []) + length (new_chunks (with_blocks a (front ++ block ∷ [])) rest) = new_count_from a (front ++ block ∷ []) rest in
    let whole : length (new_chunks u (block ∷ rest)) ≡ cond (map.contains_key u.chunks name) 0 1 + length (new_chunks (with_blocks a (front ++ block ∷ [])) rest) =
    ap length (new_front u block rest)
    ∙ length-append (one_new u block) (new_chunks (with_block u block) rest)
    ∙ ap (λ (n : ℕ). n + length (new_chunks (with_block u block) rest)) (one_length u block)
    ∙ ap (λ (x : Shape). cond (map.contains_key u.chunks name) 0 1 + length (new_chunks x rest)) (sym (blocks_behind a front (block ∷ []))) in
    ap count (sym (push_front front block rest)) ∙ omega (arith, here, later, whole)

pub new_count : (a : Shape) (blocks : List (List ℕ)) → distinct_count (filter (is_lacking a) (each sha256 blocks)) ≡ length (new_chunks a blocks)
new_count a blocks = new_count_from a [] blocks ∙ omega (arith, count_none)

-- LIMITS

sum_short : (f : List ℕ → ℕ) → ((x : List ℕ) → f x ≤ 2 ^ 20) → (xs : List (List ℕ)) → sum_by f xs ≤ length xs * 2 ^ 20
sum_short f short [] = omega arith
sum_short f short (x ∷ xs) = omega (arith, sum_by-cons f x xs, short x, sum_short f short xs)

module _ (a : Shape) (name : List ℕ) (blocks : List (List ℕ)) (c : NewCounts) (lacks : LacksFile a name) (counts : CountsNew a (each sha256 blocks) c) where
  file_count : map.len (files_with a name blocks) ≡ map.len a.files + 1
  file_count = map.len-insert nat_list_cmp_total a.files name (each sha256 blocks) ∙ ap (λ (b : Bool). cond b (map.len a.files) (map.len a.files + 1)) lacks

  chunk_count : map.len (used (files_with a name blocks)) ≡ map.len (used a.files) + c.unused
  chunk_count = used_with a.files name (each sha256 blocks) lacks ∙ ap (λ (n : ℕ). map.len (used a.files) + n) (sym counts.unused)

  pairs : pair_count (files_with a name blocks) ≡ pair_count a.files + c.names
  pairs = pairs_with a.files name (each sha256 blocks) lacks ∙ omega (arith, counts.names_are)

  few_bytes : KeepsShape a → All IsChunk blocks → map.len (used a.files) + c.unused ≤ MOST_CHUNKS → used_bytes (length_with a name blocks) (files_with a name blocks) ≤ MOST_BYTES
  few_bytes keeps chunks few =
      let files = files_with a name blocks in
      let keys = map.keys (used files) in
      let many : length keys ≡ map.len (used files) = length-map (map.entries (used files)) (λ (e : List ℕ × Unit {0}). e.0) ∙ sym (map.len-entries (used files)) in
      omega (arith, few, chunk_count, many, sum_short (length_with a name blocks) (short_chunk (with_blocks a blocks) (keeps_all a blocks keeps chunks).most) keys)

  pub judged_within : KeepsShape a → All IsChunk blocks → JudgesCounts a c None → IsWithin a name blocks
  judged_within keeps chunks judged FilesPast = λ past. omega (arith, past, file_count, judged.0.0)
  judged_within keeps chunks judged Chunks = λ past. omega (arith, past, chunk_count, judged.0.1)
  judged_within keeps chunks judged Bytes = λ past. omega (arith, past, few_bytes keeps chunks judged.0.1)
  judged_within keeps chunks judged Pairs = λ past. omega (arith, past, pairs, judged.1)

  pub judged_past : KeepsShape a → All IsChunk blocks → (what : What) → JudgesCounts a c (Some what) → IsPast a name blocks what
  judged_past keeps chunks FilesPast judged = omega (arith, judged, file_count)
  judged_past keeps chunks Chunks judged = (λ past. omega (arith, past, file_count, judged.0), omega (arith, judged.1, chunk_count))
  judged_past keeps chunks Bytes judged = absurd judged
  judged_past keeps chunks Pairs judged =
      (λ past. omega (arith, past, file_count, judged.0.0), λ past. omega (arith, past, chunk_count, judged.0.1), λ past. omega (arith, past, few_bytes keeps chunks judged.0.1), omega (arith, judged.1, pairs))

-- files that pass no limit keep the limits
pub within_limits : (length_of : List ℕ → ℕ) (files : Files) → KeepsAll length_of files → keeps_limits length_of files ≡ true
within_limits length_of files within =
    let least : (m n : ℕ) → ¬ (n < m) → nat_le m n ≡ true = λ m n no. ⊎_elim (λ past. absurd (no past)) (λ few. le-leb m n few) (cases_lt n m) in
    and_from (nat_le (map.len files) MOST_FILES) (nat_le (map.len (used files)) MOST_CHUNKS && (nat_le (pair_count files) MOST_PAIRS && nat_le (used_bytes length_of files) MOST_BYTES))
    (least (map.len files) MOST_FILES (within FilesPast))
    (and_from (nat_le (map.len (used files)) MOST_CHUNKS) (nat_le (pair_count files) MOST_PAIRS && nat_le (used_bytes length_of files) MOST_BYTES)
    (least (map.len (used files)) MOST_CHUNKS (within Chunks))
    (and_from (nat_le (pair_count files) MOST_PAIRS) (nat_le (used_bytes length_of files) MOST_BYTES) (least (pair_count files) MOST_PAIRS (within Pairs)) (least (used_bytes length_of files) MOST_BYTES (within Bytes))))

-- what a volume's files keep
pub few_files : (a : Shape) → KeepsShape a → (map.len a.files ≤ MOST_FILES) × (map.len (used a.files) ≤ MOST_CHUNKS) × (pair_count a.files ≤ MOST_PAIRS)
few_files a keeps =
    let bytes = nat_le (used_bytes (λ chunk. chunk_or 0 a chunk) a.files) MOST_BYTES in
    let first = and_parts (nat_le (map.len a.files) MOST_FILES) (nat_le (map.len (used a.files)) MOST_CHUNKS && (nat_le (pair_count a.files) MOST_PAIRS && bytes)) keeps.limits in
    let second = and_parts (nat_le (map.len (used a.files)) MOST_CHUNKS) (nat_le (pair_count a.files) MOST_PAIRS && bytes) first.1 in
    let third = and_parts (nat_le (pair_count a.files) MOST_PAIRS) bytes second.1 in
    (leb-true (map.len a.files) MOST_FILES first.0, leb-true (map.len (used a.files)) MOST_CHUNKS second.0, leb-true (pair_count a.files) MOST_PAIRS third.0)
