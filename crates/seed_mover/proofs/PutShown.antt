-- What a site shows while a file is put: its chunks change no view, and its record adds its bytes under its name.
use Rattle.std.proofs.Common.{◌≡◌, ◌⊎◌, inl, inr, ⊎_elim, ℕ, List, [], ◌∷◌, ◌++◌, length, Bool, true, false, cond, Option, Some, None, refl, sym, ◌∙◌, ap, subst}
use Rattle.std.specs.Prelude.{map as each, All, Contains, is_some, unwrap_or, if◌then◌else◌}
use Rattle.std.specs.List.{concat}
use Rattle.std.specs.Option.{option_map}
use Rattle.std.specs.Str.{bytes_eq}
use Rattle.std.specs.FinMap as map
use Rattle.std.proofs.lemmas.Bool.{true≢false, false_from_ne_true}
use Rattle.std.proofs.lemmas.List.Elements.{All-cons, All-head, All-nil, All-tail, Contains-append_left, Contains-append_right, Contains-push}
use Rattle.sha2.specs.Sha256.{sha256}
use Rattle.sha2.proofs.Facts256.{length-sha256}
use Rattle.volume_disk.specs.Disk.{Disk, Images, Crash}
use Rattle.site_forms.specs.Sites.{shape_of}
use Rattle.site_forms.specs.Views.{State, content, joined_bytes, view}
use Rattle.site_forms.specs.VolumeRecords.{IsChunk, VolumeRecord}
use Rattle.site_forms.specs.VolumeRecords.VolumeRecord.{ChunkRecord, FileRecord}
use Rattle.site_forms.specs.Volumes.{Shape, Volume, may_add_file, volume_after, with_chunk, with_file}
use Rattle.volume_index.specs.HoldingValues.{KeepsShape}
use Rattle.volume_index.proofs.Alls.{get_with, held_value}
use Rattle.volume_index.proofs.MapValues.{insert-map_values}
use Rattle.site_core.proofs.Shapes.{same_held}
use Rattle.volume_index.proofs.Shapes.{keeps_with_chunk}
use Rattle.chunk_volume.specs.ReadingVolumes.{HasBytes}
use Rattle.site_core.specs.Events.{Append, Shapes, after, happens, happens_to, shapes_of}
use Rattle.site_core.specs.Events.Append.{ToA}
use Rattle.site_core.specs.Events.Event.{Appends}
use Rattle.site_core.proofs.Contents.{content_with_chunk, or_value}
use Rattle.site_core.proofs.Folding.{and_then_some, shapes_step, volume_keeps}
use Rattle.site_core.proofs.Maps.{equal_bytes, get_new, get_old, some_same}
use Rattle.site_core.proofs.Turning.{if_some, mapped}
use Rattle.site_core.specs.Plans.{IsFrontOf, Led, after_plan}
use Rattle.site_runs.specs.SiteValues.{SiteStands, SiteValue}
use Rattle.site_runs.proofs.Fronts.{plan_joined}
use Rattle.site_runs.proofs.Settled.{state_settled}
use Rattle.seed_mover.specs.Plans.{shapes_after}
use Rattle.seed_mover.specs.PutParts.{chunk_append, chunk_plan}
use Rattle.seed_mover.specs.Putting.{AreKept, LeavesShown, ShowsSame, ShowsWith, new_chunks, put_plan, put_records}
use Rattle.seed_mover.proofs.Listed.{shapes_behind}

-- APPENDS OF CHUNKS

abbrev pub AreChunks : List Append → Type 0
AreChunks [] = Unit {0}
AreChunks (x ∷ plan) = ((block : List ℕ) × (x ≡ chunk_append block) × IsChunk block) × AreChunks plan

pub plan_chunks : (a : Shape) (blocks : List (List ℕ)) → All IsChunk blocks → AreChunks (chunk_plan a blocks)
plan_chunks a [] all = tt
plan_chunks a (block ∷ blocks) all =
    elim (map.contains_key a.chunks (sha256 block)) as (λ b. AreChunks (each ToA (cond b (new_chunks a blocks) (ChunkRecord (sha256 block) block ∷ new_chunks (with_chunk a (sha256 block) (length block)) blocks)))) [
      | true ↦ plan_chunks a blocks (All-tail IsChunk block blocks all)
      | false ↦ ((block, refl, All-head IsChunk block blocks all), plan_chunks (with_chunk a (sha256 block) (length block)) blocks (All-tail IsChunk block blocks all))
    ]

front_chunks : (done rest : List Append) → AreChunks (done ++ rest) → AreChunks done
front_chunks [] rest are = tt
front_chunks (x ∷ done) rest are = (are.0, front_chunks done rest are.1)

-- ONE CHUNK

-- a volume with the chunk of a block, where it lacks it
abbrev pub chunk_in : Volume → List ℕ → Volume
chunk_in a block = cond (map.contains_key a.chunks (sha256 block)) a (with_chunk a (sha256 block) block)

abbrev pub in_a : State → Volume → State
in_a s a = record { a = a; b = s.b; phase = s.phase }

pub after_chunk : (s : State) (block : List ℕ) → after s (Appends (chunk_append block)) ≡ in_a s (chunk_in s.a block)
after_chunk s block = by (map.contains_key s.a.chunks (sha256 block))
  where
    by : (b : Bool) → unwrap_or (option_map (λ (a : Volume). record s { a = a }) (cond b None (Some (with_chunk s.a (sha256 block) block)))) s ≡ in_a s (cond b s.a (with_chunk s.a (sha256 block) block))
    by true = refl
    by false = refl

pub shape_with : (volume : Volume) (name bytes : List ℕ) → with_chunk (shape_of volume) name (length bytes) ≡ shape_of (with_chunk volume name bytes)
shape_with volume name bytes = λ i. record { chunks = sym (insert-map_values length volume.chunks name bytes) i; files = volume.files }

chunk_keeps : (a : Volume) (block : List ℕ) → IsChunk block → KeepsShape (shape_of a) → KeepsShape (shape_of (chunk_in a block))
chunk_keeps a block is keeps = by (map.contains_key a.chunks (sha256 block))
  where
    by : (b : Bool) → KeepsShape (shape_of (cond b a (with_chunk a (sha256 block) block)))
    by true = keeps
    by false = subst KeepsShape (shape_with a (sha256 block) block) (keeps_with_chunk (shape_of a) (sha256 block) (length block) keeps (length-sha256 block) is.some is.most)

chunk_content : (a : Volume) (block name : List ℕ) → KeepsShape (shape_of a) → content (chunk_in a block) name ≡ content a name
chunk_content a block name keeps = by (map.contains_key a.chunks (sha256 block)) refl
  where
    by : (b : Bool) → map.contains_key a.chunks (sha256 block) ≡ b → content (cond b a (with_chunk a (sha256 block) block)) name ≡ content a name
    by true is = refl
    by false is = content_with_chunk a (sha256 block) block name keeps is

chunk_files : (a : Volume) (block : List ℕ) → (chunk_in a block).files ≡ a.files
chunk_files a block = by (map.contains_key a.chunks (sha256 block))
  where
    by : (b : Bool) → (cond b a (with_chunk a (sha256 block) block)).files ≡ a.files
    by true = refl
    by false = refl

-- a state with more chunks, that shows the same
pub record HasMoreChunks (s t : State) : Type 0 where
  pub keeps : KeepsShape (shape_of t.a)
  pub shown : ShowsSame s t
  pub files : t.a.files ≡ s.a.files
  pub other : t.b ≡ s.b

chunk_shown : (s : State) (block : List ℕ) → IsChunk block → KeepsShape (shape_of s.a) → HasMoreChunks s (in_a s (chunk_in s.a block))
chunk_shown s block is keeps = record {
  keeps = chunk_keeps s.a block is keeps;
  shown = λ name. λ i. if map.contains_key (chunk_files s.a block i) name then chunk_content s.a block name keeps i else content s.b name;
  files = chunk_files s.a block;
  other = refl;
}

pub chunks_shown : (s : State) (done : List Append) → AreChunks done → KeepsShape (shape_of s.a) → HasMoreChunks s (after_plan s done)
chunks_shown s [] are keeps = record { keeps = keeps; shown = λ name. refl; files = refl; other = refl }
chunks_shown s (x ∷ done) are keeps =
    let block = are.0.0 in
    let t = in_a s (chunk_in s.a block) in
    let is : after s (Appends x) ≡ t = ap (λ (y : Append). after s (Appends y)) are.0.1 ∙ after_chunk s block in
    let one = chunk_shown s block are.0.2 keeps in
    let rest = chunks_shown t done are.1 one.keeps in
    subst (λ (u : State). HasMoreChunks s (after_plan u done)) (sym is)
    (record { keeps = rest.keeps; shown = λ name. rest.shown name ∙ one.shown name; files = rest.files ∙ one.files; other = rest.other ∙ one.other })

-- THEIR BYTES

stays_in : (a : Volume) (block name bytes : List ℕ) → HasBytes a name bytes → HasBytes (chunk_in a block) name bytes
stays_in a block name bytes is = by (map.contains_key a.chunks (sha256 block)) refl
  where
    by : (b : Bool) → map.contains_key a.chunks (sha256 block) ≡ b → HasBytes (cond b a (with_chunk a (sha256 block) block)) name bytes
    by true held = is
    by false lacking =
        get_old a.chunks (sha256 block) block name (false_from_ne_true (bytes_eq name (sha256 block)) (λ ties. true≢false (sym (ap is_some is) ∙ ap (map.contains_key a.chunks) (equal_bytes name (sha256 block) ties) ∙ lacking)))
        ∙ is

there_in : (a : Volume) (block : List ℕ) → ((bytes : List ℕ) → HasBytes a (sha256 block) bytes → bytes ≡ block) → HasBytes (chunk_in a block) (sha256 block) block
there_in a block same = by (map.contains_key a.chunks (sha256 block)) refl
  where
    by : (b : Bool) → map.contains_key a.chunks (sha256 block) ≡ b → HasBytes (cond b a (with_chunk a (sha256 block) block)) (sha256 block) block
    by true held = let its = held_value a.chunks (sha256 block) held in its.1 ∙ ap Some (same its.0 its.1)
    by false lacking = get_new a.chunks (sha256 block) block

first_of_all : (block : List ℕ) (rest : List (List ℕ)) → Contains (block ∷ rest) block
first_of_all block rest = Contains-append_left (block ∷ []) rest block (Contains-push [] block)

later_of_all : (block : List ℕ) (rest : List (List ℕ)) (other : List ℕ) → Contains rest other → Contains (block ∷ rest) other
later_of_all block rest other within = Contains-append_right (block ∷ []) rest other within

kept_in : (a : Volume) (block : List ℕ) (rest : List (List ℕ)) → AreKept a (block ∷ rest) → AreKept (chunk_in a block) rest
kept_in a block rest kept = record {
  held = λ other bytes within has. by other bytes within (map.contains_key a.chunks (sha256 block)) has;
  alike = λ one other in_one in_other same. kept.alike one other (later_of_all block rest one in_one) (later_of_all block rest other in_other) same;
}
  where
    by : (other bytes : List ℕ) → Contains rest other → (b : Bool) → HasBytes (cond b a (with_chunk a (sha256 block) block)) (sha256 other) bytes → bytes ≡ other
    by other bytes within true has = kept.held other bytes (later_of_all block rest other within) has
    by other bytes within false has =
        get_with (λ q w. q ≡ sha256 other → w ≡ other) a.chunks (sha256 block) block
        (λ same. kept.alike other block (later_of_all block rest other within) (first_of_all block rest) same)
        (λ q w is same. kept.held other w (later_of_all block rest other within) (ap (map.get a.chunks) (sym same) ∙ is)) (sha256 other) bytes has refl

-- a volume with the chunks of all blocks
abbrev pub volume_with : Volume → List (List ℕ) → Volume
volume_with a [] = a
volume_with a (block ∷ blocks) = volume_with (chunk_in a block) blocks

stay_in : (a : Volume) (blocks : List (List ℕ)) (name bytes : List ℕ) → HasBytes a name bytes → HasBytes (volume_with a blocks) name bytes
stay_in a [] name bytes is = is
stay_in a (block ∷ blocks) name bytes is = stay_in (chunk_in a block) blocks name bytes (stays_in a block name bytes is)

all_in : (a : Volume) (blocks : List (List ℕ)) → AreKept a blocks → All (λ block. HasBytes (volume_with a blocks) (sha256 block) block) blocks
all_in a [] kept = All-nil (λ block. HasBytes a (sha256 block) block)
all_in a (block ∷ blocks) kept =
    let v = volume_with (chunk_in a block) blocks in
    All-cons (λ other. HasBytes v (sha256 other) other) block blocks
    (stay_in (chunk_in a block) blocks (sha256 block) block (there_in a block (λ bytes has. kept.held block bytes (first_of_all block blocks) has)))
    (all_in (chunk_in a block) blocks (kept_in a block blocks kept))

joined_by : (v : Volume) (blocks : List (List ℕ)) → All (λ block. HasBytes v (sha256 block) block) blocks → joined_bytes v (each sha256 blocks) ≡ concat blocks
joined_by v [] all = refl
joined_by v (block ∷ blocks) all = λ i.
    or_value v (sha256 block) block (All-head (λ (b : List ℕ). HasBytes v (sha256 b) b) block blocks all) i
    ++ joined_by v blocks (All-tail (λ (b : List ℕ). HasBytes v (sha256 b) b) block blocks all) i

pub joined_all : (a : Volume) (blocks : List (List ℕ)) → AreKept a blocks → joined_bytes (volume_with a blocks) (each sha256 blocks) ≡ concat blocks
joined_all a blocks kept = joined_by (volume_with a blocks) blocks (all_in a blocks kept)

-- THE STATE BEHIND THE CHUNKS

held_in : (a : Volume) (block : List ℕ) → map.contains_key a.chunks (sha256 block) ≡ true → chunk_in a block ≡ a
held_in a block is = ap (λ (b : Bool). cond b a (with_chunk a (sha256 block) block)) is

pub lacking_in : (a : Volume) (block : List ℕ) → map.contains_key a.chunks (sha256 block) ≡ false → chunk_in a block ≡ with_chunk a (sha256 block) block
lacking_in a block is = ap (λ (b : Bool). cond b a (with_chunk a (sha256 block) block)) is

pub chunks_state : (s : State) (a : Shape) (blocks : List (List ℕ)) → shape_of s.a ≡ a → after_plan s (chunk_plan a blocks) ≡ in_a s (volume_with s.a blocks)
chunks_state s a [] is = refl
chunks_state s a (block ∷ blocks) is =
    let n = sha256 block in
    let told : map.contains_key s.a.chunks n ≡ map.contains_key a.chunks n = sym (same_held s.a n) ∙ ap (λ (x : Shape). map.contains_key x.chunks n) is in
    elim (map.contains_key a.chunks n) as (λ b. map.contains_key a.chunks n ≡ b
    → after_plan s (each ToA (cond b (new_chunks a blocks) (ChunkRecord n block ∷ new_chunks (with_chunk a n (length block)) blocks))) ≡ in_a s (volume_with (chunk_in s.a block) blocks)) [
      | true ↦ λ held. chunks_state s a blocks is ∙ ap (λ (v : Volume). in_a s (volume_with v blocks)) (sym (held_in s.a block (told ∙ held)))
      | false ↦ λ lacking.
          let t = in_a s (chunk_in s.a block) in
          let shape : shape_of t.a ≡ with_chunk a n (length block) = ap shape_of (lacking_in s.a block (told ∙ lacking)) ∙ sym (shape_with s.a n block) ∙ ap (λ (x : Shape). with_chunk x n (length block)) is in
          ap (λ (u : State). after_plan u (chunk_plan (with_chunk a n (length block)) blocks)) (after_chunk s block) ∙ chunks_state t (with_chunk a n (length block)) blocks shape
    ] refl

-- THE FILE

abbrev pub file_append : List ℕ → List (List ℕ) → Append
file_append name blocks = ToA (FileRecord name (each sha256 blocks))

-- the chunks and then the file
pub put_split : (a : Shape) (name : List ℕ) (blocks : List (List ℕ)) → each ToA (put_records a name blocks) ≡ chunk_plan a blocks ++ file_append name blocks ∷ []
put_split a name blocks = split (new_chunks a blocks)
  where
    split : (rs : List VolumeRecord) → each ToA (rs ++ FileRecord name (each sha256 blocks) ∷ []) ≡ each ToA rs ++ file_append name blocks ∷ []
    split [] = refl
    split (r ∷ rs) = ap (λ (l : List Append). ToA r ∷ l) (split rs)

last_state : (s : State) (name : List ℕ) (blocks : List (List ℕ)) → after_plan s (put_plan (shapes_of s) name blocks) ≡ after (after_plan s (chunk_plan (shape_of s.a) blocks)) (Appends (file_append name blocks))
last_state s name blocks = ap (after_plan s) (put_split (shape_of s.a) name blocks) ∙ plan_joined s (chunk_plan (shape_of s.a) blocks) (file_append name blocks ∷ [])

module _ (u : State) (name : List ℕ) (list : List (List ℕ)) where
  after_file : after u (Appends (ToA (FileRecord name list))) ≡ cond (may_add_file length [] u.a name list) (in_a u (with_file u.a name list)) u
  after_file = by (may_add_file length [] u.a name list)
    where
      by : (b : Bool) → unwrap_or (option_map (λ (a : Volume). record u { a = a }) (cond b (Some (with_file u.a name list)) None)) u ≡ cond b (in_a u (with_file u.a name list)) u
      by true = refl
      by false = refl

  with_shown : ShowsWith u (in_a u (with_file u.a name list)) name (joined_bytes u.a list)
  with_shown = record {
    file = ap (λ (o : Option (List (List ℕ))). if is_some o then option_map (joined_bytes u.a) o else content u.b name) (get_new u.a.files name list);
    others = λ other no.
        ap (λ (o : Option (List (List ℕ))). if is_some o then option_map (joined_bytes u.a) o else content u.b other)
        (get_old u.a.files name list other (false_from_ne_true (bytes_eq other name) (λ ties. no (equal_bytes other name ties))));
  }

  -- one of the two, and the second where it folds
  file_shown : ShowsSame u (after u (Appends (ToA (FileRecord name list)))) ⊎ ShowsWith u (after u (Appends (ToA (FileRecord name list)))) name (joined_bytes u.a list)
  file_shown = subst (λ (t : State). ShowsSame u t ⊎ ShowsWith u t name (joined_bytes u.a list)) (sym after_file) (by (may_add_file length [] u.a name list))
    where
      by : (b : Bool) → ShowsSame u (cond b (in_a u (with_file u.a name list)) u) ⊎ ShowsWith u (cond b (in_a u (with_file u.a name list)) u) name (joined_bytes u.a list)
      by true = inr with_shown
      by false = inl (λ other. refl)

  file_added : may_add_file length [] u.a name list ≡ true → ShowsWith u (after u (Appends (ToA (FileRecord name list)))) name (joined_bytes u.a list)
  file_added may = subst (λ (t : State). ShowsWith u t name (joined_bytes u.a list)) (sym (after_file ∙ ap (λ (b : Bool). cond b (in_a u (with_file u.a name list)) u) may)) with_shown

-- behind more chunks
with_more : (s u t : State) (name bytes : List ℕ) → HasMoreChunks s u → ShowsWith u t name bytes → ShowsWith s t name bytes
with_more s u t name bytes more with = record { file = with.file; others = λ other no. with.others other no ∙ more.shown other }

-- WHAT FOLDS IN MEMORY FOLDS ONTO THE STATE

pub state_shapes : (s : State) (plan : List Append) (t : Shapes) → shapes_after (shapes_of s) plan ≡ Some t → shapes_of (after_plan s plan) ≡ t
state_shapes s [] t is = some_same (shapes_of s) t is
state_shapes s (x ∷ plan) t is =
    let one = and_then_some (λ u. shapes_after u plan) (happens_to (shapes_of s) x) t is in
    let its = mapped shapes_of (happens s x) one.0 (sym (shapes_step s x) ∙ one.1) in
    let next : after s (Appends x) ≡ its.0 = ap (λ (o : Option State). unwrap_or o s) its.1 in
    ap (λ (u : State). shapes_of (after_plan u plan)) next ∙ state_shapes its.0 plan t (ap (λ u. shapes_after u plan) its.2 ∙ one.2)

file_folds : (s : State) (first : List Append) (name : List ℕ) (list : List (List ℕ)) (t : Shapes) → shapes_after (shapes_of s) (first ++ ToA (FileRecord name list) ∷ []) ≡ Some t → may_add_file length [] (after_plan s first).a name list ≡ true
file_folds s first name list t is =
    let x = ToA (FileRecord name list) in
    let one = and_then_some (λ u. shapes_after u (x ∷ [])) (shapes_after (shapes_of s) first) t (sym (shapes_behind (shapes_of s) first (x ∷ [])) ∙ is) in
    let last = and_then_some (λ (u : Shapes). Some u) (happens_to one.0 x) t one.2 in
    let u = after_plan s first in
    let its = mapped shapes_of (happens u x) last.0 (sym (shapes_step u x) ∙ ap (λ (y : Shapes). happens_to y x) (state_shapes s first one.0 one.1) ∙ last.1) in
    let its_a = mapped (λ (a : Volume). record u { a = a }) (volume_after u.a (FileRecord name list)) its.0 its.1 in
    (if_some (may_add_file length [] u.a name list) (with_file u.a name list) its_a.0 its_a.1).0

-- A PART OF THE PLAN

split_none : {X : Type 0} (done rest : List X) → [] ≡ done ++ rest → done ≡ []
split_none [] rest is = refl
split_none (y ∷ done) rest is = let no : ⊥ = cc in absurd no

split_last : {X : Type 0} (xs done rest : List X) (x : X) → xs ++ x ∷ [] ≡ done ++ rest → (done ≡ xs ++ x ∷ []) ⊎ ((more : List X) × (xs ≡ done ++ more))
split_last xs [] rest x is = inr (xs, refl)
split_last [] (y ∷ done) rest x is =
    let tail : [] ≡ done ++ rest = cc in
    let front : y ≡ x = cc in
    inl ((λ i. front i ∷ split_none done rest tail i))
split_last (z ∷ xs) (y ∷ done) rest x is =
    let tail : xs ++ x ∷ [] ≡ done ++ rest = cc in
    let front : y ≡ z = cc in
    ⊎_elim
    (λ all. inl (λ i. front i ∷ all i))
    (λ part. inr (part.0, λ i. sym front i ∷ part.1 i))
    (split_last xs done rest x tail)

module _ (s : State) (name bytes : List ℕ) (blocks : List (List ℕ)) (keeps : KeepsShape (shape_of s.a)) (chunks : All IsChunk blocks) (kept : AreKept s.a blocks) (joined : concat blocks ≡ bytes) where
  abbrev behind : State
  behind = after_plan s (chunk_plan (shape_of s.a) blocks)

  more_behind : HasMoreChunks s behind
  more_behind = chunks_shown s (chunk_plan (shape_of s.a) blocks) (plan_chunks (shape_of s.a) blocks chunks) keeps

  bytes_behind : joined_bytes behind.a (each sha256 blocks) ≡ bytes
  bytes_behind = ap (λ (u : State). joined_bytes u.a (each sha256 blocks)) (chunks_state s (shape_of s.a) blocks refl) ∙ joined_all s.a blocks kept ∙ joined

  whole_shown : ShowsSame s (after_plan s (put_plan (shapes_of s) name blocks)) ⊎ ShowsWith s (after_plan s (put_plan (shapes_of s) name blocks)) name bytes
  whole_shown = subst (λ (t : State). ShowsSame s t ⊎ ShowsWith s t name bytes) (sym (last_state s name blocks))
      (⊎_elim
      (λ same. inl (λ other. same other ∙ more_behind.shown other))
      (λ with. inr (with_more s behind (after behind (Appends (file_append name blocks))) name bytes more_behind (subst (ShowsWith behind (after behind (Appends (file_append name blocks))) name) bytes_behind with)))
      (file_shown behind name (each sha256 blocks)))

  -- once the whole plan is done
  pub shown_done : (t : Shapes) → shapes_after (shapes_of s) (put_plan (shapes_of s) name blocks) ≡ Some t → ShowsWith s (after_plan s (put_plan (shapes_of s) name blocks)) name bytes
  shown_done t is =
      let may = file_folds s (chunk_plan (shape_of s.a) blocks) name (each sha256 blocks) t (ap (shapes_after (shapes_of s)) (sym (put_split (shape_of s.a) name blocks)) ∙ is) in
      subst (λ (u : State). ShowsWith s u name bytes) (sym (last_state s name blocks))
      (with_more s behind (after behind (Appends (file_append name blocks))) name bytes more_behind
      (subst (ShowsWith behind (after behind (Appends (file_append name blocks))) name) bytes_behind (file_added behind name (each sha256 blocks) may)))

  part_shown : (done rest : List Append) → put_plan (shapes_of s) name blocks ≡ done ++ rest → ShowsSame s (after_plan s done) ⊎ ShowsWith s (after_plan s done) name bytes
  part_shown done rest is = ⊎_elim
      (λ all. subst (λ (p : List Append). ShowsSame s (after_plan s p) ⊎ ShowsWith s (after_plan s p) name bytes) (put_split (shape_of s.a) name blocks ∙ sym all) whole_shown)
      (λ part. inl (chunks_shown s done (front_chunks done part.0 (subst AreChunks part.1 (plan_chunks (shape_of s.a) blocks chunks))) keeps).shown)
      (split_last (chunk_plan (shape_of s.a) blocks) done rest (file_append name blocks) (sym (put_split (shape_of s.a) name blocks) ∙ is))

  -- a crash in the middle
  pub shown_part : (c : Images) → Led (IsFrontOf (put_plan (shapes_of s) name blocks)) s c → LeavesShown s name bytes c
  shown_part c left t told =
      subst (λ (u : State). ShowsSame s u ⊎ ShowsWith s u name bytes) (some_same (after_plan s left.plan) t (sym left.now ∙ told)) (part_shown left.plan left.within.0 (sym left.within.1))

-- a crash before the first record
pub shown_still : (v : SiteValue) (d : Disk) (s : State) (name bytes : List ℕ) → SiteStands v d s → (c : Images) → Crash d c → LeavesShown s name bytes c
shown_still v d s name bytes stands c crash t told =
    let same : s ≡ t = some_same s t (sym (state_settled v s d c stands crash) ∙ told) in inl (λ other. ap (λ (u : State). view u other) (sym same))

-- what a volume that stands keeps
pub stands_keeps : (v : SiteValue) (d : Disk) (s : State) → SiteStands v d s → KeepsShape (shape_of s.a)
stands_keeps v d s stands = volume_keeps stands.a.records s.a stands.a.folds
