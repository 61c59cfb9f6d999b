-- One block of a file that is put, in the loops over all of them.
use Rattle.std.proofs.Common.{◌≡◌, ℕ, zero, suc, ◌+◌, ◌<◌, ◌≤◌, List, [], ◌∷◌, ◌++◌, length, drop, get_or, Bool, true, false, refl, sym, ◌∙◌, ap, subst, arith}
use Rattle.std.specs.Prelude.{Option, Result, Ok, Err, is_some, map as each, nat_lt}
use Rattle.std.specs.FinMap as map
use Rattle.std.proofs.lemmas.List.{drop_more, length-map}
use Rattle.sha2.specs.Sha256.{sha256}
use Rattle.volume_disk.specs.Disk.{Disk, Images}
use Rattle.site_forms.specs.VolumeRecords.{IsChunk}
use Rattle.site_forms.specs.Volumes.{Shape, Volume}
use Rattle.chunk_volume.specs.declared.errors.VolError.{VolError}
use Rattle.chunk_volume.specs.VolumeValues.{VolumeValue}
use Rattle.site_core.specs.Events.{Append}
use Rattle.seed_mover.specs.declared.errors.SiteError.{SiteError}
use Rattle.site_runs.specs.Runs.{AddsTo}
use Rattle.site_runs.specs.SiteValues.{SiteValue}
use Rattle.seed_mover.specs.Appending.{AppendsOne}
use Rattle.seed_mover.specs.Errors.{refuses}
use Rattle.seed_mover.specs.Through.{RunsTo, StopsIn}
use Rattle.seed_mover.specs.Blocks.{first_places, place_in}
use Rattle.seed_mover.specs.PutParts.{AddsChunks, FindsKept, chunk_append, chunk_plan}
use Rattle.seed_mover.proofs.FirstPlaces.{place_has}
use Rattle.seed_mover.proofs.PutCounts.{each_at}
use Rattle.seed_mover.proofs.PutPlans.{ChunksSoFar, chunks_more, chunks_past, chunks_stop, runs_chunk_more, stops_on_chunk}

-- A CHUNK THAT IS ADDED WHERE IT IS LACKING

-- whether it is held, as a site tells
pub held_told : (v : SiteValue) (a : VolumeValue) (s : Shape) (name own : List ℕ) (o : Option ℕ) → a ≡ v.a → s ≡ a.shape → name ≡ sha256 own → o ≡ map.get s.chunks name → map.contains_key v.a.shape.chunks (sha256 own) ≡ is_some o
held_told v a s name own o a_is s_is name_is is =
    (λ i. map.contains_key (sym a_is i).shape.chunks (sha256 own))
    ∙ (λ i. map.contains_key (sym s_is i).chunks (sym name_is i))
    ∙ ap is_some (sym is)

-- what a call answers for the chunk of a block
pub record AddsChunk {D : Type 0} (moment : D → ℕ) (left_since : D → ℕ → Images → Type 0) (disk : D → Disk) (honest : Type 0) (mid new : D) (u w : SiteValue) (own : List ℕ) (result : Result (Unit {0}) SiteError) : Type 0 where
  pub held : map.contains_key u.a.shape.chunks (sha256 own) ≡ true → (result ≡ Ok tt) × (w ≡ u) × (new ≡ mid)
  pub appends : map.contains_key u.a.shape.chunks (sha256 own) ≡ false → AppendsOne u w (chunk_append own) result
  pub appended : map.contains_key u.a.shape.chunks (sha256 own) ≡ false → honest → AddsTo disk moment left_since refuses mid new u w (chunk_append own) result

-- all blocks up to the next one are done
pub record ChunksDone {D : Type 0} (moment : D → ℕ) (left_since : D → ℕ → Images → Type 0) (disk : D → Disk) (honest : Type 0) (old new : D) (v w : SiteValue) (blocks rest : List (List ℕ)) : Type 0 where
  pub done : List Append
  pub so_far : ChunksSoFar v w blocks rest done
  pub runs : honest → RunsTo disk moment left_since old new v w done

same_block : {D : Type 0} (moment : D → ℕ) (left_since : D → ℕ → Images → Type 0) (disk : D → Disk) (honest : Type 0) (mid new : D) (u w : SiteValue) (own its : List ℕ) (result : Result (Unit {0}) SiteError)
    → own ≡ its → AddsChunk moment left_since disk honest mid new u w its result → AddsChunk moment left_since disk honest mid new u w own result
same_block moment left_since disk honest mid new u w own its result is adds = subst (λ b. AddsChunk moment left_since disk honest mid new u w b result) (sym is) adds

no_error : {T E : Type 0} (error : E) (value : T) → ◌≡◌ {A = Result T E} (Err error) (Ok value) → ⊥
no_error error value is = cc

module _ {D : Type 0} (moment : D → ℕ) (left_since : D → ℕ → Images → Type 0) (disk : D → Disk) (honest : Type 0) (old mid new : D) (v u w : SiteValue) (blocks : List (List ℕ)) (k : ℕ) (inside : k < length blocks) (done : List Append)
    (so_far : ChunksSoFar v u blocks (drop k blocks) done) (runs : honest → RunsTo disk moment left_since old mid v u done) (its : List ℕ) (is : get_or blocks k [] ≡ its) (is_chunk : IsChunk its) where
  abbrev rest : List (List ℕ)
  rest = drop (k + 1) blocks

  so_far_own : ChunksSoFar v u blocks (its ∷ rest) done
  so_far_own = subst (λ l. ChunksSoFar v u blocks l done) (drop_more blocks k [] inside ∙ ap (λ (b : List ℕ). b ∷ rest) is) so_far

  step_by : (held : Bool) → map.contains_key u.a.shape.chunks (sha256 its) ≡ held → AddsChunk moment left_since disk honest mid new u w its (Ok tt) → ChunksDone moment left_since disk honest old new v w blocks rest
  step_by true held adds =
      let same = adds.held held in
      record {
        done = done;
        so_far = subst (λ (x : SiteValue). ChunksSoFar v x blocks rest done) (sym same.1) (chunks_past v u blocks rest its done so_far_own held);
        runs = λ still. subst (λ (x : SiteValue). RunsTo disk moment left_since old new v x done) (sym same.1) (subst (λ (x : D). RunsTo disk moment left_since old x v u done) (sym same.2) (runs still));
      }
  step_by false lacking adds = record {
    done = done ++ chunk_append its ∷ [];
    so_far = chunks_more v u blocks rest its done so_far_own w lacking (adds.appends lacking);
    runs = λ still. runs_chunk_more v u blocks rest its done so_far_own w lacking disk moment left_since old mid new is_chunk (runs still) (adds.appended lacking still);
  }

  pub chunks_step : AddsChunk moment left_since disk honest mid new u w its (Ok tt) → ChunksDone moment left_since disk honest old new v w blocks rest
  chunks_step adds = step_by (map.contains_key u.a.shape.chunks (sha256 its)) refl adds

  stop_by : (error : SiteError) (held : Bool) → map.contains_key u.a.shape.chunks (sha256 its) ≡ held → AddsChunk moment left_since disk honest mid new u w its (Err error)
      → AddsChunks v w blocks (Err error) × (honest → StopsIn disk moment left_since old new v w (chunk_plan v.a.shape blocks))
  stop_by error true held adds = absurd (no_error error tt (adds.held held).0)
  stop_by error false lacking adds = (
    chunks_stop v u blocks rest its done so_far_own w lacking error (adds.appends lacking),
    λ still. stops_on_chunk v u blocks rest its done so_far_own w lacking disk moment left_since old mid new is_chunk (runs still) error (adds.appended lacking still),
  )

  pub chunks_stopped : (error : SiteError) → AddsChunk moment left_since disk honest mid new u w its (Err error)
      → AddsChunks v w blocks (Err error) × (honest → StopsIn disk moment left_since old new v w (chunk_plan v.a.shape blocks))
  chunks_stopped error adds = stop_by error (map.contains_key u.a.shape.chunks (sha256 its)) refl adds

-- it is the same site, or it is not spent
fresh_by : (u w : SiteValue) (its : List ℕ) (held : Bool) → u.spent ≡ false → (held ≡ true → w ≡ u) → (held ≡ false → AppendsOne u w (chunk_append its) (Ok tt)) → w.spent ≡ false
fresh_by u w its true fresh same one = ap (λ (x : SiteValue). x.spent) (same refl) ∙ fresh
fresh_by u w its false fresh same one = (one refl).1.spent ∙ fresh

pub still_fresh : {D : Type 0} (moment : D → ℕ) (left_since : D → ℕ → Images → Type 0) (disk : D → Disk) (honest : Type 0) (mid new : D) (u w : SiteValue) (its : List ℕ) → u.spent ≡ false
    → AddsChunk moment left_since disk honest mid new u w its (Ok tt) → w.spent ≡ false
still_fresh moment left_since disk honest mid new u w its fresh adds = fresh_by u w its (map.contains_key u.a.shape.chunks (sha256 its)) fresh (λ held. (adds.held held).1) adds.appends

-- A BLOCK AT ITS PLACE

module _ (blocks names : List (List ℕ)) (k : ℕ) (inside : k < length blocks) (names_are : names ≡ each sha256 blocks) where
  many_names : length names ≡ length blocks
  many_names = ap (λ (l : List (List ℕ)). length l) names_are ∙ length-map blocks sha256

  pub name_inside : k < length names
  name_inside = omega (arith, inside, many_names)

  pub name_told : get_or names k [] ≡ sha256 (get_or blocks k [])
  name_told = ap (λ (l : List (List ℕ)). get_or l k []) names_are ∙ each_at sha256 blocks k [] [] inside

  module _ (firsts : List ℕ) (firsts_are : firsts ≡ first_places names) where
    pub first_inside : k < length firsts
    first_inside = omega (arith, name_inside, ap (λ (l : List ℕ). length l) firsts_are, length-map names (place_in names))

    pub place_told : get_or firsts k 0 ≡ place_in (each sha256 blocks) (sha256 (get_or blocks k []))
    place_told =
        ap (λ (l : List ℕ). get_or l k 0) firsts_are
        ∙ each_at (place_in names) names k [] 0 name_inside
        ∙ (λ i. place_in (names_are i) (name_told i))

    pub place_less : get_or firsts k 0 < length blocks
    place_less =
        omega (arith, inside, place_told, (place_has (each sha256 blocks) k (sha256 (get_or blocks k [])) (omega (arith, inside, length-map blocks sha256)) (each_at sha256 blocks k [] [] inside)).0)

-- none is left behind the last
pub none_left : {X : Type 0} (k : ℕ) (xs : List X) → length xs ≤ k → drop k xs ≡ []
none_left zero [] all = refl
none_left (suc k) [] all = refl
none_left zero (x ∷ xs) all = absurd (omega (arith, all))
none_left (suc k) (x ∷ xs) all = none_left k xs (omega (arith, all))

-- A BLOCK THAT IS COMPARED

pub as_found : (a : Volume) (blocks : List (List ℕ)) (k first : ℕ) (name its kept : List ℕ) (is_repeated : Bool) (r : Result (Unit {0}) VolError)
    → name ≡ sha256 (get_or blocks k []) → get_or blocks k [] ≡ its → first ≡ place_in (each sha256 blocks) (sha256 (get_or blocks k [])) → get_or blocks first [] ≡ kept → is_repeated ≡ nat_lt (place_in (each sha256 blocks) (sha256 (get_or blocks k []))) k → FindsKept a name its kept is_repeated r
    → FindsKept a (sha256 (get_or blocks k [])) (get_or blocks k []) (get_or blocks (place_in (each sha256 blocks) (sha256 (get_or blocks k []))) []) (nat_lt (place_in (each sha256 blocks) (sha256 (get_or blocks k []))) k) r
as_found a blocks k first name its kept is_repeated r name_is its_is first_is kept_is repeated finds =
    let own = get_or blocks k [] in
    let p = place_in (each sha256 blocks) (sha256 own) in
    subst (λ (n : ℕ). FindsKept a (sha256 own) own (get_or blocks n []) (nat_lt p k) r) first_is
    (subst (λ (b : Bool). FindsKept a (sha256 own) own (get_or blocks first []) b r) repeated
    (subst (λ (x : List ℕ). FindsKept a (sha256 own) own x is_repeated r) (sym kept_is)
    (subst (λ (x : List ℕ). FindsKept a (sha256 own) x kept is_repeated r) (sym its_is)
    (subst (λ (x : List ℕ). FindsKept a x its kept is_repeated r) name_is finds))))
