-- The blocks of a file, compared with what is kept under their names.
use Rattle.std.proofs.Common.{◌≡◌, ◌≢◌, ⊎_elim, ℕ, ◌+◌, ◌<◌, ◌≤◌, List, [], ◌∷◌, ◌++◌, length, take, drop, get_or, Bool, true, false, Option, Some, refl, sym, ◌∙◌, ap, subst, arith}
use Rattle.std.specs.Prelude.{Result, Ok, Err, Contains, map as each, is_some, nat_lt}
use Rattle.std.specs.FinMap as map
use Rattle.std.proofs.lemmas.Bool.{true≢false, false≢true, ltb-true, ltb-false}
use Rattle.std.proofs.lemmas.List.{get_or-take, get_or_default, length-map, length-take-le, take-append-drop, take_all, take_more, drop_more}
use Rattle.std.proofs.lemmas.List.Elements.{Contains-get_or, Contains-append_left, Contains-push, Contains-push_cases}
use Rattle.sha2.specs.Sha256.{sha256}
use Rattle.volume_disk.specs.Disk.{Disk}
use Rattle.site_forms.specs.Sites.{HoldsChunk}
use Rattle.site_forms.specs.Volumes.{Shape, Volume}
use Rattle.site_core.proofs.Shapes.{same_held}
use Rattle.chunk_volume.specs.declared.errors.VolError.{VolError}
use Rattle.chunk_volume.specs.declared.errors.VolError.TheVariants.{RackFault, Damage, BadChunk, Collision, Exists, NoSuchFile, DeviceFull, Spent, Memory}
use Rattle.chunk_volume.specs.ReadingVolumes.{FindsChunk, HasBytes, IsBadChunk, ReadsChunk}
use Rattle.chunk_volume.specs.Standing.{VolumeStands}
use Rattle.chunk_volume.specs.VolumeValues.{VolumeValue}
use Rattle.seed_mover.specs.Blocks.{place_in}
use Rattle.seed_mover.specs.Putting.{AreKept, HasBlock, IsFirstOther}
use Rattle.seed_mover.specs.PutParts.{Compares, FindsCompared, FindsKept, IsAsKept, IsOther, SameBytes}
use Rattle.seed_mover.proofs.FirstPlaces.{place_has}
use Rattle.seed_mover.proofs.PutCounts.{each_at}

one_value : {X : Type 0} (o : Option X) (x y : X) → o ≡ Some x → o ≡ Some y → x ≡ y
one_value o x y first second = cc

-- ONE BLOCK

pub same_compares : (v : VolumeValue) (name kept own : List ℕ) (r : Result (Unit {0}) VolError) → SameBytes name kept own r → Compares v (λ chunk. chunk ≡ name) r
same_compares v name kept own (Ok done) same = tt
same_compares v name kept own (Err (Collision chunk)) same = same.0
same_compares v name kept own (Err RackFault) same = absurd same
same_compares v name kept own (Err (Damage device at)) same = absurd same
same_compares v name kept own (Err (BadChunk chunk found)) same = absurd same
same_compares v name kept own (Err Exists) same = absurd same
same_compares v name kept own (Err NoSuchFile) same = absurd same
same_compares v name kept own (Err (DeviceFull device at len)) same = absurd same
same_compares v name kept own (Err Spent) same = absurd same
same_compares v name kept own (Err Memory) same = absurd same

pub same_no_fault : (name kept own : List ℕ) (r : Result (Unit {0}) VolError) → SameBytes name kept own r → r ≢ Err RackFault
same_no_fault name kept own r same is = subst (SameBytes name kept own) is same

-- the first block of its name is there
pub same_repeated : (a : Volume) (name own kept : List ℕ) (r : Result (Unit {0}) VolError) → SameBytes name kept own r → FindsKept a name own kept true r
same_repeated a name own kept (Ok done) same = record { repeated = λ _. same; held = λ no. absurd (true≢false no) }
same_repeated a name own kept (Err (Collision chunk)) same = (same.0, record { repeated = λ _. same.1; held = λ no. absurd (true≢false no) })
same_repeated a name own kept (Err RackFault) same = absurd same
same_repeated a name own kept (Err (Damage device at)) same = absurd same
same_repeated a name own kept (Err (BadChunk chunk found)) same = absurd same
same_repeated a name own kept (Err Exists) same = absurd same
same_repeated a name own kept (Err NoSuchFile) same = absurd same
same_repeated a name own kept (Err (DeviceFull device at len)) same = absurd same
same_repeated a name own kept (Err Spent) same = absurd same
same_repeated a name own kept (Err Memory) same = absurd same

-- the volume holds the chunk
pub same_held_bytes : (a : Volume) (name own kept held : List ℕ) (r : Result (Unit {0}) VolError) → HasBytes a name held → SameBytes name held own r → FindsKept a name own kept false r
same_held_bytes a name own kept held (Ok done) has same = record { repeated = λ no. absurd (false≢true no); held = λ _ bytes is. one_value (map.get a.chunks name) bytes held is has ∙ sym same }
same_held_bytes a name own kept held (Err (Collision chunk)) has same = (same.0, record { repeated = λ no. absurd (false≢true no); held = λ _. (held, has, λ is. same.1 (sym is)) })
same_held_bytes a name own kept held (Err RackFault) has same = absurd same
same_held_bytes a name own kept held (Err (Damage device at)) has same = absurd same
same_held_bytes a name own kept held (Err (BadChunk chunk found)) has same = absurd same
same_held_bytes a name own kept held (Err Exists) has same = absurd same
same_held_bytes a name own kept held (Err NoSuchFile) has same = absurd same
same_held_bytes a name own kept held (Err (DeviceFull device at len)) has same = absurd same
same_held_bytes a name own kept held (Err Spent) has same = absurd same
same_held_bytes a name own kept held (Err Memory) has same = absurd same

-- the volume lacks it
pub finds_lacking : (place : ℕ) (v : VolumeValue) (d : Disk) (a : Volume) (name own kept : List ℕ) → VolumeStands place v d a → map.contains_key v.shape.chunks name ≡ false → FindsKept a name own kept false (Ok tt)
finds_lacking place v d a name own kept stands lacking = record {
  repeated = λ no. absurd (false≢true no);
  held = λ _ bytes is. absurd (true≢false (sym (ap is_some is) ∙ sym (same_held a name) ∙ ap (λ (s : Shape). map.contains_key s.chunks name) (sym stands.shape) ∙ lacking));
}

-- what is held could not be read
pub read_compares : (v : VolumeValue) (name : List ℕ) (error : VolError) → HoldsChunk v.shape name → ReadsChunk v name (Err error) → Compares v (λ chunk. chunk ≡ name) (Err error)
read_compares v name (Damage device at) holds reads = (reads.0, (name, refl, reads.1))
read_compares v name (BadChunk chunk found) holds reads = (reads.0, subst (HoldsChunk v.shape) (sym reads.0) holds, λ is. reads.1 (is ∙ reads.0))
read_compares v name RackFault holds reads = tt
read_compares v name Memory holds reads = tt
read_compares v name (Collision chunk) holds reads = absurd reads
read_compares v name Exists holds reads = absurd reads
read_compares v name NoSuchFile holds reads = absurd reads
read_compares v name (DeviceFull device at len) holds reads = absurd reads
read_compares v name Spent holds reads = absurd reads

pub read_finds : (v : VolumeValue) (a : Volume) (name own kept : List ℕ) (error : VolError) → ReadsChunk v name (Err error) → FindsChunk a name (Err error) → FindsKept a name own kept false (Err error)
read_finds v a name own kept (Damage device at) reads finds = absurd finds
read_finds v a name own kept (BadChunk chunk found) reads finds = (reads.0, refl, finds)
read_finds v a name own kept RackFault reads finds = tt
read_finds v a name own kept Memory reads finds = tt
read_finds v a name own kept (Collision chunk) reads finds = absurd reads
read_finds v a name own kept Exists reads finds = tt
read_finds v a name own kept NoSuchFile reads finds = tt
read_finds v a name own kept (DeviceFull device at len) reads finds = tt
read_finds v a name own kept Spent reads finds = tt

-- BLOCKS SO FAR

none_kept : (a : Volume) → AreKept a []
none_kept a = record { held = λ block bytes within. absurd (omega (arith, within.1)); alike = λ block other within. absurd (omega (arith, within.1)) }

pub kept_none : (a : Volume) (blocks : List (List ℕ)) → AreKept a (take 0 blocks)
kept_none a blocks = none_kept a

-- a block that is among the others
kept_same : (a : Volume) (front : List (List ℕ)) (own : List ℕ) → AreKept a front → Contains front own → AreKept a (front ++ own ∷ [])
kept_same a front own kept there =
    let back : (x : List ℕ) → Contains (front ++ own ∷ []) x → Contains front x = λ x within. ⊎_elim (λ here. here) (λ last. subst (Contains front) last there) (Contains-push_cases front own x within) in
    record { held = λ block bytes within. kept.held block bytes (back block within); alike = λ block other one two. kept.alike block other (back block one) (back other two) }

-- one of a new name
module _ (a : Volume) (front : List (List ℕ)) (own : List ℕ) (kept : AreKept a front) (new : (other : List ℕ) → Contains front other → sha256 other ≡ sha256 own → ⊥) where
  kept_new : ((bytes : List ℕ) → HasBytes a (sha256 own) bytes → bytes ≡ own) → AreKept a (front ++ own ∷ [])
  kept_new same = record {
    held = λ block bytes within has. ⊎_elim
        (λ here. kept.held block bytes here has)
        (λ last. subst (λ x. HasBytes a (sha256 x) bytes → bytes ≡ x) last (same bytes) has)
        (Contains-push_cases front own block within);
    alike = λ block other one two is. ⊎_elim
        (λ here. ⊎_elim (λ there. kept.alike block other here there is) (λ last. absurd (new block here (sym is ∙ ap sha256 (sym last)))) (Contains-push_cases front own other two))
        (λ here. ⊎_elim (λ there. absurd (new other there (is ∙ ap sha256 (sym here)))) (λ last. sym last ∙ here) (Contains-push_cases front own other two))
        (Contains-push_cases front own block one);
  }

-- THE BLOCK AT A PLACE

module _ (a : Volume) (blocks : List (List ℕ)) (k : ℕ) (inside : k < length blocks) where
  abbrev own : List ℕ
  own = get_or blocks k []

  abbrev front : List (List ℕ)
  front = take k blocks

  abbrev first : ℕ
  first = place_in (each sha256 blocks) (sha256 own)

  abbrev kept : List ℕ
  kept = get_or blocks first []

  names_inside : (j : ℕ) → j < length blocks → j < length (each sha256 blocks)
  names_inside j less = omega (arith, less, length-map blocks sha256)

  name_at : (j : ℕ) → j < length blocks → get_or (each sha256 blocks) j [] ≡ sha256 (get_or blocks j [])
  name_at j less = each_at sha256 blocks j [] [] less

  first_has : (first ≤ k) × (get_or (each sha256 blocks) first [] ≡ sha256 own)
  first_has = place_has (each sha256 blocks) k (sha256 own) (names_inside k inside) (name_at k inside)

  pub first_inside : first < length blocks
  first_inside = omega (arith, inside, first_has.0)

  one_name : sha256 own ≡ sha256 kept
  one_name = sym first_has.1 ∙ name_at first first_inside

  front_long : length front ≡ k
  front_long = length-take-le k blocks (omega (arith, inside))

  kept_front : first < k → Contains front kept
  kept_front less = subst (Contains front) (get_or-take k blocks first [] less) (Contains-get_or front first [] (omega (arith, less, front_long)))

  no_earlier : k ≤ first → (other : List ℕ) → Contains front other → sha256 other ≡ sha256 own → ⊥
  no_earlier late other there same =
      let j = there.0 in
      let low : j < k = omega (arith, there.1, front_long) in
      let is : get_or blocks j [] ≡ other = sym (get_or-take k blocks j [] low) ∙ get_or_default front j [] other there.1 ∙ there.2 in
      let early = place_has (each sha256 blocks) j (sha256 own) (names_inside j (omega (arith, low, inside))) (name_at j (omega (arith, low, inside)) ∙ ap sha256 is ∙ same) in
      omega (arith, early.0, low, late)

  more_front : take (k + 1) blocks ≡ front ++ own ∷ []
  more_front = take_more blocks k [] inside

  step_by : (b : Bool) → (b ≡ true → first < k) → (b ≡ false → k ≤ first) → AreKept a front → IsAsKept a (sha256 own) own kept b → AreKept a (front ++ own ∷ [])
  step_by true less more so_far as_kept = kept_same a front own so_far (subst (Contains front) (sym (as_kept.repeated refl)) (kept_front (less refl)))
  step_by false less more so_far as_kept = kept_new a front own so_far (no_earlier (more refl)) (as_kept.held refl)

  pub kept_more : AreKept a front → IsAsKept a (sha256 own) own kept (nat_lt first k) → AreKept a (take (k + 1) blocks)
  kept_more so_far as_kept = subst (AreKept a) (sym more_front) (step_by (nat_lt first k) (ltb-true first k) (ltb-false first k) so_far as_kept)

  -- a block that differs
  other_by : (b : Bool) → (b ≡ true → first < k) → IsOther a (sha256 own) own kept b → AreKept a (front ++ own ∷ []) → ⊥
  other_by true less other are =
      other.repeated refl (are.alike kept own (Contains-append_left front (own ∷ []) kept (kept_front (less refl))) (Contains-push front own) one_name)
  other_by false less other are =
      let bad = other.held refl in
      bad.2 (are.held own bad.0 (Contains-push front own) bad.1)

  bad_other : (found : List ℕ) → IsBadChunk a (sha256 own) found → AreKept a (front ++ own ∷ []) → ⊥
  bad_other found bad are = bad.3 (sym bad.2 ∙ ap sha256 (are.held own bad.0 (Contains-push front own) bad.1))

  whole : blocks ≡ front ++ own ∷ drop (k + 1) blocks
  whole = sym (take-append-drop k blocks) ∙ ap (λ l. front ++ l) (drop_more blocks k [] inside)

  first_other : (name : List ℕ) → name ≡ sha256 own → AreKept a front → (AreKept a (front ++ own ∷ []) → ⊥) → IsFirstOther a blocks name
  first_other name is so_far other = record { before = front; block = own; rest = drop (k + 1) blocks; split = whole; name_is = sym is; good = so_far; other = other }

  pub finds_refused : (error : VolError) → AreKept a front → FindsKept a (sha256 own) own kept (nat_lt first k) (Err error) → FindsCompared a blocks (Err error)
  finds_refused (Collision chunk) so_far finds = first_other chunk finds.0 so_far (other_by (nat_lt first k) (ltb-true first k) finds.1)
  finds_refused (BadChunk chunk found) so_far finds = (subst (λ x. IsBadChunk a x found) (sym finds.0) finds.2, first_other chunk finds.0 so_far (bad_other found finds.2))
  finds_refused (Damage device at) so_far finds = absurd finds
  finds_refused RackFault so_far finds = tt
  finds_refused Exists so_far finds = tt
  finds_refused NoSuchFile so_far finds = tt
  finds_refused (DeviceFull device at len) so_far finds = tt
  finds_refused Spent so_far finds = tt
  finds_refused Memory so_far finds = tt

  has_own : HasBlock blocks (sha256 own)
  has_own = (own, Contains-get_or blocks k [] inside, refl)

  pub compares_refused : (v : VolumeValue) (error : VolError) → Compares v (λ chunk. chunk ≡ sha256 own) (Err error) → Compares v (HasBlock blocks) (Err error)
  compares_refused v (Collision chunk) one = subst (HasBlock blocks) (sym one) has_own
  compares_refused v (BadChunk chunk found) one = (subst (HasBlock blocks) (sym one.0) has_own, one.1, one.2)
  compares_refused v (Damage device at) one = (one.0, (one.1.0, subst (HasBlock blocks) (sym one.1.1) has_own, one.1.2))
  compares_refused v RackFault one = tt
  compares_refused v Memory one = tt
  compares_refused v Exists one = absurd one
  compares_refused v NoSuchFile one = absurd one
  compares_refused v (DeviceFull device at len) one = absurd one
  compares_refused v Spent one = absurd one

-- all of them
pub kept_all : (a : Volume) (blocks : List (List ℕ)) (k : ℕ) → length blocks ≤ k → AreKept a (take k blocks) → AreKept a blocks
kept_all a blocks k all so_far = subst (AreKept a) (take_all k blocks all) so_far
