-- Records and the bodies that spell them.
use Rattle.std.proofs.Common.{◌≡◌, ℕ, zero, suc, ◌+◌, ◌-◌, ◌*◌, ◌/◌, ◌%◌, ◌^◌, ◌≤◌, List, [], ◌∷◌, ◌++◌, length, take, drop, Bool, true, false, Option, Some, None, refl, sym, ◌∙◌, ap, subst, arith, length-append, length-drop}
use Rattle.std.specs.Prelude.{All, nat_le, ◌==◌, ◌&&◌, if◌then◌else◌}
use Rattle.std.specs.List.{concat}
use Rattle.std.proofs.lemmas.Bool.{eqb-true, leb-true, le-leb, eq-eqb, and_parts, and_from}
use Rattle.std.proofs.lemmas.List.{take_at, drop_at, length-take-le, take-append-drop}
use Rattle.std.proofs.lemmas.List.Elements.{All-cons, All-nil, All-head, All-tail}
use Rattle.std.proofs.lemmas.Option.{none-some}
use Rattle.site_forms.specs.VolumeRecords.{VolumeRecord, IsVolumeRecord, IsChunkName, IsChunk, volume_body, volume_record, chunk_record, file_record, drop_chunk_record, names_of_chunks}
use Rattle.site_forms.specs.VolumeRecords.VolumeRecord.{ChunkRecord, FileRecord, DropFileRecord, DropChunkRecord}

-- what a choice with none in its other branch says
pub some_if : {X : Type 0} (b : Bool) (x r : X) → (if b then Some x else None) ≡ Some r → (b ≡ true) × (x ≡ r)
some_if true x r e = (refl, cc)
some_if false x r e = absurd (none-some r e)

-- names of 32 bytes, joined and read again
names_joined : (names : List (List ℕ)) → All IsChunkName names → names_of_chunks (length names) (concat names) ≡ names
names_joined [] lawful = refl
names_joined (name ∷ names) lawful =
    let long = All-head IsChunkName name names lawful in
    ap (λ (l : List ℕ). l ∷ names_of_chunks (length names) (drop 32 (name ++ concat names))) (take_at name (concat names) 32 long)
    ∙ ap (λ (l : List ℕ). name ∷ names_of_chunks (length names) l) (drop_at name (concat names) 32 long)
    ∙ ap (λ (l : List (List ℕ)). name ∷ l) (names_joined names (All-tail IsChunkName name names lawful))

long_names : (names : List (List ℕ)) → All IsChunkName names → length (concat names) ≡ length names * 32
long_names [] lawful = omega arith
long_names (name ∷ names) lawful =
    omega (arith, length-append name (concat names), All-head IsChunkName name names lawful, long_names names (All-tail IsChunkName name names lawful))

-- bytes cut into names, and joined again
names_cut : (n : ℕ) (bytes : List ℕ) → length bytes ≡ n * 32 → concat (names_of_chunks n bytes) ≡ bytes
names_cut zero [] long = refl
names_cut zero (b ∷ bytes) long = absurd (omega (arith, long))
names_cut (suc n) bytes long =
    ap (λ (l : List ℕ). take 32 bytes ++ l) (names_cut n (drop 32 bytes) (omega (arith, long, length-drop 32 bytes))) ∙ take-append-drop 32 bytes

cut_lawful : (n : ℕ) (bytes : List ℕ) → length bytes ≡ n * 32 → All IsChunkName (names_of_chunks n bytes)
cut_lawful zero bytes long = All-nil IsChunkName
cut_lawful (suc n) bytes long =
    All-cons IsChunkName (take 32 bytes) (names_of_chunks n (drop 32 bytes)) (length-take-le 32 bytes (omega (arith, long))) (cut_lawful n (drop 32 bytes) (omega (arith, long, length-drop 32 bytes)))

-- each record is read from its body
chunk_read : (name bytes : List ℕ) → IsChunkName name → IsChunk bytes → chunk_record (name ++ bytes) ≡ Some (ChunkRecord name bytes)
chunk_read name bytes named chunk =
    let all = name ++ bytes in
    let long : length all ≡ 32 + length bytes = omega (arith, named, length-append name bytes) in
    let some : 33 ≤ length all = omega (arith, long, chunk.some) in
    let most : length all ≤ 32 + 2 ^ 20 = omega (arith, long, chunk.most) in
    ap (λ (b : Bool). if b then Some (ChunkRecord (take 32 all) (drop 32 all)) else None) (and_from _ _ (le-leb 33 (length all) some) (le-leb (length all) (32 + 2 ^ 20) most))
    ∙ ap (λ (l : List ℕ). Some (ChunkRecord l (drop 32 all))) (take_at name bytes 32 named)
    ∙ ap (λ (l : List ℕ). Some (ChunkRecord name l)) (drop_at name bytes 32 named)

file_read : (name : List ℕ) (chunks : List (List ℕ)) → All IsChunkName chunks → file_record (length name ∷ (name ++ concat chunks)) ≡ Some (FileRecord name chunks)
file_read name chunks lawful =
    let all = name ++ concat chunks in
    let n = length name in
    let long : length all ≡ n + length chunks * 32 = omega (arith, length-append name (concat chunks), long_names chunks lawful) in
    let inside : n ≤ length all = omega (arith, long) in
    let whole : (length all - n) % 32 ≡ 0 = omega (arith, long) in
    let count : (length all - n) / 32 ≡ length chunks = omega (arith, long) in
    ap (λ (b : Bool). if b then Some (FileRecord (take n all) (names_of_chunks ((length all - n) / 32) (drop n all))) else None)
    (and_from _ _ (le-leb n (length all) inside) (eq-eqb ((length all - n) % 32) 0 whole))
    ∙ ap (λ (l : List ℕ). Some (FileRecord l (names_of_chunks ((length all - n) / 32) (drop n all)))) (take_at name (concat chunks) n refl)
    ∙ ap (λ (k : ℕ). Some (FileRecord name (names_of_chunks k (drop n all)))) count
    ∙ ap (λ (l : List ℕ). Some (FileRecord name (names_of_chunks (length chunks) l))) (drop_at name (concat chunks) n refl)
    ∙ ap (λ (l : List (List ℕ)). Some (FileRecord name l)) (names_joined chunks lawful)

pub volume_read : (r : VolumeRecord) → IsVolumeRecord r → volume_record (volume_body r) ≡ Some r
volume_read (ChunkRecord name bytes) lawful = chunk_read name bytes lawful.0 lawful.1
volume_read (FileRecord name chunks) lawful = file_read name chunks lawful
volume_read (DropFileRecord name) lawful = refl
volume_read (DropChunkRecord name) lawful = ap (λ (b : Bool). if b then Some (DropChunkRecord name) else None) (eq-eqb (length name) 32 lawful)

-- which kind a body is of
abbrev by_kind : Bool → Bool → Bool → Bool → List ℕ → Option VolumeRecord
by_kind a b c d rest = if a then chunk_record rest else (if b then file_record rest else (if c then Some (DropFileRecord rest) else (if d then drop_chunk_record rest else None)))

kinds : (P : Type 0) (a b c d : Bool) (rest : List ℕ) (r : VolumeRecord) → by_kind a b c d rest ≡ Some r
    → (a ≡ true → chunk_record rest ≡ Some r → P) → (b ≡ true → file_record rest ≡ Some r → P) → (c ≡ true → DropFileRecord rest ≡ r → P) → (d ≡ true → drop_chunk_record rest ≡ Some r → P) → P
kinds P true b c d rest r e one two three four = one refl e
kinds P false true c d rest r e one two three four = two refl e
kinds P false false true d rest r e one two three four = three refl cc
kinds P false false false true rest r e one two three four = four refl e
kinds P false false false false rest r e one two three four = absurd (none-some r e)

-- a body spells a record, which is spelled so
abbrev Spells : List ℕ → VolumeRecord → Type 0
Spells body r = (volume_body r ≡ body) × IsVolumeRecord r

chunk_spelled : (rest : List ℕ) (r : VolumeRecord) → chunk_record rest ≡ Some r → Spells (1 ∷ rest) r
chunk_spelled rest r e =
    let is = some_if (nat_le 33 (length rest) && nat_le (length rest) (32 + 2 ^ 20)) (ChunkRecord (take 32 rest) (drop 32 rest)) r e in
    let sizes = and_parts _ _ is.0 in
    let some = leb-true 33 (length rest) sizes.0 in
    let most = leb-true (length rest) (32 + 2 ^ 20) sizes.1 in
    subst (λ (x : VolumeRecord). Spells (1 ∷ rest) x) is.1 (
      ap (λ (l : List ℕ). 1 ∷ l) (take-append-drop 32 rest),
      (length-take-le 32 rest (omega (arith, some)), record { some = omega (arith, some, length-drop 32 rest); most = omega (arith, most, length-drop 32 rest) }),
    )

file_spelled : (rest : List ℕ) (r : VolumeRecord) → file_record rest ≡ Some r → Spells (2 ∷ rest) r
file_spelled [] r e = absurd (none-some r e)
file_spelled (n ∷ rest) r e =
    let k = (length rest - n) / 32 in
    let is = some_if (nat_le n (length rest) && (length rest - n) % 32 == 0) (FileRecord (take n rest) (names_of_chunks k (drop n rest))) r e in
    let parts = and_parts _ _ is.0 in
    let inside = leb-true n (length rest) parts.0 in
    let whole = eqb-true ((length rest - n) % 32) 0 parts.1 in
    let long : length (drop n rest) ≡ k * 32 = omega (arith, whole, length-drop n rest) in
    subst (λ (x : VolumeRecord). Spells (2 ∷ n ∷ rest) x) is.1 (
      ap (λ (m : ℕ). 2 ∷ m ∷ (take n rest ++ concat (names_of_chunks k (drop n rest)))) (length-take-le n rest inside)
          ∙ ap (λ (l : List ℕ). 2 ∷ n ∷ (take n rest ++ l)) (names_cut k (drop n rest) long)
          ∙ ap (λ (l : List ℕ). 2 ∷ n ∷ l) (take-append-drop n rest),
      cut_lawful k (drop n rest) long,
    )

drop_chunk_spelled : (rest : List ℕ) (r : VolumeRecord) → drop_chunk_record rest ≡ Some r → Spells (4 ∷ rest) r
drop_chunk_spelled rest r e =
    let is = some_if (length rest == 32) (DropChunkRecord rest) r e in
    subst (λ (x : VolumeRecord). Spells (4 ∷ rest) x) is.1 (refl, eqb-true (length rest) 32 is.0)

spelled_as : (kind k : ℕ) (rest : List ℕ) (r : VolumeRecord) → (kind == k) ≡ true → Spells (k ∷ rest) r → Spells (kind ∷ rest) r
spelled_as kind k rest r is spells = subst (λ (n : ℕ). Spells (n ∷ rest) r) (sym (eqb-true kind k is)) spells

spells : (body : List ℕ) (r : VolumeRecord) → volume_record body ≡ Some r → Spells body r
spells [] r e = absurd (none-some r e)
spells (kind ∷ rest) r e = kinds (Spells (kind ∷ rest) r) (kind == 1) (kind == 2) (kind == 3) (kind == 4) rest r e
    (λ is inner. spelled_as kind 1 rest r is (chunk_spelled rest r inner))
    (λ is inner. spelled_as kind 2 rest r is (file_spelled rest r inner))
    (λ is inner. spelled_as kind 3 rest r is (subst (λ (x : VolumeRecord). Spells (3 ∷ rest) x) inner (refl, tt)))
    (λ is inner. spelled_as kind 4 rest r is (drop_chunk_spelled rest r inner))

pub volume_spelled : (body : List ℕ) (r : VolumeRecord) → volume_record body ≡ Some r → volume_body r ≡ body
volume_spelled body r e = (spells body r e).0

pub volume_lawful : (body : List ℕ) (r : VolumeRecord) → volume_record body ≡ Some r → IsVolumeRecord r
volume_lawful body r e = (spells body r e).1
