-- The chunks of a file, one after the other.
use Rattle.std.proofs.Common.{◌≡◌, ℕ, suc, ◌+◌, ◌≤◌, ◌<◌, List, [], ◌∷◌, ◌++◌, length, take, drop, get_or, Option, Some, Ok, Err, refl, sym, ◌∙◌, ap, subst, arith, add-one, drop-cons, inl, inr, Vec}
use Rattle.std.specs.Prelude.{map as each, slice_get, All, Contains, unwrap_or, is_some}
use Rattle.std.specs.List.{concat}
use Rattle.std.specs.Option.{option_map}
use Rattle.std.specs.FinMap as map
use Rattle.std.specs.declared.alloc.Global.{Global}
use Rattle.std.proofs.Math.Seq.{take-suc}
use Rattle.std.proofs.lemmas.Bool.{true≢false, cases_Bool}
use Rattle.std.proofs.lemmas.Grind.{flat_map-append}
use Rattle.std.proofs.lemmas.List.{map-append, append-nil, take-append-drop, take_all}
use Rattle.std.proofs.lemmas.List.Elements.{All-append, All-cons, All-nil, Contains-get_or}
use Rattle.std.proofs.lemmas.List.Folds.{concat-append, list_all_at}
use Rattle.std.proofs.lemmas.Option.{slice_get_within, get_or_from_slice_get}
use Rattle.sha2.specs.Sha256.{sha256}
use Rattle.volume_disk.specs.Disk.{Disk}
use Rattle.site_forms.specs.Sites.{HoldsChunk}
use Rattle.site_forms.specs.Views.{joined_bytes}
use Rattle.site_forms.specs.Volumes.{Files, Volume, Shape, chunk_or}
use Rattle.chunk_volume.specs.declared.errors.VolError.{VolError}
use Rattle.chunk_volume.specs.declared.errors.VolError.TheVariants.{RackFault, Damage, BadChunk, Collision, Exists, NoSuchFile, DeviceFull, Spent, Memory}
use Rattle.chunk_volume.specs.Pieces.{ReadsHeld, FindsPiece}
use Rattle.chunk_volume.specs.ReadingVolumes.{HasBytes, IsBadChunk, IsGoodChunk, ReadsFile, FindsFile}
use Rattle.chunk_volume.specs.Standing.{VolumeStands}
use Rattle.chunk_volume.specs.VolumeValues.{VolumeValue}
use Rattle.chunk_volume.proofs.FoundBytes.{stored}
use Rattle.volume_index.specs.HoldingValues.{KeepsShape}
use Rattle.volume_index.proofs.Alls.{get_at}

-- THE LIST OF A FILE

pub file_list : (files : Files) (place : ℕ) (name : List ℕ) (list : List (List ℕ)) → slice_get (map.keys files) place ≡ Some name → slice_get (map.values files) place ≡ Some list → map.get files name ≡ Some list
file_list files place name list is_name is_list =
    ap (map.get files) (sym (get_or_from_slice_get (map.keys files) place name [] is_name))
    ∙ get_at files place [] (slice_get_within (map.keys files) place name is_name)
    ∙ ap (λ (l : List (List ℕ)). Some l) (get_or_from_slice_get (map.values files) place list [] is_list)

-- each of its chunks is held
pub chunk_held : (shape : Shape) (name : List ℕ) (list : List (List ℕ)) (i : ℕ) → KeepsShape shape → map.get shape.files name ≡ Some list → i < length list → HoldsChunk shape (get_or list i [])
chunk_held shape name list i keeps is inside = elim (cases_Bool (map.contains_key shape.chunks (get_or list i []))) [
  | inl t ↦ t
  | inr f ↦ absurd (true≢false (sym (keeps.held name list is) ∙ list_all_at (map.contains_key shape.chunks) list i [] inside f))
]

-- WHAT WAS READ

-- pieces with the first names of a list as their digests, joined
pub record PiecesRead (list : List (List ℕ)) (i : ℕ) (bytes : List ℕ) : Type 0 where
  pub pieces : List (List ℕ)
  pub names : each sha256 pieces ≡ take i list
  pub joined : bytes ≡ concat pieces

pub pieces_none : (list : List (List ℕ)) → PiecesRead list 0 []
pieces_none list = record { pieces = []; names = refl; joined = refl }

take_next : (list : List (List ℕ)) (i : ℕ) → i < length list → take (i + 1) list ≡ take i list ++ get_or list i [] ∷ []
take_next list i inside = ap (λ (n : ℕ). take n list) (add-one i) ∙ take-suc list i [] inside

concat_one : (piece : List ℕ) → concat (piece ∷ []) ≡ piece
concat_one piece = append-nil piece

pub pieces_more : (list : List (List ℕ)) (i : ℕ) (bytes piece : List ℕ) → i < length list → sha256 piece ≡ get_or list i [] → PiecesRead list i bytes → PiecesRead list (i + 1) (bytes ++ piece)
pieces_more list i bytes piece inside named read = record {
  pieces = read.pieces ++ piece ∷ [];
  names = map-append sha256 read.pieces (piece ∷ []) ∙ (λ k. read.names k ++ named k ∷ []) ∙ sym (take_next list i inside);
  joined = ap (λ (l : List ℕ). l ++ piece) read.joined ∙ ap (λ (l : List ℕ). concat read.pieces ++ l) (sym (concat_one piece)) ∙ sym (concat-append read.pieces (piece ∷ []));
}

-- WHAT THE DISK SAYS

-- the bytes of the first chunks of a list, joined, all of them good
pub record PiecesFound (volume : Volume) (list : List (List ℕ)) (i : ℕ) (bytes : List ℕ) : Type 0 where
  pub joined : bytes ≡ joined_bytes volume (take i list)
  pub good : All (IsGoodChunk volume) (take i list)

pub found_none : (volume : Volume) (list : List (List ℕ)) → PiecesFound volume list 0 []
found_none volume list = record { joined = refl; good = All-nil (IsGoodChunk volume) }

bytes_of : (volume : Volume) (chunk held : List ℕ) → HasBytes volume chunk held → joined_bytes volume (chunk ∷ []) ≡ held
bytes_of volume chunk held is = append-nil (chunk_or [] volume chunk) ∙ ap (λ (o : Option (List ℕ)). unwrap_or o []) is

pub found_more : (volume : Volume) (list : List (List ℕ)) (i : ℕ) (bytes piece : List ℕ) → i < length list → HasBytes volume (get_or list i []) piece → sha256 piece ≡ get_or list i [] → PiecesFound volume list i bytes
    → PiecesFound volume list (i + 1) (bytes ++ piece)
found_more volume list i bytes piece inside held named found =
    let chunk = get_or list i [] in
    record {
      joined = ap (λ (l : List ℕ). l ++ piece) found.joined
          ∙ ap (λ (l : List ℕ). joined_bytes volume (take i list) ++ l) (sym (bytes_of volume chunk piece held))
          ∙ sym (flat_map-append (chunk_or [] volume) (take i list) (chunk ∷ []))
          ∙ ap (joined_bytes volume) (sym (take_next list i inside));
      good = subst (All (IsGoodChunk volume)) (sym (take_next list i inside)) (All-append (IsGoodChunk volume) (take i list) (chunk ∷ []) found.good (All-cons (IsGoodChunk volume) chunk [] (piece, held, named) (All-nil (IsGoodChunk volume))));
    }

-- a piece that was read is what the volume has
pub piece_held : (place : ℕ) (v : VolumeValue) (d : Disk) (volume : Volume) (chunk piece : List ℕ) → VolumeStands place v d volume → (held : ReadsHeld v chunk piece (Ok tt)) → FindsPiece (d v.log.device).image held.at held.len piece (Ok tt) → HasBytes volume chunk piece
piece_held place v d volume chunk piece stands held finds =
    let has = stored place v d volume chunk held.at held.len stands held.placed held.long in
    has.held ∙ ap (λ (l : List ℕ). Some l) (sym (finds ∙ has.same))

-- THE ANSWERS

pub file_read : (v : VolumeValue) (name : List ℕ) (list : List (List ℕ)) (i : ℕ) (bytes : Vec ℕ Global) → map.get v.shape.files name ≡ Some list → length list ≤ i → PiecesRead list i bytes.items → ReadsFile v name (Ok bytes)
file_read v name list i bytes is all read = (read.pieces, is ∙ ap (λ (l : List (List ℕ)). Some l) (sym (read.names ∙ take_all i list all)), read.joined)

pub file_found : (place : ℕ) (v : VolumeValue) (d : Disk) (volume : Volume) (name : List ℕ) (list : List (List ℕ)) (i : ℕ) (bytes : Vec ℕ Global) → VolumeStands place v d volume → map.get v.shape.files name ≡ Some list → length list ≤ i
    → PiecesFound volume list i bytes.items → FindsFile volume name (Ok bytes)
file_found place v d volume name list i bytes stands is all found =
    ap (option_map (joined_bytes volume)) (ap (λ (s : Shape). map.get s.files name) (sym stands.shape) ∙ is)
    ∙ ap (λ (l : List ℕ). Some l) (ap (joined_bytes volume) (sym (take_all i list all)) ∙ sym found.joined)

-- a piece that was refused
pub file_refused : (v : VolumeValue) (name : List ℕ) (list : List (List ℕ)) (i : ℕ) (piece : List ℕ) (error : VolError) → map.get v.shape.files name ≡ Some list → i < length list → ReadsHeld v (get_or list i []) piece (Err error) → ReadsFile v name (Err error)
file_refused v name list i piece RackFault is inside held = ap is_some is
file_refused v name list i piece Memory is inside held = ap is_some is
file_refused v name list i piece (Damage device at) is inside held = (held.reads.0, (list, is, (get_or list i [], Contains-get_or list i [] inside, held.placed ∙ ap (λ (n : ℕ). Some n) (sym held.reads.1))))
file_refused v name list i piece (BadChunk chunk found) is inside held = (
  λ same. held.reads.1 (same ∙ held.reads.0),
  (list, is, subst (Contains list) (sym held.reads.0) (Contains-get_or list i [] inside)),
)
file_refused v name list i piece (Collision chunk) is inside held = held.reads
file_refused v name list i piece Exists is inside held = held.reads
file_refused v name list i piece NoSuchFile is inside held = absurd held.reads
file_refused v name list i piece (DeviceFull device at len) is inside held = held.reads
file_refused v name list i piece Spent is inside held = held.reads

split_at : (list : List (List ℕ)) (i : ℕ) → i < length list → list ≡ take i list ++ get_or list i [] ∷ drop (suc i) list
split_at list i inside = sym (take-append-drop i list) ∙ ap (λ (l : List (List ℕ)). take i list ++ l) (drop-cons list i [] inside)

pub file_bad : (place : ℕ) (v : VolumeValue) (d : Disk) (volume : Volume) (name : List ℕ) (list : List (List ℕ)) (i : ℕ) (bytes piece : List ℕ) (error : VolError) → VolumeStands place v d volume → map.get v.shape.files name ≡ Some list → i < length list
    → PiecesFound volume list i bytes → (held : ReadsHeld v (get_or list i []) piece (Err error)) → FindsPiece (d v.log.device).image held.at held.len piece (Err error) → FindsFile volume name (Err error)
file_bad place v d volume name list i bytes piece RackFault stands is inside found held finds = tt
file_bad place v d volume name list i bytes piece Memory stands is inside found held finds = tt
file_bad place v d volume name list i bytes piece (Damage device at) stands is inside found held finds =
    let has = stored place v d volume (get_or list i []) held.at held.len stands held.placed held.long in absurd (omega (arith, finds, has.inside))
file_bad place v d volume name list i bytes piece (BadChunk chunk digest) stands is inside found held finds =
    let own = get_or list i [] in
    let has = stored place v d volume own held.at held.len stands held.placed held.long in
    let bad : IsBadChunk volume own digest = (has.bytes, has.held, ap sha256 (sym has.same) ∙ sym finds, held.reads.1) in
    record {
      front = take i list;
      rest = drop (suc i) list;
      list = ap (λ (s : Shape). map.get s.files name) (sym stands.shape) ∙ is ∙ ap (λ (l : List (List ℕ)). Some l) (split_at list i inside ∙ ap (λ (c : List ℕ). take i list ++ c ∷ drop (suc i) list) (sym held.reads.0));
      good = found.good;
      bad = subst (λ (c : List ℕ). IsBadChunk volume c digest) (sym held.reads.0) bad;
    }
file_bad place v d volume name list i bytes piece (Collision chunk) stands is inside found held finds = tt
file_bad place v d volume name list i bytes piece Exists stands is inside found held finds = tt
file_bad place v d volume name list i bytes piece NoSuchFile stands is inside found held finds = tt
file_bad place v d volume name list i bytes piece (DeviceFull device at len) stands is inside found held finds = tt
file_bad place v d volume name list i bytes piece Spent stands is inside found held finds = tt
