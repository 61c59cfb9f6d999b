-- The bytes of a half that is written anew, and what finishing it brings into force.
use Rattle.std.proofs.Common.{◌≡◌, ◌≢◌, ◌⊎◌, inl, inr, ⊎_elim, ℕ, suc, ◌+◌, ◌-◌, ◌^◌, ◌<◌, ◌≤◌, List, [], ◌∷◌, ◌++◌, length, drop, Bool, false, Option, Some, None, refl, sym, ◌∙◌, ap, subst, arith, length-append}
use Rattle.std.specs.Prelude.{slice_index, IsSome, All, unwrap_or, nat_le, Result, Ok, Err, OnOk, if◌then◌else◌}
use Rattle.std.proofs.lemmas.Result.{on_ok_weaker}
use Rattle.std.specs.Int.{w32, to_be_bytes}
use Rattle.std.proofs.lemmas.Bool.{cases_eq, le-leb}
use Rattle.std.proofs.lemmas.List.{take_all, drop_all, append-nil, length-drop, get_or-append_right}
use Rattle.std.proofs.lemmas.List.Elements.{All-cons, All-nil, All-append}
use Rattle.volume_disk.specs.Medium.{Medium, MayLeave, at_rest, written}
use Rattle.volume_disk.specs.Disk.{Disk, Images, Crash, SameElsewhere}
use Rattle.volume_disk.specs.Left.{OneWriteAt}
use Rattle.volume_disk.proofs.Within.{written_within}
use Rattle.volume_disk.proofs.Rest.{only_image, crash_at_rest}
use Rattle.site_forms.specs.Logs.{parse, blocks, log_size, IsBody, IsLog}
use Rattle.site_forms.specs.Halves.{Half, device, generation, half_record, without_half, records_at, SameRecords, IsBelow, IsClosed}
use Rattle.site_forms.specs.Halves.Half.{First, Second}
use Rattle.site_forms.proofs.Halves.{generation_good, first_wins, second_wins, first_pair, second_pair, same_records, half_number-half_record}
use Rattle.site_forms.proofs.Walks.{log_size-cons}
use Rattle.site_forms.proofs.Whole.{length-blocks, blocks-more, whole_log}
use Rattle.chunk_log.specs.LogValues.{LogValue}
use Rattle.chunk_log.specs.Standing.{StandsAt, LogStands, IsDormant}
use Rattle.chunk_log.specs.Shutting.{IsShut, SameOrShut}
use Rattle.chunk_log.specs.Retiring.{IsBeside}
use Rattle.chunk_log.specs.HalfWriting.{IsWriting, shut_blocks, IsSameOrNew, IsStronger, PutsBlock, NotedBody, AddsBody}
use Rattle.volume_disk.specs.declared.rack.RackError.{RackError}
use Rattle.volume_disk.specs.declared.rack.RackError.TheVariants.{Fault}
use Rattle.volume_disk.proofs.Moments.{begins, weaker, leads_on}
use Rattle.volume_disk.specs.Time.{Passes}
use Rattle.chunk_log.specs.PuttingDown.{PutDown}
use Rattle.chunk_log.specs.declared.errors.AppendError.{AppendError}
use Rattle.chunk_log.proofs.Beside.{other_half, is_other, apart_from, records_stay, log_stays, shut_dormant}
use Rattle.chunk_log.proofs.Standing.{rest_here}
use Rattle.chunk_log.proofs.Shutting.{shut_at_rest}
use Rattle.chunk_log.proofs.PlaceHalves.{dormant_at_rest}

-- THE BYTES

-- written at the end
pub written_end : (image : List ℕ) (at : ℕ) (bytes : List ℕ) → at ≡ length image → written image at bytes ≡ image ++ bytes
written_end image at bytes is =
    written_within image at bytes (omega (arith, is))
    ∙ ap (λ (l : List ℕ). l ++ (bytes ++ drop (at + length bytes) image)) (take_all at image (omega (arith, is)))
    ∙ ap (λ (l : List ℕ). image ++ (bytes ++ l)) (drop_all (at + length bytes) image (omega (arith, is)))
    ∙ ap (λ (l : List ℕ). image ++ l) (append-nil bytes)

-- without a body there is the first gate alone
none_at_start : (bodies : List (List ℕ)) → log_size bodies ≡ 0 → bodies ≡ []
none_at_start [] is = refl
none_at_start (body ∷ bodies) is = absurd (omega (arith, is, log_size-cons body bodies))

pub first_block : (bodies : List (List ℕ)) (body : List ℕ) → log_size bodies ≡ 0 → (length (shut_blocks bodies) ≡ 1) × (shut_blocks (bodies ++ body ∷ []) ≡ shut_blocks bodies ++ (to_be_bytes w32 (length body) ++ body))
first_block bodies body is =
    let none = none_at_start bodies is in (
      ap (λ (l : List (List ℕ)). length (shut_blocks l)) none,
      ap (λ (l : List (List ℕ)). shut_blocks (l ++ body ∷ [])) none
          ∙ ap (λ (l : List ℕ). 0 ∷ to_be_bytes w32 (length body) ++ l) (append-nil body)
          ∙ ap (λ (l : List (List ℕ)). shut_blocks l ++ (to_be_bytes w32 (length body) ++ body)) (sym none),
    )

pub next_block : (bodies : List (List ℕ)) (body : List ℕ) → 1 ≤ log_size bodies → (length (shut_blocks bodies) ≡ log_size bodies) × (shut_blocks (bodies ++ body ∷ []) ≡ shut_blocks bodies ++ (1 ∷ to_be_bytes w32 (length body) ++ body))
next_block [] body some = absurd (omega (arith, some))
next_block (front ∷ bodies) body some = (length-blocks (front ∷ bodies), ap (λ (l : List ℕ). 0 ∷ drop 1 l) (blocks-more (front ∷ bodies) body))

-- how long they are
pub log_size-more : (bodies : List (List ℕ)) (body : List ℕ) → log_size (bodies ++ body ∷ []) ≡ log_size bodies + 5 + length body
log_size-more [] body = omega (arith, log_size-cons body [])
log_size-more (front ∷ bodies) body = omega (arith, log_size-more bodies body, log_size-cons front bodies, log_size-cons front (bodies ++ body ∷ []))

pub shut_blocks_long : (bodies : List (List ℕ)) → 1 ≤ log_size bodies → length (shut_blocks bodies) ≡ log_size bodies
shut_blocks_long [] some = absurd (omega (arith, some))
shut_blocks_long (body ∷ bodies) some = length-blocks (body ∷ bodies)

-- with the first gate open and one behind, it is a log
pub opened_blocks : (bodies : List (List ℕ)) → 1 ≤ log_size bodies → 1 ∷ drop 1 (shut_blocks bodies ++ 0 ∷ []) ≡ blocks bodies ++ 0 ∷ []
opened_blocks [] some = absurd (omega (arith, some))
opened_blocks (body ∷ bodies) some = refl

index_behind : (front : List ℕ) (x : ℕ) (rest : List ℕ) (n : ℕ) → n ≡ length front → slice_index (front ++ x ∷ rest) n ≡ x
index_behind front x rest n is =
    let none : n - n ≡ 0 = omega arith in
    get_or-append_right front (x ∷ rest) n n 0 (sym is) (omega arith) ∙ ap (λ (k : ℕ). slice_index (x ∷ rest) k) none

-- a zero is no open gate
zero_shut : (n : ℕ) → n ≡ 0 → n ≡ 1 → ⊥
zero_shut n is one = omega (arith, is, one)

-- behind blocks stands a gate
some_image : (bodies : List (List ℕ)) → 1 ≤ length (shut_blocks bodies ++ 0 ∷ [])
some_image bodies = omega (arith, length-append (shut_blocks bodies) (0 ∷ []))

pub blocks_log : (bodies : List (List ℕ)) → All IsBody bodies → log_size bodies < 2 ^ 40 → IsLog (blocks bodies ++ 0 ∷ []) bodies (log_size bodies)
blocks_log bodies lawful below = record {
  good = whole_log bodies 0 [] lawful (zero_shut 0 refl) below;
  gate = omega (arith, length-append (blocks bodies) (0 ∷ []), length-blocks bodies);
  closed = zero_shut _ (index_behind (blocks bodies) 0 [] (log_size bodies) (sym (length-blocks bodies)));
}

-- the last gate is written
pub ended_image : (writer : LogValue) (bodies : List (List ℕ)) (m : Medium) → IsWriting writer bodies m → 1 ≤ writer.end → written m.image writer.end (0 ∷ []) ≡ shut_blocks bodies ++ 0 ∷ []
ended_image writer bodies m writing some =
    ap (λ (l : List ℕ). written l writer.end (0 ∷ [])) writing.image
    ∙ written_end (shut_blocks bodies) writer.end (0 ∷ []) (writing.ends ∙ sym (shut_blocks_long bodies (omega (arith, some, writing.ends))))

-- both gates are written
pub half_written : (writer : LogValue) (bodies : List (List ℕ)) (m first second : Medium) → 1 ≤ writer.end → IsWriting writer bodies m → first ≡ at_rest (written m.image writer.end (0 ∷ []))
    → second ≡ at_rest (written first.image 0 (1 ∷ [])) → second ≡ at_rest (blocks bodies ++ 0 ∷ [])
half_written writer bodies m first second some writing one two =
    two ∙ ap (λ (n : Medium). at_rest (written n.image 0 (1 ∷ []))) one ∙ ap (λ (l : List ℕ). at_rest (written l 0 (1 ∷ []))) (ended_image writer bodies m writing some)
    ∙ ap at_rest (written_within (shut_blocks bodies ++ 0 ∷ []) 0 (1 ∷ []) (omega arith) ∙ opened_blocks bodies (omega (arith, some, writing.ends)))

-- THE FIRST GATE IS WRITTEN

front_or_other : (gate : ℕ) (rest x : List ℕ) → length x ≡ suc (length rest) → drop 1 x ≡ rest → (x ≡ gate ∷ rest) ⊎ (slice_index x 0 ≢ gate)
front_or_other gate rest [] long same = absurd (omega (arith, long))
front_or_other gate rest (y ∷ ys) long same = elim (cases_eq y gate) as (λ _. (y ∷ ys ≡ gate ∷ rest) ⊎ (y ≢ gate)) [
  | inl here ↦ inl (ap (λ (n : ℕ). n ∷ ys) here ∙ ap (λ (l : List ℕ). gate ∷ l) same)
  | inr other ↦ inr other
]

pub gate_opens : (dev : ℕ) (image : List ℕ) (d : Disk) (b c : Images) → dev ≤ 5 → d dev ≡ at_rest image → 1 ≤ length image → Crash d b → OneWriteAt dev 0 (1 ∷ []) b c → (c dev ≡ 1 ∷ drop 1 image) ⊎ IsClosed (c dev)
gate_opens dev image d b c is_device rest some crash one =
    let was : b dev ≡ image = crash_at_rest dev image d b is_device rest crash in
    let long : length (c dev) ≡ suc (length (drop 1 image)) = omega (arith, one.here.no_shorter, one.here.no_longer, ap length was, some, length-drop 1 image) in
    ⊎_elim (λ same. inl same) (λ closed. inr (inr closed)) (front_or_other 1 (drop 1 image) (c dev) long (one.here.back ∙ ap (drop 1) was))

-- THE NEW HALF COMES INTO FORCE

-- the image of the finished half
abbrev pub finished : ℕ → List (List ℕ) → List ℕ
finished number live = blocks (half_record number ∷ live) ++ 0 ∷ []

-- what its generation is
finished_generation : (number : ℕ) (live : List (List ℕ)) → number < 2 ^ 64 → All IsBody (half_record number ∷ live) → log_size (half_record number ∷ live) < 2 ^ 40 → generation (finished number live) ≡ Some number
finished_generation number live fits lawful below =
    generation_good (finished number live) (half_record number ∷ live) (log_size (half_record number ∷ live)) (blocks_log (half_record number ∷ live) lawful below).good
    ∙ ap (λ (n : ℕ). Some n) (half_number-half_record number fits)

-- the records are those behind the Half record
live_told : (number : ℕ) (live : List (List ℕ)) → number < 2 ^ 64 → 1 ≤ number → without_half (half_record number ∷ live) ≡ live
live_told number live fits some =
    ap (λ (n : ℕ). if nat_le 1 n then live else half_record number ∷ live) (half_number-half_record number fits)
    ∙ ap (λ (b : Bool). if b then live else half_record number ∷ live) (le-leb 1 number some)

-- a generation that is counted below is below
below_some : (g : Option ℕ) (number : ℕ) → unwrap_or g 0 < number → IsBelow g (Some number)
below_some None number under = tt
below_some (Some n) number under = under

module _ (number : ℕ) (live : List (List ℕ)) (fits : number < 2 ^ 64) (some : 1 ≤ number) (lawful : All IsBody (half_record number ∷ live)) (below : log_size (half_record number ∷ live) < 2 ^ 40) where
  -- the place says what was written
  told_new : (half : Half) (place dev gate : ℕ) (records : List (List ℕ)) (d : Disk) (b c : Images) → place ≤ 2 → dev ≡ device place (other_half half) → (stands : StandsAt place half records gate d)
      → unwrap_or (generation stands.image) 0 < number → Crash d b → ((other : ℕ) → other ≢ dev → c other ≡ b other) → c dev ≡ finished number live → records_at c place ≡ Some live
  told_new First place dev gate records d b c is_place is stands under crash elsewhere full =
      let x = c place in
      let y = c (place + 3) in
      let old : x ≡ stands.image = elsewhere place (λ same. omega (arith, same, is)) ∙ only_image stands.image (b place) (subst (λ (m : Medium). MayLeave m (b place)) stands.rest (crash place (omega (arith, is_place)))) in
      let new : y ≡ finished number live = subst (λ (n : ℕ). c n ≡ finished number live) is full in
      let counted : generation y ≡ Some number = ap generation new ∙ finished_generation number live fits lawful below in
      let low : IsBelow (generation x) (generation y) = subst (λ (g : Option ℕ). IsBelow (generation x) g) (sym counted) (below_some (generation x) number (subst (λ (l : List ℕ). unwrap_or (generation l) 0 < number) (sym old) under)) in
      second_pair x y (half_record number ∷ live) live (log_size (half_record number ∷ live)) (second_wins (generation x) (generation y) number counted low) (ap parse new ∙ (blocks_log (half_record number ∷ live) lawful below).good) (live_told number live fits some)
  told_new Second place dev gate records d b c is_place is stands under crash elsewhere full =
      let x = c place in
      let y = c (place + 3) in
      let old : y ≡ stands.image = elsewhere (place + 3) (λ same. omega (arith, same, is)) ∙ only_image stands.image (b (place + 3)) (subst (λ (m : Medium). MayLeave m (b (place + 3))) stands.rest (crash (place + 3) (omega (arith, is_place)))) in
      let new : x ≡ finished number live = subst (λ (n : ℕ). c n ≡ finished number live) is full in
      let counted : generation x ≡ Some number = ap generation new ∙ finished_generation number live fits lawful below in
      let low : IsBelow (generation y) (generation x) = subst (λ (g : Option ℕ). IsBelow (generation y) g) (sym counted) (below_some (generation y) number (subst (λ (l : List ℕ). unwrap_or (generation l) 0 < number) (sym old) under)) in
      first_pair x y (half_record number ∷ live) live (log_size (half_record number ∷ live)) (first_wins (generation x) (generation y) low) (ap parse new ∙ (blocks_log (half_record number ∷ live) lawful below).good) (live_told number live fits some)

  -- the new half stands
  new_stands : (half : Half) (place dev gate : ℕ) (records : List (List ℕ)) (d e : Disk) → place ≤ 2 → dev ≡ device place (other_half half) → (stands : StandsAt place half records gate d) → unwrap_or (generation stands.image) 0 < number
      → SameElsewhere dev d e → e dev ≡ at_rest (finished number live) → StandsAt place (other_half half) live (log_size (half_record number ∷ live)) e
  new_stands First place dev gate records d e is_place is stands under others rest =
      let counted = finished_generation number live fits lawful below in
      record {
        image = finished number live;
        rest = subst (λ (n : ℕ). e n ≡ at_rest (finished number live)) is rest;
        bodies = half_record number ∷ live;
        log = blocks_log (half_record number ∷ live) lawful below;
        told = live_told number live fits some;
        dormant = dormant_at_rest (finished number live) stands.image (e place) (others place (λ same. omega (arith, same, is)) ∙ stands.rest) (subst (λ (g : Option ℕ). IsBelow (generation stands.image) g) (sym counted) (below_some (generation stands.image) number under));
        begun = λ second. subst IsSome (sym counted) refl;
      }
  new_stands Second place dev gate records d e is_place is stands under others rest =
      let counted = finished_generation number live fits lawful below in
      record {
        image = finished number live;
        rest = subst (λ (n : ℕ). e n ≡ at_rest (finished number live)) is rest;
        bodies = half_record number ∷ live;
        log = blocks_log (half_record number ∷ live) lawful below;
        told = live_told number live fits some;
        dormant = dormant_at_rest (finished number live) stands.image (e (place + 3)) (others (place + 3) (λ same. omega (arith, same, is)) ∙ stands.rest) (subst (λ (g : Option ℕ). IsBelow (generation stands.image) g) (sym counted) (below_some (generation stands.image) number under));
        begun = λ second. subst IsSome (sym counted) refl;
      }

-- A HALF IS BEGUN

pub written_blank : (image : List ℕ) → length image ≤ 1 → written image 0 (0 ∷ []) ≡ 0 ∷ []
written_blank image short = written_within image 0 (0 ∷ []) (omega arith) ∙ ap (λ (l : List ℕ). 0 ∷ l) (drop_all 1 image (omega (arith, short)))

pub blank_shuts : (dev : ℕ) (image : List ℕ) (d : Disk) (b c : Images) → dev ≤ 5 → d dev ≡ at_rest image → length image ≤ 1 → Crash d b → OneWriteAt dev 0 (0 ∷ []) b c → SameOrShut dev b c
blank_shuts dev image d b c is_device rest short crash one = record {
  elsewhere = one.elsewhere;
  here = inr (inl (omega (arith, one.here.no_longer, ap length (crash_at_rest dev image d b is_device rest crash), short)));
}

pub begun_writing : (writer : LogValue) (m : Medium) → m ≡ at_rest (0 ∷ []) → writer.end ≡ 0 → writer.spent ≡ false → IsWriting writer [] m
begun_writing writer m rest ends fresh = record {
  image = ap (λ (n : Medium). n.image) rest;
  shut = subst IsShut (sym rest) (shut_at_rest (0 ∷ []) (omega arith) (zero_shut 0 refl));
  guarded = inl (rest ∙ ap (λ (n : Medium). at_rest n.image) (sym rest));
  ends = ends;
  lawful = All-nil IsBody;
  fresh = fresh;
}

-- A BODY MORE

pub wrote_more : (writer after : LogValue) (bodies : List (List ℕ)) (body : List ℕ) (m : Medium) → IsWriting writer bodies m → IsBody body → (n : Medium) → n.image ≡ shut_blocks (bodies ++ body ∷ []) → IsShut n
    → after.end ≡ writer.end + 5 + length body → after.spent ≡ writer.spent → IsWriting after (bodies ++ body ∷ []) n
wrote_more writer after bodies body m writing is_body n image shut ends spent =
    let long = log_size-more bodies body in
    record {
      image = image;
      shut = shut;
      guarded = inr (shut, omega (arith, ap length image, shut_blocks_long (bodies ++ body ∷ []) (omega (arith, long, is_body.some)), long, is_body.some));
      ends = omega (arith, ends, writing.ends, long);
      lawful = All-append IsBody bodies (body ∷ []) writing.lawful (All-cons IsBody body [] is_body (All-nil IsBody));
      fresh = spent ∙ writing.fresh;
    }

-- A BODY IS ADDED

module _ {D : Type 0} (moment : D → ℕ) (left_since : D → ℕ → Images → Type 0) (old new : D) (d e : Disk) (writer after : LogValue) (body : List ℕ) (is_device : writer.device ≤ 5) (is_body : IsBody body) where
  writing_by : (done : Result (Unit {0}) RackError) (result : Result (Unit {0}) AppendError) (bodies : List (List ℕ)) → PutsBlock moment left_since old new d e writer.device writer.end body done → NotedBody writer after (length body) done result
      → IsWriting writer bodies (d writer.device) → OnOk result (IsWriting after (bodies ++ body ∷ []) (e writer.device))
  writing_by (Ok u) result bodies puts noted writing = subst (λ (r : Result (Unit {0}) AppendError). OnOk r (IsWriting after (bodies ++ body ∷ []) (e writer.device))) (sym noted.0)
      (wrote_more writer after bodies body (d writer.device) writing is_body (e writer.device) (puts.more bodies writing.image writing.ends) (puts.shut writing.shut) (ap (λ (w : LogValue). w.end) noted.1) (ap (λ (w : LogValue). w.spent) noted.1))
  writing_by (Err Fault) result bodies puts noted writing = subst (λ (r : Result (Unit {0}) AppendError). OnOk r (IsWriting after (bodies ++ body ∷ []) (e writer.device))) (sym noted.0) tt

  pub added_half : (done : Result (Unit {0}) RackError) (result : Result (Unit {0}) AppendError) → PutsBlock moment left_since old new d e writer.device writer.end body done → NotedBody writer after (length body) done result
      → AddsBody moment left_since old new d e writer after body result
  added_half done result puts noted = record {
    others = puts.others;
    kept = λ place records bodies log beside stands writing.
        let stays : IsWriting after (bodies ++ body ∷ []) (e writer.device) → LogStands place records log e = λ now. log_stays place writer.device records log d e is_device beside puts.others (λ image. shut_dormant (e writer.device) image now.shut now.guarded) stands in
        on_ok_weaker result stays (writing_by done result bodies puts noted writing);
    more = λ place records bodies log beside stands writing. writing_by done result bodies puts noted writing;
    moments = λ place records bodies log beside stands writing.
        weaker moment left_since old new (λ x. (b : Images) × Crash d b × SameOrShut writer.device b x) (λ x. (b : Images) × Crash d b × SameRecords b x) (puts.moments writing.shut)
        (λ x was. (was.0, was.1, records_stay place writer.device records log d was.0 x is_device beside stands was.1 was.2));
  }

pub refused_half : {D : Type 0} (moment : D → ℕ) (left_since : D → ℕ → Images → Type 0) (old : D) (d : Disk) (writer : LogValue) (body : List ℕ) (error : AppendError)
    → ((c : Images) → left_since old (moment old) c → Crash d c) → AddsBody moment left_since old old d d writer writer body (Err error)
refused_half moment left_since old d writer body error only_now = record {
  others = λ other out. refl;
  kept = λ place records bodies log beside stands writing. tt;
  more = λ place records bodies log beside stands writing. tt;
  moments = λ place records bodies log beside stands writing. begins moment left_since old (λ c. (b : Images) × Crash d b × SameRecords b c) (λ c left. (c, only_now c left, λ k is_k. refl));
}

-- A HALF IS FINISHED

apart_beside : (dev other : ℕ) → IsBeside dev other → other ≢ dev
apart_beside dev other (inl above) = λ same. omega (arith, above, same)
apart_beside dev other (inr under) = λ same. omega (arith, under, same)

-- the generation in force, as it stands
pub counted_here : (place number : ℕ) (records : List (List ℕ)) (log : LogValue) (d : Disk) → (stands : LogStands place records log d) → unwrap_or (generation (d log.device).image) 0 < number → unwrap_or (generation stands.stands.image) 0 < number
counted_here place number records log d stands under =
    subst (λ (m : Medium). unwrap_or (generation m.image) 0 < number) (rest_here stands.half place log.device log.end records d stands.here stands.stands) under

-- until the first gate is written
pub still_same : (place dev : ℕ) (records live : List (List ℕ)) (log : LogValue) (d : Disk) (b c : Images) → dev ≤ 5 → IsBeside dev log.device → LogStands place records log d → Crash d b → SameOrShut dev b c → IsSameOrNew place live b c
still_same place dev records live log d b c is_device beside stands crash change =
    let same = records_stay place dev records log d b c is_device beside stands crash change in
    record { others = λ other is_other out. same other is_other; here = inl (same place stands.is_place) }

-- the write of the first gate
pub gate_step : (place number dev : ℕ) (records live : List (List ℕ)) (log : LogValue) (d : Disk) (b z x : Images) → dev ≤ 5 → IsBeside dev log.device → LogStands place records log d → IsStronger number log d
    → All IsBody (half_record number ∷ live) → log_size (half_record number ∷ live) < 2 ^ 40 → d dev ≡ at_rest (shut_blocks (half_record number ∷ live) ++ 0 ∷ []) → Crash d z → IsSameOrNew place live b z → OneWriteAt dev 0 (1 ∷ []) z x
    → IsSameOrNew place live b x
gate_step place number dev records live log d b z x is_device beside stands stronger lawful below rest crash was one =
    let is = is_other stands.half place dev log.device stands.is_place is_device stands.here beside in
    elim (gate_opens dev (shut_blocks (half_record number ∷ live) ++ 0 ∷ []) d z x is_device rest (some_image (half_record number ∷ live)) crash one) as (λ _. IsSameOrNew place live b x) [
      | inl full ↦
          let told = told_new number live stronger.fits (omega (arith, stronger.above)) lawful below stands.half place dev log.end records d z x stands.is_place is stands.stands (counted_here place number records log d stands stronger.above) crash one.elsewhere full in
          record {
            others = λ other is_k out.
                let apart = apart_from (other_half stands.half) place dev other stands.is_place is_k is out in
                same_records other z x (one.elsewhere other apart.0) (one.elsewhere (other + 3) apart.1) ∙ was.others other is_k out;
            here = inr told;
          }
      | inr closed ↦
          let same = records_stay place dev records log d z x is_device beside stands crash (record { elsewhere = one.elsewhere; here = inr closed }) in
          record {
            others = λ other is_k out. same other is_k ∙ was.others other is_k out;
            here = ⊎_elim (λ old. inl (same place stands.is_place ∙ old)) (λ new. inr (same place stands.is_place ∙ new)) was.here;
          }
    ]

-- a half whose last gate is written is dormant
pub ended_dormant : (bodies : List (List ℕ)) (m : Medium) → m ≡ at_rest (shut_blocks bodies ++ 0 ∷ []) → (image : List ℕ) → IsDormant image m
ended_dormant bodies m rest image =
    shut_dormant m image (subst IsShut (sym rest) (shut_at_rest (shut_blocks bodies ++ 0 ∷ []) (some_image bodies) (zero_shut 0 refl))) (inl (rest ∙ ap (λ (n : Medium). at_rest n.image) (sym rest)))

-- a half stays stronger
pub still_stronger : (number dev : ℕ) (log : LogValue) (d e : Disk) → IsBeside dev log.device → SameElsewhere dev d e → IsStronger number log d → IsStronger number log e
still_stronger number dev log d e beside others stronger = record {
  fits = stronger.fits;
  above = subst (λ (m : Medium). unwrap_or (generation m.image) 0 < number) (sym (others log.device (apart_beside dev log.device beside))) stronger.above;
}

-- the first gate is written
pub finished_image : (number : ℕ) (live : List (List ℕ)) → written (shut_blocks (half_record number ∷ live) ++ 0 ∷ []) 0 (1 ∷ []) ≡ finished number live
finished_image number live = written_within (shut_blocks (half_record number ∷ live) ++ 0 ∷ []) 0 (1 ∷ []) (omega arith)

-- the new log stands
pub log_finished : (place number : ℕ) (records live : List (List ℕ)) (log after : LogValue) (d e : Disk) → after.device ≤ 5 → IsBeside after.device log.device → LogStands place records log d → IsStronger number log d → All IsBody (half_record number ∷ live)
    → after.end ≡ log_size (half_record number ∷ live) → after.end < 2 ^ 40 → after.spent ≡ false → SameElsewhere after.device d e → e after.device ≡ at_rest (finished number live) → LogStands place live after e
log_finished place number records live log after d e is_device beside stands stronger lawful ends below fresh others rest =
    let is = is_other stands.half place after.device log.device stands.is_place is_device stands.here beside in
    record {
      is_place = stands.is_place;
      half = other_half stands.half;
      here = is;
      stands = subst (λ (n : ℕ). StandsAt place (other_half stands.half) live n e) (sym ends)
          (new_stands number live stronger.fits (omega (arith, stronger.above)) lawful (omega (arith, ends, below)) stands.half place after.device log.end records d e stands.is_place is stands.stands (counted_here place number records log d stands stronger.above) others rest);
      fresh = fresh;
    }

-- both writes of the end
module _ {D : Type 0} (moment : D → ℕ) (left_since : D → ℕ → Images → Type 0) (writer : LogValue) (is_device : writer.device ≤ 5) (some : 1 ≤ writer.end) (place number : ℕ) (records live : List (List ℕ)) (log : LogValue) (beside : IsBeside writer.device log.device) where
  pub same_first : {E : Type 0} (old mid : D) (d m : Disk) (done : Result (Unit {0}) E) → PutDown moment left_since old mid d m writer.device writer.end (0 ∷ []) done → LogStands place records log d
      → IsWriting writer (half_record number ∷ live) (d writer.device) → Passes moment left_since old mid (λ c. (b : Images) × Crash d b × IsSameOrNew place live b c)
  same_first old mid d m done first stands writing =
      weaker moment left_since old mid (λ x. (b : Images) × Crash d b × SameOrShut writer.device b x) (λ x. (b : Images) × Crash d b × IsSameOrNew place live b x) (first.behind some writing.shut)
      (λ x was. (was.0, was.1, still_same place writer.device records live log d was.0 x is_device beside stands was.1 was.2))

  -- the same records until the first gate is written
  pub same_ending : {E : Type 0} (old mid : D) (d m : Disk) (done : Result (Unit {0}) E) → PutDown moment left_since old mid d m writer.device writer.end (0 ∷ []) done → LogStands place records log d
      → IsWriting writer (half_record number ∷ live) (d writer.device) → Passes moment left_since old mid (λ c. (b : Images) × Crash d b × SameRecords b c)
  same_ending old mid d m done first stands writing =
      weaker moment left_since old mid (λ x. (b : Images) × Crash d b × SameOrShut writer.device b x) (λ x. (b : Images) × Crash d b × SameRecords b x) (first.behind some writing.shut)
      (λ x was. (was.0, was.1, records_stay place writer.device records log d was.0 x is_device beside stands was.1 was.2))

  pub ends_shut : {E : Type 0} (old mid : D) (d m : Disk) → PutDown moment left_since old mid d m {E = E} writer.device writer.end (0 ∷ []) (Ok tt) → IsWriting writer (half_record number ∷ live) (d writer.device)
      → m writer.device ≡ at_rest (shut_blocks (half_record number ∷ live) ++ 0 ∷ [])
  ends_shut old mid d m first writing = first.lasts ∙ ap at_rest (ended_image writer (half_record number ∷ live) (d writer.device) writing some)

  module _ {E : Type 0} (old mid new : D) (d m e : Disk) (first : PutDown moment left_since old mid d m {E = E} writer.device writer.end (0 ∷ []) (Ok tt)) (stands : LogStands place records log d) (writing : IsWriting writer (half_record number ∷ live) (d writer.device)) (stronger : IsStronger number log d) (below : writer.end < 2 ^ 40) where
    ended : m writer.device ≡ at_rest (shut_blocks (half_record number ∷ live) ++ 0 ∷ [])
    ended = ends_shut old mid d m first writing

    stands_mid : LogStands place records log m
    stands_mid = log_stays place writer.device records log d m is_device beside first.others (ended_dormant (half_record number ∷ live) (m writer.device) ended) stands

    pub same_or_new : (done : Result (Unit {0}) E) → PutDown moment left_since mid new m e writer.device 0 (1 ∷ []) done → ((t : ℕ) (c : Images) → t ≤ moment mid → Crash m c → left_since mid t c)
        → Passes moment left_since old new (λ c. (b : Images) × Crash d b × IsSameOrNew place live b c)
    same_or_new done second counts =
        leads_on moment left_since old mid new (Crash d) (Crash m) (IsSameOrNew place live) (OneWriteAt writer.device 0 (1 ∷ [])) counts (same_first old mid d m (Ok tt) first stands writing) (second.moments (shut_blocks (half_record number ∷ live) ++ 0 ∷ []) ended (omega arith))
        (λ b z x crash was one. gate_step place number writer.device records live log m b z x is_device beside stands_mid (still_stronger number writer.device log d m beside first.others stronger) writing.lawful (omega (arith, writing.ends, below)) ended crash was one)

    pub new_log : PutDown moment left_since mid new m e {E = E} writer.device 0 (1 ∷ []) (Ok tt) → LogStands place live writer e
    new_log second =
        log_finished place number records live log writer m e is_device beside stands_mid (still_stronger number writer.device log d m beside first.others stronger) writing.lawful writing.ends below writing.fresh second.others
        (second.lasts ∙ ap (λ (n : Medium). at_rest (written n.image 0 (1 ∷ []))) ended ∙ ap at_rest (finished_image number live))
