-- A log over an append.
use Rattle.std.proofs.Common.{◌≡◌, inl, inr, ℕ, ◌+◌, ◌^◌, ◌≤◌, List, [], ◌∷◌, ◌++◌, length, Ok, Err, Some, refl, sym, subst, arith}
use Rattle.std.specs.Prelude.{Result, OnOk}
use Rattle.volume_disk.specs.declared.rack.RackError.{RackError}
use Rattle.volume_disk.specs.declared.rack.RackError.TheVariants.{Fault}
use Rattle.volume_disk.specs.Medium.{at_rest}
use Rattle.volume_disk.specs.Disk.{Disk, Images, Crash, SameElsewhere}
use Rattle.volume_disk.specs.Time.{Passes}
use Rattle.volume_disk.proofs.Moments.{begins, weaker}
use Rattle.site_forms.specs.Halves.{OneMoreAt, SameRecords, half_number, records_at}
use Rattle.chunk_log.specs.declared.errors.AppendError.{AppendError}
use Rattle.chunk_log.specs.LogValues.{LogValue}
use Rattle.chunk_log.specs.Standing.{LogStands}
use Rattle.chunk_log.specs.Bodies.{with_block, BodyAppended, OneBodyMoreAt, SameBodiesAt, UntilGate, EndsAtRest}
use Rattle.chunk_log.specs.Appending.{Appended, Noted, after_append}
use Rattle.chunk_log.proofs.Standing.{one_more, same_bodies, stands_after, rest_here, settled}

-- the records of a place where a log stands, whatever a crash leaves
pub log_settled : (place : ℕ) (records : List (List ℕ)) (log : LogValue) (d : Disk) (c : Images) → (stands : LogStands place records log d) → Crash d c → records_at c place ≡ Some records
log_settled place records log d c stands crash = settled stands.half place log.end records d c stands.is_place stands.stands crash

-- no append
pub none_more : (place : ℕ) (records : List (List ℕ)) (log : LogValue) (d : Disk) (body : List ℕ) (c : Images) → LogStands place records log d → Crash d c → OneMoreAt place body c c
none_more place records log d body c stands crash =
    let here = log_settled place records log d c stands crash in
    record { others = λ other is_place out. refl; records = records; before = here; here = inl here }

-- a log with one record more
grown : (place : ℕ) (records : List (List ℕ)) (log after : LogValue) (d e : Disk) (body : List ℕ) → (stands : LogStands place records log d) → half_number body ≡ 0 → SameElsewhere log.device d e
    → EndsAtRest (e log.device) (stands.stands.bodies ++ body ∷ []) (log.end + 5 + length body) → after ≡ after_append log (length body) → LogStands place (records ++ body ∷ []) after e
grown place records log after d e body stands plain others ends is = subst (λ (l : LogValue). LogStands place (records ++ body ∷ []) l e) (sym is) (record {
  is_place = stands.is_place;
  half = stands.half;
  here = stands.here;
  stands = stands_after stands.half place log.device log.end records body d e stands.here plain stands.stands others ends;
  fresh = stands.fresh;
})

module _ {D : Type 0} (disk : D → Disk) (moment : D → ℕ) (left_since : D → ℕ → Images → Type 0) (old new : D) (d e : Disk) (log after : LogValue) (body : List ℕ) where
  kept_by : (done : Result (Unit {0}) RackError) (result : Result ℕ AppendError) (place : ℕ) (records : List (List ℕ)) → half_number body ≡ 0 → (stands : LogStands place records log d) → SameElsewhere log.device d e
      → OnOk done (EndsAtRest (e log.device) (stands.stands.bodies ++ body ∷ []) (log.end + 5 + length body)) → Noted log after (length body) done result → OnOk result (LogStands place (records ++ body ∷ []) after e)
  kept_by (Ok u) result place records plain stands others ends noted =
      subst (λ (r : Result ℕ AppendError). OnOk r (LogStands place (records ++ body ∷ []) after e)) (sym noted.0) (grown place records log after d e body stands plain others ends noted.1)
  kept_by (Err Fault) result place records plain stands others ends noted = subst (λ (r : Result ℕ AppendError). OnOk r (LogStands place (records ++ body ∷ []) after e)) (sym noted.0) tt

  -- what holds where the rack did all holds where that was answered
  noted_by : (P : Type 0) (done : Result (Unit {0}) RackError) (result : Result ℕ AppendError) → OnOk done P → Noted log after (length body) done result → OnOk result P
  noted_by P (Ok u) result fact noted = subst (λ (r : Result ℕ AppendError). OnOk r P) (sym noted.0) fact
  noted_by P (Err Fault) result fact noted = subst (λ (r : Result ℕ AppendError). OnOk r P) (sym noted.0) tt

  -- the same records until the gate is written, from the same bodies
  same_until : (from to : D) (place : ℕ) (records : List (List ℕ)) → (stands : LogStands place records log d)
      → Passes moment left_since from to (λ c. (b : Images) × Crash d b × SameBodiesAt log.device stands.stands.bodies log.end b c) → Passes moment left_since from to (λ c. (b : Images) × Crash d b × SameRecords b c)
  same_until from to place records stands passes =
      weaker moment left_since from to (λ c. (b : Images) × Crash d b × SameBodiesAt log.device stands.stands.bodies log.end b c) (λ c. (b : Images) × Crash d b × SameRecords b c) passes
      (λ c was. (was.0, was.1, same_bodies stands.half place log.device log.end records d was.0 c stands.is_place stands.here stands.stands was.1 was.2))

  until_gate : (done : Result (Unit {0}) RackError) (result : Result ℕ AppendError) (place : ℕ) (records : List (List ℕ)) → (stands : LogStands place records log d)
      → UntilGate disk moment left_since old new d log.device log.end body (λ c. (b : Images) × Crash d b × SameBodiesAt log.device stands.stands.bodies log.end b c) done → Noted log after (length body) done result
      → UntilGate disk moment left_since old new d log.device log.end body (λ c. (b : Images) × Crash d b × SameRecords b c) result
  until_gate done result place records stands (inl failed) noted = inl (noted_by ⊥ done result failed.0 noted, same_until old new place records stands failed.1)
  until_gate done result place records stands (inr framed) noted = inr (framed.0, framed.1, same_until old framed.0 place records stands framed.2)

  -- what an append does to the disk, from what it does to the bodies
  pub appended_log : (done : Result (Unit {0}) RackError) (result : Result ℕ AppendError) → BodyAppended disk moment left_since old new d e log.device log.end body done → log.end + 6 + length body ≤ log.limit → log.limit ≤ 2 ^ 40
      → Noted log after (length body) done result → Appended disk moment left_since old new d e log after body result
  appended_log done result call room limit noted = record {
    others = call.others;
    image = λ image rest. noted_by (e log.device ≡ at_rest (with_block image log.end body)) done result (call.image image rest) noted;
    kept = λ place records plain stands.
        kept_by done result place records plain stands call.others
        (call.kept stands.stands.image stands.stands.bodies (omega (arith, room, limit)) (rest_here stands.half place log.device log.end records d stands.here stands.stands) stands.stands.log) noted;
    moments = λ place records plain stands.
        weaker moment left_since old new (λ c. (b : Images) × Crash d b × OneBodyMoreAt log.device stands.stands.bodies body log.end b c) (λ c. (b : Images) × Crash d b × OneMoreAt place body b c)
        (call.moments stands.stands.image stands.stands.bodies (omega (arith, room, limit)) (rest_here stands.half place log.device log.end records d stands.here stands.stands) stands.stands.log)
        (λ c was. (was.0, was.1, one_more stands.half place log.device log.end records body d was.0 c stands.is_place stands.here plain stands.stands was.1 was.2));
    until = λ place records stands. until_gate done result place records stands
        (call.until stands.stands.image stands.stands.bodies (rest_here stands.half place log.device log.end records d stands.here stands.stands) stands.stands.log) noted;
  }

-- a refusal that leaves all as it was
pub refused_log : {D : Type 0} (disk : D → Disk) (moment : D → ℕ) (left_since : D → ℕ → Images → Type 0) (old : D) (d : Disk) (log : LogValue) (body : List ℕ) (error : AppendError)
    → ((c : Images) → left_since old (moment old) c → Crash d c) → Appended disk moment left_since old old d d log log body (Err error)
refused_log disk moment left_since old d log body error only_now = record {
  others = λ other out. refl;
  image = λ image rest. tt;
  kept = λ place records plain stands. tt;
  moments = λ place records plain stands.
      begins moment left_since old (λ c. (b : Images) × Crash d b × OneMoreAt place body b c)
      (λ c left. let crash = only_now c left in (c, crash, none_more place records log d body c stands crash));
  until = λ place records stands. inl (tt, begins moment left_since old (λ c. (b : Images) × Crash d b × SameRecords b c) (λ c left. let crash = only_now c left in (c, crash, λ k is_k. refl)));
}
