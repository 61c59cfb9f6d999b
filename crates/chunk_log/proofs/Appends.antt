-- Runs of appends: what a crash leaves after some of them.
use Rattle.std.proofs.Common.{◌≡◌, ◌≢◌, inl, inr, ⊎_elim, ℕ, suc, ◌+◌, ◌≤◌, List, [], ◌∷◌, ◌++◌, length, take, Bool, Option, Some, None, refl, sym, length-append, ◌∙◌, ap, subst, arith, eq-eqb, ne_eqb}
use Rattle.std.specs.Prelude.{Result, OnOk, if◌then◌else◌}
use Rattle.std.proofs.lemmas.List.{length-take}
use Rattle.std.proofs.lemmas.Result.{on_ok_weaker}
use Rattle.std.proofs.lemmas.Bool.{cases_eq}
use Rattle.volume_disk.specs.Disk.{Disk, Images, Crash, SameElsewhere}
use Rattle.volume_disk.specs.Time.{Passes}
use Rattle.volume_disk.proofs.Moments.{begins, follows_on}
use Rattle.site_forms.specs.Halves.{Half, device, half_number, records_at, OneMoreAt}
use Rattle.site_forms.specs.Halves.Half.{First, Second}
use Rattle.chunk_log.specs.declared.errors.AppendError.{AppendError}
use Rattle.chunk_log.specs.LogValues.{LogValue}
use Rattle.chunk_log.specs.Standing.{LogStands}
use Rattle.chunk_log.specs.Appending.{Appended}
use Rattle.chunk_log.specs.Runs.{added, after_all, with_log, Holds, HoldsPart, AllStand}
use Rattle.chunk_log.proofs.Standing.{still_stands}
use Rattle.chunk_log.proofs.Appended.{log_settled}

-- one append more at the end of a plan
after_snoc : (plan : List (ℕ × List ℕ)) (place : ℕ) (body : List ℕ) (records : ℕ → List (List ℕ)) → after_all (plan ++ (place, body) ∷ []) records ≡ added place body (after_all plan records)
after_snoc [] place body records = refl
after_snoc (next ∷ plan) place body records = after_snoc plan place body (added next.0 next.1 records)

pub added_here : (place p : ℕ) (body : List ℕ) (records : ℕ → List (List ℕ)) → p ≡ place → added place body records p ≡ records p ++ body ∷ []
added_here place p body records here = ap (λ (b : Bool). if b then records p ++ body ∷ [] else records p) (eq-eqb p place here)

pub added_elsewhere : (place p : ℕ) (body : List ℕ) (records : ℕ → List (List ℕ)) → p ≢ place → added place body records p ≡ records p
added_elsewhere place p body records apart = ap (λ (b : Bool). if b then records p ++ body ∷ [] else records p) (ne_eqb p place apart)

log_here : (place p : ℕ) (log : LogValue) (logs : ℕ → LogValue) → p ≡ place → with_log place log logs p ≡ log
log_here place p log logs here = ap (λ (b : Bool). if b then log else logs p) (eq-eqb p place here)

log_elsewhere : (place p : ℕ) (log : LogValue) (logs : ℕ → LogValue) → p ≢ place → with_log place log logs p ≡ logs p
log_elsewhere place p log logs apart = ap (λ (b : Bool). if b then log else logs p) (ne_eqb p place apart)

-- whatever a crash leaves where all stand, the records are these
pub all_settled : (logs : ℕ → LogValue) (records : ℕ → List (List ℕ)) (d : Disk) (c : Images) → AllStand logs records d → Crash d c → Holds records c
all_settled logs records d c all crash = λ place is_place. log_settled place (records place) (logs place) d c (all place is_place) crash

apart_from : (half : Half) (place other dev : ℕ) → place ≤ 2 → other ≤ 2 → other ≢ place → dev ≡ device place half → (other ≢ dev) × (other + 3 ≢ dev)
apart_from First place other dev is_place is_other apart is = (λ same. apart (same ∙ is), λ same. omega (arith, same, is, is_place))
apart_from Second place other dev is_place is_other apart is = (λ same. omega (arith, same, is, is_other), λ same. apart (omega (arith, same, is)))

-- a call on the device of another place's log keeps a log standing
pub stands_beside : (place other : ℕ) (log beside : LogValue) (records others : List (List ℕ)) (d e : Disk) → other ≢ place → LogStands place records log d → LogStands other others beside d → SameElsewhere log.device d e → LogStands other others beside e
stands_beside place other log beside records others d e apart stands standing same =
    let free = apart_from stands.half place other log.device stands.is_place standing.is_place apart stands.here in
    record {
      is_place = standing.is_place;
      half = standing.half;
      here = standing.here;
      stands = still_stands standing.half other log.device beside.end others d e free.0 free.1 same standing.stands;
      fresh = standing.fresh;
    }

-- after an append all stand
all_after : (logs : ℕ → LogValue) (records : ℕ → List (List ℕ)) (d e : Disk) (place : ℕ) (after : LogValue) (body : List ℕ) → place ≤ 2
    → SameElsewhere (logs place).device d e → AllStand logs records d → LogStands place (records place ++ body ∷ []) after e → AllStand (with_log place after logs) (added place body records) e
all_after logs records d e place after body is_place others all stands = λ p is_p.
    elim (cases_eq p place) as (λ _. LogStands p (added place body records p) (with_log place after logs p) e) [
      | inl here ↦
          subst (λ (n : ℕ). LogStands n (added place body records n) (with_log place after logs n) e) (sym here)
          (subst (λ (l : List (List ℕ)). LogStands place l (with_log place after logs place) e) (sym (added_here place place body records refl))
          (subst (λ (l : LogValue). LogStands place (records place ++ body ∷ []) l e) (sym (log_here place place after logs refl)) stands))
      | inr apart ↦
          subst (λ (l : List (List ℕ)). LogStands p l (with_log place after logs p) e) (sym (added_elsewhere place p body records apart))
          (subst (λ (l : LogValue). LogStands p (records p) l e) (sym (log_elsewhere place p after logs apart))
          (stands_beside place p (logs place) (logs p) (records place) (records p) d e apart (all place is_place) (all p is_p) others))
    ]

abbrev pub in_some : Option (List (List ℕ)) → List (List ℕ)
in_some None = []
in_some (Some l) = l

-- where the first i appends are done, one more or none is one of the parts
part_on : (plan : List (ℕ × List ℕ)) (records : ℕ → List (List ℕ)) (i place : ℕ) (body : List ℕ) (b x : Images) → suc i ≤ length plan → take (suc i) plan ≡ take i plan ++ (place, body) ∷ [] → place ≤ 2
    → Holds (after_all (take i plan) records) b → OneMoreAt place body b x → HoldsPart plan records x
part_on plan records i place body b x within next is_place holds more = ⊎_elim
    (λ same. (
      i,
      omega (arith, within),
      λ p is_p. elim (cases_eq p place) as (λ _. records_at x p ≡ Some (after_all (take i plan) records p)) [
        | inl here ↦ ap (λ (n : ℕ). records_at x n) here ∙ same ∙ sym more.before ∙ ap (λ (n : ℕ). records_at b n) (sym here) ∙ holds p is_p
        | inr apart ↦ more.others p is_p apart ∙ holds p is_p
      ],
    ))
    (λ one. (
      suc i,
      within,
      λ p is_p.
          let after_it : after_all (take (suc i) plan) records p ≡ added place body (after_all (take i plan) records) p =
          ap (λ (l : List (ℕ × List ℕ)). after_all l records p) next ∙ ap (λ (f : ℕ → List (List ℕ)). f p) (after_snoc (take i plan) place body records) in
          elim (cases_eq p place) as (λ _. records_at x p ≡ Some (after_all (take (suc i) plan) records p)) [
            | inl here ↦
                let was : more.records ≡ after_all (take i plan) records p = ap in_some (sym more.before ∙ ap (λ (n : ℕ). records_at b n) (sym here) ∙ holds p is_p) in
                ap (λ (n : ℕ). records_at x n) here ∙ one ∙ ap (λ (l : List (List ℕ)). Some (l ++ body ∷ [])) was ∙ ap (λ (l : List (List ℕ)). Some l) (sym (added_here place p body (after_all (take i plan) records) here) ∙ sym after_it)
            | inr apart ↦
                more.others p is_p apart ∙ holds p is_p ∙ ap (λ (l : List (List ℕ)). Some l) (sym (added_elsewhere place p body (after_all (take i plan) records) apart) ∙ sym after_it)
          ],
    ))
    more.here

-- a plan that goes on with an append is longer
longer : (plan : List (ℕ × List ℕ)) (i place : ℕ) (body : List ℕ) → take (suc i) plan ≡ take i plan ++ (place, body) ∷ [] → suc i ≤ length plan
longer plan i place body next = omega (arith, ap length next, length-append (take i plan) ((place, body) ∷ []), length-take (suc i) plan, length-take i plan)

module _ {D : Type 0} (moment : D → ℕ) (left_since : D → ℕ → Images → Type 0) (old : D) (plan : List (ℕ × List ℕ)) (records : ℕ → List (List ℕ)) where
  -- over the calls so far a crash left the records after some of the plan's appends, and now all places stand with
  -- those of the first i
  pub record SoFar (now : D) (d : Disk) (i : ℕ) (logs : ℕ → LogValue) : Type 0 where
    pub passes : Passes moment left_since old now (HoldsPart plan records)
    pub stand : AllStand logs (after_all (take i plan) records) d

  -- before the first append
  pub run_begins : (d : Disk) (logs : ℕ → LogValue) → ((c : Images) → left_since old (moment old) c → Crash d c) → AllStand logs records d → SoFar old d 0 logs
  run_begins d logs only_now all = record {
    passes = begins moment left_since old (HoldsPart plan records) (λ c left. (0, omega arith, all_settled logs records d c all (only_now c left)));
    stand = all;
  }

  -- RUN OF APPENDS: over the append that comes next a crash leaves the records after some of the plan's appends; and
  -- once it is done all places stand with one more
  pub run_next : {disk : D → Disk} {mid new : D} {d e : Disk} {i : ℕ} {logs : ℕ → LogValue} {log after : LogValue} {body : List ℕ} {result : Result ℕ AppendError} (place : ℕ) → take (suc i) plan ≡ take i plan ++ (place, body) ∷ [] → place ≤ 2
      → half_number body ≡ 0 → logs place ≡ log → SoFar mid d i logs → Appended disk moment left_since mid new d e log after body result → Passes moment left_since old new (HoldsPart plan records)
  run_next {mid = mid} {new = new} {d = d} {i = i} {logs = logs} {body = body} place next is_place plain is so_far call =
      let done = after_all (take i plan) records in
      follows_on moment left_since old mid new (HoldsPart plan records) (λ x. (b : Images) × Crash d b × OneMoreAt place body b x) so_far.passes
      (call.moments place (done place) plain (subst (λ (l : LogValue). LogStands place (done place) l d) is (so_far.stand place is_place)))
      (λ x was. part_on plan records i place body was.0 x (longer plan i place body next) next is_place (all_settled logs done d was.0 so_far.stand was.1) was.2)

  pub run_ok : {disk : D → Disk} {mid new : D} {d e : Disk} {i : ℕ} {logs : ℕ → LogValue} {log after : LogValue} {body : List ℕ} {result : Result ℕ AppendError} (place : ℕ) → take (suc i) plan ≡ take i plan ++ (place, body) ∷ [] → place ≤ 2
      → half_number body ≡ 0 → logs place ≡ log → SoFar mid d i logs → Appended disk moment left_since mid new d e log after body result → OnOk result (SoFar new e (suc i) (with_log place after logs))
  run_ok {d = d} {e = e} {i = i} {logs = logs} {after = after} {body = body} {result = result} place next is_place plain is so_far call =
      let done = after_all (take i plan) records in
      on_ok_weaker result
      (λ stands. record {
        passes = run_next place next is_place plain is so_far call;
        stand = subst (λ (r : ℕ → List (List ℕ)). AllStand (with_log place after logs) r e) (sym (ap (λ (l : List (ℕ × List ℕ)). after_all l records) next ∙ after_snoc (take i plan) place body records))
            (all_after logs done d e place after body is_place (subst (λ (l : LogValue). SameElsewhere l.device d e) (sym is) call.others) so_far.stand stands);
      })
      (call.kept place (done place) plain (subst (λ (l : LogValue). LogStands place (done place) l d) is (so_far.stand place is_place)))
