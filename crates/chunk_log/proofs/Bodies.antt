-- What a crash leaves of a log while a body is added.
use Rattle.std.proofs.Common.{◌≡◌, ◌≢◌, inl, inr, ℕ, ◌+◌, ◌^◌, ◌<◌, ◌≤◌, List, [], ◌∷◌, ◌++◌, length, get_or, take, drop, sym, ◌∙◌, ap, arith, length-drop}
use Rattle.std.specs.Prelude.{slice_index}
use Rattle.std.proofs.lemmas.Bool.{cases_eq}
use Rattle.std.proofs.lemmas.List.{take-take, get_or-take, get_or-drop, drop_more}
use Rattle.volume_disk.specs.Medium.{at_rest, written}
use Rattle.volume_disk.specs.Disk.{Disk, Images, Crash}
use Rattle.volume_disk.specs.Left.{OneWrite, OneWriteAt}
use Rattle.volume_disk.proofs.Rest.{crash_at_rest}
use Rattle.volume_disk.proofs.Within.{one_write_itself, take_written, drop_written}
use Rattle.volume_disk.proofs.Leads.{one_write_at}
use Rattle.site_forms.specs.Logs.{parse, IsLog, IsSameOrMore, framed}
use Rattle.site_forms.proofs.Logs.{agree, extend, next_gate, shut}
use Rattle.chunk_log.specs.Bodies.{OneBodyMoreAt, SameBodiesAt}

-- the same up to a place
same_front : (image c : List ℕ) (place : ℕ) → take (place + 1) c ≡ take (place + 1) image → take place c ≡ take place image
same_front image c place front = sym (take-take place (place + 1) c (omega arith)) ∙ ap (λ (l : List ℕ). take place l) front ∙ take-take place (place + 1) image (omega arith)

same_gate : (image c : List ℕ) (place : ℕ) → take (place + 1) c ≡ take (place + 1) image → get_or c place 0 ≡ get_or image place 0
same_gate image c place front = sym (get_or-take (place + 1) c place 0 (omega arith)) ∙ ap (λ (l : List ℕ). get_or l place 0) front ∙ get_or-take (place + 1) image place 0 (omega arith)

-- behind the gate anything may stand
pub behind_gate : (image c frame : List ℕ) (bodies : List (List ℕ)) (place : ℕ) → IsLog image bodies place → OneWrite image (place + 1) frame c → IsLog c bodies place
behind_gate image c frame bodies place log one =
    let gate : place < length c = omega (arith, log.gate, one.no_shorter) in
    let closed : slice_index c place ≢ 1 = λ is_open. log.closed (sym (same_gate image c place one.front) ∙ is_open) in
    record {
      good = agree image c bodies place log.good gate (same_front image c place one.front) closed;
      gate = gate;
      closed = closed;
    }

-- at the gate any byte may stand
pub at_gate : (image c body junk : List ℕ) (bodies : List (List ℕ)) (place : ℕ) → IsLog image bodies place → drop (place + 1) image ≡ framed body ++ junk
    → 1 ≤ length body → length body ≤ 2 ^ 24 → place + 6 + length body ≤ 2 ^ 40 → OneWrite image place (1 ∷ []) c → IsSameOrMore bodies body place c
at_gate image c body junk bodies place log behind some most room one =
    let gate : place < length c = omega (arith, log.gate, one.no_shorter) in
    elim (cases_eq (get_or c place 0) 1) as (λ _. IsSameOrMore bodies body place c) [
      | inr closed ↦ inl (agree image c bodies place log.good gate one.front closed)
      | inl is_open ↦
          let rest : drop place c ≡ 1 ∷ (framed body ++ junk) = drop_more c place 0 gate ∙ ap (λ (x : ℕ). x ∷ drop (place + 1) c) is_open ∙ ap (λ (l : List ℕ). 1 ∷ l) (one.back ∙ behind) in
          inr (extend image c bodies place body junk log.good one.front rest some most room)
    ]

-- what stands behind the gate once the frame is written
pub framed_behind : (image frame body : List ℕ) (place : ℕ) → place < length image → frame ≡ framed body → drop (place + 1) (written image (place + 1) frame) ≡ framed body ++ drop (place + 1 + length frame) image
framed_behind image frame body place gate is_frame =
    drop_written image (place + 1) frame (omega (arith, gate)) ∙ ap (λ (l : List ℕ). l ++ drop (place + 1 + length frame) image) is_frame

-- once the frame is written the log is as it was
pub framed_log : (image frame : List ℕ) (bodies : List (List ℕ)) (place : ℕ) → IsLog image bodies place → IsLog (written image (place + 1) frame) bodies place
framed_log image frame bodies place log = behind_gate image (written image (place + 1) frame) frame bodies place log (one_write_itself image (place + 1) frame (omega (arith, log.gate)))

-- a log once its gate is open
pub appended : (image body junk : List ℕ) (bodies : List (List ℕ)) (place : ℕ) → IsLog image bodies place → drop (place + 1) image ≡ framed body ++ junk
    → 1 ≤ length body → length body ≤ 2 ^ 24 → place + 6 + length body ≤ 2 ^ 40 → IsLog (written image place (1 ∷ [])) (bodies ++ body ∷ []) (place + 5 + length body)
appended image body junk bodies place log behind some most room =
    let inside : place ≤ length image = omega (arith, log.gate) in
    let rest : drop place (written image place (1 ∷ [])) ≡ 1 ∷ (framed body ++ junk) = drop_written image place (1 ∷ []) inside ∙ ap (λ (l : List ℕ). 1 ∷ l) behind in
    let next = next_gate (written image place (1 ∷ [])) body junk place rest in
    record {
      good = extend image (written image place (1 ∷ [])) bodies place body junk log.good (take_written image place (1 ∷ []) inside) rest some most room;
      gate = omega (arith, ap length next, length-drop (place + 5 + length body) (written image place (1 ∷ [])));
      closed = shut _ (ap (λ (i : ℕ). get_or (written image place (1 ∷ [])) i 0) (omega arith) ∙ sym (get_or-drop (place + 5 + length body) (written image place (1 ∷ [])) 0 0) ∙ ap (λ (l : List ℕ). get_or l 0 0) next);
    }

-- while the frame is put down the log is as it was
pub frame_keeps : (dev place : ℕ) (image frame : List ℕ) (bodies : List (List ℕ)) (d : Disk) (b c : Images) → dev ≤ 5 → d dev ≡ at_rest image → IsLog image bodies place → Crash d b
    → OneWriteAt dev (place + 1) frame b c → SameBodiesAt dev bodies place b c
frame_keeps dev place image frame bodies d b c is_device rest log crash one = record {
  elsewhere = one.elsewhere;
  before = ap parse (crash_at_rest dev image d b is_device rest crash) ∙ log.good;
  here = (behind_gate image (c dev) frame bodies place log (one_write_at dev (place + 1) frame image d b c is_device rest crash one)).good;
}

pub frame_leads : (dev place : ℕ) (image frame body : List ℕ) (bodies : List (List ℕ)) (d : Disk) (b c : Images) → dev ≤ 5 → d dev ≡ at_rest image → IsLog image bodies place → Crash d b
    → OneWriteAt dev (place + 1) frame b c → OneBodyMoreAt dev bodies body place b c
frame_leads dev place image frame body bodies d b c is_device rest log crash one =
    let same = frame_keeps dev place image frame bodies d b c is_device rest log crash one in
    record { elsewhere = same.elsewhere; before = same.before; here = inl same.here }

-- while the gate is put down there is one more body or none
pub gate_leads : (dev place : ℕ) (image body junk : List ℕ) (bodies : List (List ℕ)) (d : Disk) (b mid c : Images) → dev ≤ 5 → d dev ≡ at_rest image → IsLog image bodies place → drop (place + 1) image ≡ framed body ++ junk
    → 1 ≤ length body → length body ≤ 2 ^ 24 → place + 6 + length body ≤ 2 ^ 40 → Crash d mid → OneBodyMoreAt dev bodies body place b mid → OneWriteAt dev place (1 ∷ []) mid c → OneBodyMoreAt dev bodies body place b c
gate_leads dev place image body junk bodies d b mid c is_device rest log behind some most room crash was one = record {
  elsewhere = λ k out. one.elsewhere k out ∙ was.elsewhere k out;
  before = was.before;
  here = at_gate image (c dev) body junk bodies place log behind some most room (one_write_at dev place (1 ∷ []) image d mid c is_device rest crash one);
}
