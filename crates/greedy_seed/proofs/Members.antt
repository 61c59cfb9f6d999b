-- What turns and rounds keep: the pins, and the range.
use Rattle.std.specs.Prelude.{MatchOption, Option, Some, None, IfSome}
use Rattle.std.proofs.Common.{◌≡◌, ◌∙◌, ℕ, zero, suc, ◌≤◌, List, Bool, true, false, not, length, refl, sym, subst, arith, inl, inr}
use Rattle.std.proofs.lemmas.Bool.{cases_eq, and_parts, not-true}
use Rattle.std.proofs.lemmas.List.{length-set}
use Rattle.seed_model.specs.declared.node.Node.{Node}
use Rattle.seed_model.specs.declared.range.Range.{Range}
use Rattle.seed_model.specs.Files.{holds}
use Rattle.seed_model.specs.Nodes.{IsNode, IsMember}
use Rattle.seed_model.specs.Tables.{TableValue}
use Rattle.greedy_seed.specs.Admitted.{IsChoice, FoundIsAdmitted}
use Rattle.greedy_seed.specs.Greedy.{MayAdd, MayFlip, Turns, Rounds, Finds, FindsNone, added, flipped, migrates}
use Rattle.greedy_seed.proofs.Flags.{added_same, added_other, flipped_other}

-- a set that turns come to
pub record IsReached (table : TableValue) (range : Range) (pins : Node) (flags : List Bool) : Type 0 where
  pub files : length flags ≡ table.files
  pub member : IsMember table.files pins (holds flags)
  pub no_more : migrates table flags ≤ range.high

never : {b : Bool} → b ≡ true → b ≡ false → ⊥
never t f = cc

added_member : (table : TableValue) (range : Range) (pins : Node) (flags : List Bool) (file : ℕ) → IsReached table range pins flags → MayAdd table range pins flags file
    → IsMember table.files pins (holds (added flags file))
added_member table range pins flags file r may = record {
  has = λ other lt inside. elim (cases_eq other file) [
    | inl e ↦ rw e (added_same flags file (omega (arith, may.within, r.files)))
    | inr apart ↦ rw (added_other flags file other apart) (r.member.has other lt inside)
  ];
  lacks = λ other lt outside. elim (cases_eq other file) [
    | inl e ↦ absurd (never outside (rw e may.free))
    | inr apart ↦ added_other flags file other apart ∙ r.member.lacks other lt outside
  ];
}

pub turns_reach : (table : TableValue) (range : Range) (pins : Node) (turns : ℕ) (from to : List Bool) → IsReached table range pins from → Turns table range pins turns from to
    → IsReached table range pins to
turns_reach table range pins zero from to r led = let P : List Bool → Type 0 = λ t. IsReached table range pins t in subst P (sym led) r
turns_reach table range pins (suc turns) from to r led =
    let before = led.0 in
    let h = turns_reach table range pins turns from before r led.1 in
    let file = led.3.0 in
    let may = led.3.1.may in
    let P : List Bool → Type 0 = λ t. IsReached table range pins t in
    let next : IsReached table range pins (added before file) = record {
      files = length-set before file true ∙ h.files;
      member = added_member table range pins before file h may;
      no_more = may.no_more;
    } in
    subst P (sym led.3.2) next

flipped_member : (table : TableValue) (range : Range) (pins : Node) (flags : List Bool) (file : ℕ) → IsMember table.files pins (holds flags) → MayFlip table range pins flags file
    → IsMember table.files pins (holds (flipped flags file))
flipped_member table range pins flags file m may =
    let parts = and_parts (not (holds pins.inside file)) (not (holds pins.outside file)) may.free in
    let not_in = not-true (holds pins.inside file) parts.0 in
    let not_out = not-true (holds pins.outside file) parts.1 in
    record {
      has = λ other lt inside. elim (cases_eq other file) [
        | inl e ↦ absurd (never inside (rw e not_in))
        | inr apart ↦ rw (flipped_other flags file other apart) (m.has other lt inside)
      ];
      lacks = λ other lt outside. elim (cases_eq other file) [
        | inl e ↦ absurd (never outside (rw e not_out))
        | inr apart ↦ flipped_other flags file other apart ∙ m.lacks other lt outside
      ];
    }

pub rounds_reach : (table : TableValue) (range : Range) (pins : Node) (rounds : ℕ) (from to : List Bool) → IsChoice table range pins from → Rounds table range pins rounds from to
    → IsChoice table range pins to
rounds_reach table range pins zero from to c led = let P : List Bool → Type 0 = λ t. IsChoice table range pins t in subst P (sym led) c
rounds_reach table range pins (suc rounds) from to c led =
    let before = led.0 in
    let h = rounds_reach table range pins rounds from before c led.1 in
    let file = led.2.0 in
    let may = led.2.1.may in
    let P : List Bool → Type 0 = λ t. IsChoice table range pins t in
    let next : IsChoice table range pins (flipped before file) = record {
      files = length-set before file (not (holds before file)) ∙ h.files;
      admitted = record { member = flipped_member table range pins before file h.admitted.member may; in_range = may.in_range };
    } in
    subst P (sym led.2.2) next

-- the set begins as the files that are bound to go
pub begun : (table : TableValue) (range : Range) (pins : Node) → IsNode table.files pins → migrates table pins.inside ≤ range.high → IsReached table range pins pins.inside
begun table range pins n no_more = record {
  files = n.inside;
  member = record { has = λ file lt inside. inside; lacks = λ file lt outside. apart (holds pins.inside file) (holds pins.outside file) (n.apart file lt) outside };
  no_more = no_more;
}
  where
    apart : (b c : Bool) → (b ≡ true → c ≡ false) → c ≡ true → b ≡ false
    apart true c h e = absurd (never e (h refl))
    apart false c h e = refl

pub found_choice : (table : TableValue) (range : Range) (pins : Node) (flags : List Bool) (turns rounds : ℕ) → IsNode table.files pins → Finds table range pins flags turns rounds
    → IsChoice table range pins flags
found_choice table range pins flags turns rounds n f =
    let r = turns_reach table range pins turns pins.inside f.reached (begun table range pins n f.begun) f.added_to in
    rounds_reach table range pins rounds f.reached flags
    (record { files = r.files; admitted = record { member = r.member; in_range = record { enough = f.enough; no_more = r.no_more } } }) f.flipped_to

chosen : (table : TableValue) (range : Range) (pins : Node) (found : Option (List Bool)) (turns rounds : ℕ) → IsNode table.files pins
    → MatchOption found (FindsNone table range pins turns × (rounds ≡ 0)) (λ flags. Finds table range pins flags turns rounds) → IfSome found (IsChoice table range pins)
chosen table range pins None turns rounds n g = tt
chosen table range pins (Some flags) turns rounds n g = found_choice table range pins flags turns rounds n g

pub found_is_admitted : FoundIsAdmitted
found_is_admitted table range pins tried t n g = chosen table range pins tried.set tried.turns tried.rounds n g
