use Rattle.std.proofs.Common.{inl, inr, ◌⊎◌, ◌≡◌, ◌≢◌, refl, ℕ, ◌+◌, ◌≤◌, ◌<◌, Bool, true, false, cond, not, List, length, get_or, set, sym, ◌∙◌, ap, subst, arith}
use mathlib.Core.Bool.{beq}
use Rattle.std.specs.Prelude.{count_by}
use Rattle.std.proofs.lemmas.List.{get_or_default, get_or-set_other, get_or-set_same}
use Rattle.std.proofs.lemmas.List.Sums.{sum_by-set, get_or-le-sum_by}
use Rattle.std.proofs.lemmas.Bool.{cases_eq, cases_lt, lt-ltb, le-ltb}
use Rattle.flow_net.specs.declared.pipes.Pipe.{Pipe}
use Rattle.flow_net.specs.declared.links.Link.{Link}
use Rattle.flow_net.specs.Paths.{use_of, left_on}
use Rattle.flow_net.specs.Links.{link_at}
use Rattle.flow_net.specs.Levels.{turned, LeadsFar, IsNext, Spreads, unreached, level_of, IsReached, is_unreached, IsQueue}

one_unreached : (x : ℕ) → unreached ≤ x → ◌≡◌ {A = ℕ} (cond (is_unreached x) 1 0) 1
one_unreached x h = ap (λ b. cond {A = ℕ} (not b) 1 0) (le-ltb x unreached h)

none_unreached : (x : ℕ) → x < unreached → ◌≡◌ {A = ℕ} (cond (is_unreached x) 1 0) 0
none_unreached x h = ap (λ b. cond {A = ℕ} (not b) 1 0) (lt-ltb x unreached h)

-- a node that is reached joins the queue
pub queue_marked :
    (n : ℕ) (levels queue : List ℕ) (count far level : ℕ) → length levels ≡ n → length queue ≡ n → n < unreached → far < n →
    level_of levels far ≡ unreached → level ≤ count → IsQueue n levels queue count →
    IsQueue n (set levels far level) (set queue count far) (count + 1)
queue_marked n levels queue count far level sized each few known new low is =
    let some : 1 ≤ count_by is_unreached levels =
    omega (
      arith,
      get_or-le-sum_by (λ (x : ℕ). cond {A = ℕ} (is_unreached x) 1 0) levels far unreached (omega (arith, sized, known)),
      one_unreached (get_or levels far unreached) (omega (arith, new)),
    ) in
    let room : count < length queue = omega (arith, is.counted, some, each) in
    let reached_now : level < unreached = omega (arith, is.counted, low, few) in
    let mine : get_or (set levels far level) far unreached ≡ level = get_or-set_same levels far level unreached (omega (arith, sized, known)) in
    let here : get_or (set queue count far) count 0 ≡ far = get_or-set_same queue count far 0 room in
    let others : (v : ℕ) → v ≢ far → get_or (set levels far level) v unreached ≡ get_or levels v unreached =
    λ v differ. get_or-set_other levels far v level unreached differ in
    record {
      counted =
          omega (
            arith,
            sum_by-set (λ (x : ℕ). cond {A = ℕ} (is_unreached x) 1 0) levels far level unreached (omega (arith, sized, known)),
            one_unreached (get_or levels far unreached) (omega (arith, new)),
            none_unreached level reached_now,
            is.counted,
          );
      queued =
          λ j h.
          elim (cases_lt j count) [
            | inl old ↦
                let same : get_or (set queue count far) j 0 ≡ get_or queue j 0 = get_or-set_other queue count j far 0 (omega arith) in
                let was = is.queued j old in
                let differ : get_or queue j 0 ≢ far =
                λ e. let l : get_or levels far unreached ≤ j = subst (λ v. get_or levels v unreached ≤ j) e was.1 in omega (arith, l, new, is.counted, few, old) in (
                  subst (λ v. v < n) (sym same) was.0,
                  subst (λ v. get_or (set levels far level) v unreached ≤ j) (sym same)
                      (subst (λ x. x ≤ j) (sym (others (get_or queue j 0) differ)) was.1),
                )
            | inr now ↦
                let last : count ≡ j = omega arith in
                subst (λ k. (get_or (set queue count far) k 0 < n) × (get_or (set levels far level) (get_or (set queue count far) k 0) unreached ≤ k)) last (
                  subst (λ v. v < n) (sym here) known,
                  subst (λ v. get_or (set levels far level) v unreached ≤ count) (sym here) (subst (λ x. x ≤ count) (sym mine) low),
                )
          ];
      listed =
          λ v h.
          elim (cases_eq v far) [
            | inl same ↦ (count, omega arith, here ∙ sym same)
            | inr differ ↦
                let was = is.listed v (subst (λ x. x < unreached) (others v differ) h) in
                (was.0, omega (arith, was.1), get_or-set_other queue count was.0 far 0 (let l = was.1 in omega (arith, l)) ∙ was.2)
          ];
    }

-- and is reached from then on
pub marked_reached :
    (n : ℕ) (levels queue : List ℕ) (count far level : ℕ) → length levels ≡ n → n < unreached → far < n → level ≤ count →
    IsQueue n levels queue count → IsReached (set levels far level) far
marked_reached n levels queue count far level sized few known low is =
    let mine : get_or (set levels far level) far unreached ≡ level = get_or-set_same levels far level unreached (omega (arith, sized, known)) in
    omega (arith, mine, is.counted, low, few)

-- that is what the link leads to, and nothing else changed
pub spreads_marked :
    (ps : List Pipe) (xs : List ℕ) (power : ℕ) (backward : Bool) (link : Link) (level : ℕ) (levels queue : List ℕ) (count : ℕ) →
    link.far < length levels → level_of levels link.far ≡ unreached → LeadsFar ps xs power backward link →
    Spreads (λ v. (link.far ≡ v) × LeadsFar ps xs power backward link) level levels (set levels link.far (level + 1)) queue
    (set queue count link.far) count (count + 1)
spreads_marked ps xs power backward link level levels queue count known new leads =
    let others : (v : ℕ) → v ≢ link.far → get_or (set levels link.far (level + 1)) v unreached ≡ get_or levels v unreached =
    λ v differ. get_or-set_other levels link.far v (level + 1) unreached differ in
    record {
      kept =
          λ v h.
          others v (λ e. let at : get_or levels v unreached ≡ unreached = ap (λ (u : ℕ). get_or levels u unreached) e ∙ new in omega (arith, at, h));
      near =
          λ v h.
          elim (cases_eq v link.far) as (λ _. IsReached levels v ⊎ (((link.far ≡ v) × LeadsFar ps xs power backward link) × (level_of (set levels link.far (level + 1)) v ≡ level + 1))) [
            | inl same ↦
                inr (
                  (sym same, leads),
                  ap (λ (u : ℕ). get_or (set levels link.far (level + 1)) u unreached) same ∙ get_or-set_same levels link.far (level + 1) unreached known,
                )
            | inr differ ↦ inl (subst (λ x. x < unreached) (others v differ) h)
          ];
      grows = omega arith;
      queue = λ j h. get_or-set_other queue count j link.far 0 (omega (arith, h));
    }

-- no node is reached newly
pub spreads_none : (able : ℕ → Type 0) (level : ℕ) (levels queue : List ℕ) (count : ℕ) → Spreads able level levels levels queue queue count count
spreads_none able level levels queue count =
    record {
      kept = λ v h. refl;
      near = λ v h. inl h;
      grows = omega arith;
      queue = λ j h. refl;
    }

-- whether a use back, looked at one way or the other, is turned
turned_is : (back backward : Bool) → not (beq back backward) ≡ turned backward back
turned_is true true = refl
turned_is true false = refl
turned_is false true = refl
turned_is false false = refl

-- what is left on the use across a link
left_across :
    (ps : List Pipe) (xs : List ℕ) (backward : Bool) (link : Link) (left : ℕ) →
    left ≡ left_on ps xs (use_of link.pipe (not (beq link.back backward))) → left ≡ left_on ps xs (use_of link.pipe (turned backward link.back))
left_across ps xs backward link left is = is ∙ ap (λ b. left_on ps xs (use_of link.pipe b)) (turned_is link.back backward)

-- a use across the link that has so much left leads on
pub leads_on :
    (ps : List Pipe) (xs : List ℕ) (power : ℕ) (backward : Bool) (link : Link) (left : ℕ) →
    left ≡ left_on ps xs (use_of link.pipe (not (beq link.back backward))) → power ≤ left → LeadsFar ps xs power backward link
leads_on ps xs power backward link left is enough = omega (arith, left_across ps xs backward link left is, enough)

-- a link that leads on has so much left
pub leads_within :
    (ps : List Pipe) (xs : List ℕ) (power : ℕ) (backward : Bool) (link : Link) (left : ℕ) →
    left ≡ left_on ps xs (use_of link.pipe (not (beq link.back backward))) → LeadsFar ps xs power backward link → power ≤ left
leads_within ps xs power backward link left is leads = omega (arith, left_across ps xs backward link left is, leads)

-- what was reached stays reached
pub reached_kept :
    (levels_old levels_new : List ℕ) (v : ℕ) → level_of levels_new v ≡ level_of levels_old v → IsReached levels_old v → IsReached levels_new v
reached_kept levels_old levels_new v same h = subst (λ x. x < unreached) (sym same) h

-- one link more
pub spreads_more :
    (ps : List Pipe) (xs : List ℕ) (power : ℕ) (backward : Bool) (row : List Link) (i level : ℕ) (l0 l1 l2 q0 q1 q2 : List ℕ) (c0 c1 c2 : ℕ) →
    Spreads (IsNext ps xs power backward row i) level l0 l1 q0 q1 c0 c1 →
    Spreads (λ v. ((link_at row i).far ≡ v) × LeadsFar ps xs power backward (link_at row i)) level l1 l2 q1 q2 c1 c2 →
    Spreads (IsNext ps xs power backward row (i + 1)) level l0 l2 q0 q2 c0 c2
spreads_more ps xs power backward row i level l0 l1 l2 q0 q1 q2 c0 c1 c2 one two =
    record {
      kept = λ v h. two.kept v (reached_kept l0 l1 v (one.kept v h) h) ∙ one.kept v h;
      near =
          λ v h.
          elim (two.near v h) as (λ _. IsReached l0 v ⊎ (IsNext ps xs power backward row (i + 1) v × (level_of l2 v ≡ level + 1))) [
            | inl before ↦
                elim (one.near v before) as (λ _. IsReached l0 v ⊎ (IsNext ps xs power backward row (i + 1) v × (level_of l2 v ≡ level + 1))) [
                  | inl first ↦ inl first
                  | inr able ↦ inr ((able.0.0, omega (arith, able.0.1), able.0.2, able.0.3), two.kept v before ∙ able.1)
                ]
            | inr able ↦ inr ((i, omega arith, able.0.0, able.0.1), able.1)
          ];
      grows = omega (arith, one.grows, two.grows);
      queue = λ j h. two.queue j (let g = one.grows in omega (arith, g, h)) ∙ one.queue j h;
    }

-- a link was crossed: its far node was reached newly, at one level above, where it is new and the link leads on, and
-- nothing else changed
pub record IsCrossed (n : ℕ) (ps : List Pipe) (xs : List ℕ) (power : ℕ) (backward : Bool) (link : Link) (level : ℕ) (l0 l1 q0 q1 : List ℕ) (c0 c1 : ℕ) : Type 0 where
  pub queue : IsQueue n l1 q1 c1
  pub spreads : Spreads (λ v. (link.far ≡ v) × LeadsFar ps xs power backward link) level l0 l1 q0 q1 c0 c1
  pub crossed : LeadsFar ps xs power backward link → IsReached l1 link.far

pub crossed_new :
    (n : ℕ) (ps : List Pipe) (xs : List ℕ) (power : ℕ) (backward : Bool) (link : Link) (level : ℕ) (levels queue : List ℕ) (count : ℕ) →
    length levels ≡ n → length queue ≡ n → n < unreached → link.far < n → level + 1 ≤ count → IsQueue n levels queue count →
    get_or levels link.far 0 ≡ unreached → LeadsFar ps xs power backward link →
    IsCrossed n ps xs power backward link level levels (set levels link.far (level + 1)) queue (set queue count link.far) count (count + 1)
crossed_new n ps xs power backward link level levels queue count sized each few known low is read leads =
    let within : link.far < length levels = omega (arith, sized, known) in
    let new : level_of levels link.far ≡ unreached = get_or_default levels link.far unreached 0 within ∙ read in
    record {
      queue = queue_marked n levels queue count link.far (level + 1) sized each few known new low is;
      spreads = spreads_marked ps xs power backward link level levels queue count within new leads;
      crossed = λ _. marked_reached n levels queue count link.far (level + 1) sized few known low is;
    }

pub crossed_not :
    (n : ℕ) (ps : List Pipe) (xs : List ℕ) (power : ℕ) (backward : Bool) (link : Link) (level : ℕ) (levels queue : List ℕ) (count : ℕ) →
    IsQueue n levels queue count → (LeadsFar ps xs power backward link → IsReached levels link.far) →
    IsCrossed n ps xs power backward link level levels levels queue queue count count
crossed_not n ps xs power backward link level levels queue count is reached =
    record { queue = is; spreads = spreads_none (λ v. (link.far ≡ v) × LeadsFar ps xs power backward link) level levels queue count; crossed = reached }
