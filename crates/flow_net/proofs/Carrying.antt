use Rattle.std.proofs.Common.{inl, inr, ◌≡◌, ◌≢◌, ℕ, zero, suc, ◌+◌, ◌-◌, ◌*◌, ◌≤◌, ◌<◌, Bool, true, false, cond, not, ◌&&◌, List, [], ◌∷◌, length, get_or, set, refl, sym, ◌∙◌, ap, subst, arith}
use Rattle.std.proofs.lemmas.Bool.{cases_eq}
use Rattle.std.proofs.lemmas.List.{length-set, get_or-set_other, get_or-set_same}
use Rattle.flow_net.specs.declared.pipes.Pipe.{Pipe}
use Rattle.flow_net.specs.declared.pipes.Use.{Use}
use Rattle.flow_net.specs.Nets.{NetValue, FillingValue, IsNet, pipe_at}
use Rattle.flow_net.specs.Paths.{end_of, left_on, IsPath, nodes_of, LeadsOn, HaveLeft, used, pushed}
use Rattle.flow_net.specs.Moves.{Avoids, IsReady}
use Rattle.flow_net.specs.Flows.{out_of, into, cost}
use Rattle.flow_net.proofs.Sums.{amount_on-cons, cost-cons}
use Rattle.flow_net.specs.Pushes.{part, across, left_across, AreWithin, IsCarried, Augments}
use Rattle.flow_net.specs.Levels.{level_of}
use Rattle.flow_net.specs.Trails.{Rises, IsTrail}
use Rattle.flow_net.proofs.Ready.{no_use, ready_rest, ready_from_leads}
use Rattle.flow_net.proofs.Balance.{push_moves, length_pushed}

-- the levels along a path rise by one at each node
levels_along :
    (ps : List Pipe) (levels : List ℕ) (level v : ℕ) (us : List Use) (i d : ℕ) → level_of levels v ≡ level → Rises ps levels level us →
    i < length (nodes_of ps v us) → level_of levels (get_or (nodes_of ps v us) i d) ≡ level + i
levels_along ps levels level v [] zero d at rises h = omega (arith, at)
levels_along ps levels level v [] (suc i) d at rises h = absurd (omega (arith, h))
levels_along ps levels level v (u ∷ us) zero d at rises h = omega (arith, at)
levels_along ps levels level v (u ∷ us) (suc i) d at rises h =
    omega (arith, levels_along ps levels (level + 1) (end_of ps u) us i d rises.0 rises.1 (omega (arith, h)))

-- a trail meets no node twice
pub trail_leads :
    (ps : List Pipe) (xs : List ℕ) (power : ℕ) (levels : List ℕ) (a b : ℕ) (us : List Use) → a ≢ b →
    IsTrail ps xs power levels a b us → LeadsOn ps us
trail_leads ps xs power levels a b us apart trail =
    record {
      from = a;
      to = b;
      apart = apart;
      leads = trail.leads;
      once =
          λ i j d h l same.
          let lower = levels_along ps levels (level_of levels a) a us i d refl trail.rises (omega (arith, h, l)) in
          let higher = levels_along ps levels (level_of levels a) a us j d refl trail.rises l in
          let equal : level_of levels (get_or (nodes_of ps a us) i d) ≡ level_of levels (get_or (nodes_of ps a us) j d) = ap (λ n. level_of levels n) same in
          omega (arith, lower, higher, equal, h);
    }

-- what is left on other pipes stays after a write
left_after :
    (ps : List Pipe) (xs : List ℕ) (d i y : ℕ) (us : List Use) → Avoids i us → HaveLeft ps xs d us → HaveLeft ps (set xs i y) d us
left_after ps xs d i y [] avoids left = tt
left_after ps xs d i y (u ∷ us) avoids left = (
  subst (λ (n : ℕ). d ≤ cond u.back n ((pipe_at ps u.pipe).room - n)) (sym (get_or-set_other xs i u.pipe y 0 avoids.0)) left.0,
  left_after ps xs d i y us avoids.1 left.1,
)

-- one use keeps the amounts within the rooms
within_after :
    (ps : List Pipe) (xs : List ℕ) (d : ℕ) (u : Use) → 1 ≤ d → length xs ≡ length ps → AreWithin ps xs → d ≤ left_on ps xs u →
    AreWithin ps (used d xs u)
within_after ps xs d u some each within left i h =
    let y = cond u.back (get_or xs u.pipe 0 - d) (get_or xs u.pipe 0 + d) in
    elim (cases_eq i u.pipe) as (λ _. get_or (used d xs u) i 0 ≤ (pipe_at ps i).room) [
      | inl same ↦
          let here : get_or (set xs u.pipe y) i 0 ≡ y =
          subst (λ n. get_or (set xs u.pipe y) n 0 ≡ y) (sym same) (get_or-set_same xs u.pipe y 0 (subst (λ n. n < length xs) same (omega (arith, h, each)))) in
          let was : get_or xs u.pipe 0 ≤ (pipe_at ps u.pipe).room = subst (λ n. get_or xs n 0 ≤ (pipe_at ps n).room) same (within i h) in
          let fits = y_fits u.back (get_or xs u.pipe 0) d (pipe_at ps u.pipe).room some was left in
          subst (λ n. get_or (set xs u.pipe y) i 0 ≤ (pipe_at ps n).room) (sym same) (omega (arith, here, fits))
      | inr differ ↦ omega (arith, get_or-set_other xs u.pipe i y 0 differ, within i h)
    ]
  where
    y_fits : (b : Bool) (x d r : ℕ) → 1 ≤ d → x ≤ r → d ≤ cond b x (r - x) → cond b (x - d) (x + d) ≤ r
    y_fits true x d r some was left = omega (arith, was)
    y_fits false x d r some was left = omega (arith, was, left, some)

-- a push keeps the amounts within the rooms
pub pushed_within :
    (ps : List Pipe) (xs : List ℕ) (d a b : ℕ) (us : List Use) → 1 ≤ d → length xs ≡ length ps → AreWithin ps xs →
    IsPath ps a b us → IsReady d xs us → HaveLeft ps xs d us → AreWithin ps (pushed d xs us)
pushed_within ps xs d a b [] some each within path ready left = within
pushed_within ps xs d a b (u ∷ us) some each within path ready left =
    pushed_within ps (used d xs u) d (end_of ps u) b us some (length-set xs u.pipe _ ∙ each)
    (within_after ps xs d u some each within left.0) path.2 (ready_rest d xs u us ready)
    (left_after ps xs d u.pipe _ us ready.1 left.1)

-- what can still cross a set, with what flows out of it, is what its cut costs, with what flows into it
pub left_across-out :
    (s : ℕ → Bool) (ps : List Pipe) (xs : List ℕ) → length xs ≡ length ps → AreWithin ps xs →
    left_across s ps xs + out_of s ps xs ≡ cost s ps + into s ps xs
left_across-out s [] [] each within = refl
left_across-out s [] (x ∷ xs) each within = refl
left_across-out s (p ∷ ps) [] each within = absurd (omega (arith, each))
left_across-out s (p ∷ ps) (x ∷ xs) each within =
    let rest = left_across-out s ps xs (omega (arith, each)) (λ i h. within (suc i) (omega (arith, h))) in
    let one = one_pipe (s p.from) (s p.to) p.room x (within 0 (omega arith)) in
    omega (
      arith,
      rest,
      one,
      amount_on-cons (λ q. s q.from) p ps x xs,
      amount_on-cons (λ q. s q.to) p ps x xs,
      cost-cons s p ps,
    )
  where
    one_pipe :
        (f t : Bool) (r x : ℕ) → x ≤ r →
        across f t r x + cond f x 0 ≡ cond (f && not t) r 0 + cond t x 0
    one_pipe true true r x h = omega arith
    one_pipe true false r x h = omega arith
    one_pipe false true r x h = omega arith
    one_pipe false false r x h = omega arith

-- a push keeps the balance, and what can still cross a side falls by its amount
module _ (net : NetValue) (f : FillingValue) (new : FillingValue) (a b d : ℕ) (us : List Use)
    (lawful : IsNet net) (carried : IsCarried net.pipes a b f.amounts) (some : 1 ≤ d) (leads : LeadsOn net.pipes us) (path : IsPath net.pipes a b us)
    (left : HaveLeft net.pipes f.amounts d us) (is : new.amounts ≡ pushed d f.amounts us) where
  ready : IsReady d f.amounts us
  ready = ready_from_leads net f.amounts d us lawful carried.each some leads left

  moves : (s : ℕ → Bool) → out_of s net.pipes new.amounts + into s net.pipes f.amounts + part (s b) d ≡ out_of s net.pipes f.amounts + into s net.pipes new.amounts + part (s a) d
  moves s =
      subst (λ (xs : List ℕ). out_of s net.pipes xs + into s net.pipes f.amounts + part (s b) d ≡ out_of s net.pipes f.amounts + into s net.pipes xs + part (s a) d) (sym is)
      (push_moves s net.pipes us f.amounts a b d carried.each path ready)

  pub pushed_carried : IsCarried net.pipes a b new.amounts
  pushed_carried =
      record {
        each = ap (λ (xs : List ℕ). length xs) is ∙ (length_pushed d f.amounts us ∙ carried.each);
        within =
            subst (λ (xs : List ℕ). AreWithin net.pipes xs) (sym is)
            (pushed_within net.pipes f.amounts d a b us some carried.each carried.within path ready left);
        value = carried.value + d;
        balanced =
            λ s.
            omega (arith, moves s, carried.balanced s, part_add (s a) carried.value d, part_add (s b) carried.value d);
      }
    where
      part_add : (c : Bool) (m n : ℕ) → part c (m + n) ≡ part c m + part c n
      part_add true m n = refl
      part_add false m n = refl

  pub pushed_augments : (w : ℕ) → w ≤ d → new.pushes ≡ f.pushes + 1 → Augments net.pipes a b w f new
  pushed_augments w low one =
      record {
        rises = omega (arith, one);
        falls =
            λ s side.
            let new_law = left_across-out s net.pipes new.amounts pushed_carried.each pushed_carried.within in
            let old_law = left_across-out s net.pipes f.amounts carried.each carried.within in
            let at_a : part (s a) d ≡ d = ap (λ c. part c d) side.0 in
            let at_b : part (s b) d ≡ 0 = ap (λ c. part c d) side.1 in
            let times : new.pushes * w ≡ f.pushes * w + w = ap (λ n. n * w) one ∙ (let e : (f.pushes + 1) * w ≡ f.pushes * w + w = omega arith in e) in
            omega (arith, new_law, old_law, at_a, at_b, moves s, times, low);
      }

-- pushes behind one another
pub augments_on :
    (ps : List Pipe) (a b w : ℕ) (f g h : FillingValue) → Augments ps a b w f g → Augments ps a b w g h → Augments ps a b w f h
augments_on ps a b w f g h one two =
    record {
      rises = omega (arith, one.rises, two.rises);
      falls = λ s side. omega (arith, one.falls s side, two.falls s side);
    }

pub augments_none : (ps : List Pipe) (a b w : ℕ) (f : FillingValue) → Augments ps a b w f f
augments_none ps a b w f = record { rises = omega arith; falls = λ s side. omega arith }

-- by index
pub have_left_at :
    (ps : List Pipe) (xs : List ℕ) (w : ℕ) (us : List Use) (k : ℕ) → k < length us → HaveLeft ps xs w us → w ≤ left_on ps xs (get_or us k no_use)
have_left_at ps xs w [] k h left = absurd (omega (arith, h))
have_left_at ps xs w (u ∷ us) zero h left = left.0
have_left_at ps xs w (u ∷ us) (suc k) h left = have_left_at ps xs w us k (omega (arith, h)) left.1

pub have_left_each :
    (ps : List Pipe) (xs : List ℕ) (w : ℕ) (us : List Use) → ((k : ℕ) → k < length us → w ≤ left_on ps xs (get_or us k no_use)) → HaveLeft ps xs w us
have_left_each ps xs w [] each = tt
have_left_each ps xs w (u ∷ us) each = (each 0 (omega arith), have_left_each ps xs w us (λ k h. each (suc k) (omega (arith, h))))

pub path_known :
    (ps : List Pipe) (a b : ℕ) (us : List Use) (k : ℕ) → IsPath ps a b us → k < length us → (get_or us k no_use).pipe < length ps
path_known ps a b [] k path h = absurd (omega (arith, h))
path_known ps a b (u ∷ us) zero path h = path.0
path_known ps a b (u ∷ us) (suc k) path h = path_known ps (end_of ps u) b us k path.2 (omega (arith, h))

pub have_left_less :
    (ps : List Pipe) (xs : List ℕ) (w v : ℕ) (us : List Use) → v ≤ w → HaveLeft ps xs w us → HaveLeft ps xs v us
have_left_less ps xs w v [] h left = tt
have_left_less ps xs w v (u ∷ us) h left = (omega (arith, h, left.0), have_left_less ps xs w v us h left.1)
