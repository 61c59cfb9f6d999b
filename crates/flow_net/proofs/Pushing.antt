-- What a push along a path does to each pipe.
use Rattle.std.proofs.Common.{inl, inr, ◌⊎◌, ◌≡◌, ◌≢◌, ℕ, zero, suc, ◌+◌, ◌-◌, ◌≤◌, ◌<◌, Bool, true, false, cond, List, [], ◌∷◌, length, get_or, refl, sym, ◌∙◌, ap, subst, arith}
use Rattle.std.specs.Prelude.{All, Contains}
use Rattle.std.proofs.lemmas.Bool.{cases_eq}
use Rattle.std.proofs.lemmas.List.{get_or-set_other, get_or-set_same, get_or_default, ext_get_or}
use Rattle.flow_net.specs.declared.pipes.Use.{Use}
use Rattle.flow_net.specs.Paths.{use_of, IsPushed, used, pushed}
use Rattle.flow_net.specs.Moves.{Avoids, IsReady}
use Rattle.flow_net.proofs.Ready.{no_use, ready_rest}
use Rattle.flow_net.proofs.Balance.{length_pushed}

-- what no use is of, by index
avoids_at : (i : ℕ) (us : List Use) (k : ℕ) (d : Use) → Avoids i us → k < length us → (get_or us k d).pipe ≢ i
avoids_at i [] k d avoids h = absurd (omega (arith, h))
avoids_at i (v ∷ us) zero d avoids h = avoids.0
avoids_at i (v ∷ us) (suc k) d avoids h = avoids_at i us k d avoids.1 (omega (arith, h))

all_avoid : (i : ℕ) (us : List Use) → All (λ (u : Use). u.pipe ≢ i) us → Avoids i us
all_avoid i [] all = tt
all_avoid i (v ∷ us) all = (all 0 v (omega arith), all_avoid i us (λ k d h. all (suc k) d (omega (arith, h))))

-- a pipe that no use is of stays as it was
pushed_others : (d : ℕ) (xs : List ℕ) (us : List Use) (i : ℕ) → Avoids i us → get_or (pushed d xs us) i 0 ≡ get_or xs i 0
pushed_others d xs [] i avoids = refl
pushed_others d xs (v ∷ us) i avoids =
    pushed_others d (used d xs v) us i avoids.1 ∙ get_or-set_other xs v.pipe i _ 0 (λ e. avoids.0 (sym e))

-- a use changes the amount on its pipe, and no other use of the path does
pushed_use :
    (d : ℕ) (xs : List ℕ) (us : List Use) (k : ℕ) (u : Use) → IsReady d xs us → k < length us → get_or us k u ≡ u →
    get_or (pushed d xs us) u.pipe 0 ≡ cond u.back (get_or xs u.pipe 0 - d) (get_or xs u.pipe 0 + d)
pushed_use d xs [] k u ready h is = absurd (omega (arith, h))
pushed_use d xs (v ∷ us) zero u ready h is =
    subst (λ (w : Use). get_or (pushed d (used d xs v) us) w.pipe 0 ≡ cond w.back (get_or xs w.pipe 0 - d) (get_or xs w.pipe 0 + d)) is
    (pushed_others d (used d xs v) us v.pipe ready.1 ∙ get_or-set_same xs v.pipe _ 0 ready.0.known)
pushed_use d xs (v ∷ us) (suc k) u ready h is =
    let here : k < length us = omega (arith, h) in
    let apart : u.pipe ≢ v.pipe = subst (λ (w : Use). w.pipe ≢ v.pipe) is (avoids_at v.pipe us k u ready.1 here) in
    pushed_use d (used d xs v) us k u (ready_rest d xs v us ready) here is ∙
    ap (λ n. cond u.back (n - d) (n + d)) (get_or-set_other xs v.pipe u.pipe _ 0 apart)

-- what is taken was there
ready_takes :
    (d : ℕ) (xs : List ℕ) (us : List Use) (k : ℕ) (u : Use) → IsReady d xs us → k < length us → get_or us k u ≡ u → u.back ≡ true →
    d ≤ get_or xs u.pipe 0
ready_takes d xs [] k u ready h is back = absurd (omega (arith, h))
ready_takes d xs (v ∷ us) zero u ready h is back =
    subst (λ (w : Use). d ≤ get_or xs w.pipe 0) is (ready.0.takes (ap (λ (w : Use). w.back) is ∙ back))
ready_takes d xs (v ∷ us) (suc k) u ready h is back = ready_takes d xs us k u ready.2 (omega (arith, h)) is back

-- so the amounts after all uses of a path are those of a push
pub pushed_per_pipe : (d : ℕ) (xs : List ℕ) (us : List Use) → IsReady d xs us → IsPushed d us xs (pushed d xs us)
pushed_per_pipe d xs us ready =
    record {
      each = length_pushed d xs us;
      forward = λ i has. pushed_use d xs us has.0 (use_of i false) ready has.1 has.2;
      back =
          λ i has.
          let now = pushed_use d xs us has.0 (use_of i true) ready has.1 has.2 in
          let was = ready_takes d xs us has.0 (use_of i true) ready has.1 has.2 refl in
          omega (arith, now, was);
      others = λ i all. pushed_others d xs us i (all_avoid i us all);
    }

-- a path uses a pipe, or it does not
used_or_not : (i : ℕ) (us : List Use) → ((k : ℕ) × (k < length us) × ((get_or us k no_use).pipe ≡ i)) ⊎ Avoids i us
used_or_not i [] = inr tt
used_or_not i (v ∷ us) =
    elim (cases_eq v.pipe i) [
      | inl same ↦ inl (0, omega arith, same)
      | inr differ ↦ elim (used_or_not i us) [
        | inl has ↦ inl (suc has.0, omega (arith, has.1), has.2)
        | inr avoids ↦ inr (differ, avoids)
      ]
    ]

avoid_all : (i : ℕ) (us : List Use) → Avoids i us → All (λ (u : Use). u.pipe ≢ i) us
avoid_all i us avoids = λ k d h. avoids_at i us k d avoids h

-- two pushes of one amount along one path lead to the same amounts
module _ (d : ℕ) (us : List Use) (xs ys : List ℕ) (ready : IsReady d xs us) (is : IsPushed d us xs ys) where
  at_use : (u : Use) → Contains us u → (b : Bool) → u.back ≡ b → get_or ys u.pipe 0 ≡ get_or (pushed d xs us) u.pipe 0
  at_use u has true back =
      let mine : Contains us (use_of u.pipe true) = subst (λ b. Contains us (use_of u.pipe b)) back has in
      omega (arith, is.back u.pipe mine, (pushed_per_pipe d xs us ready).back u.pipe mine)
  at_use u has false back =
      let mine : Contains us (use_of u.pipe false) = subst (λ b. Contains us (use_of u.pipe b)) back has in
      omega (arith, is.forward u.pipe mine, (pushed_per_pipe d xs us ready).forward u.pipe mine)

  at_pipe : (i : ℕ) → get_or ys i 0 ≡ get_or (pushed d xs us) i 0
  at_pipe i =
      elim (used_or_not i us) as (λ _. get_or ys i 0 ≡ get_or (pushed d xs us) i 0) [
        | inl has ↦
            let u = get_or us has.0 no_use in
            subst (λ n. get_or ys n 0 ≡ get_or (pushed d xs us) n 0) has.2
            (at_use u (has.0, has.1, get_or_default us has.0 u no_use has.1) u.back refl)
        | inr avoids ↦ is.others i (avoid_all i us avoids) ∙ sym (pushed_others d xs us i avoids)
      ]

  pub pushed_only : ys ≡ pushed d xs us
  pushed_only = ext_get_or 0 ys (pushed d xs us) (is.each ∙ sym (length_pushed d xs us)) (λ i h. at_pipe i)
