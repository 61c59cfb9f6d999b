use Rattle.std.proofs.Common.{inl, inr, ◌⊎◌, ◌≡◌, ◌≢◌, ℕ, suc, ◌+◌, ◌-◌, ◌^◌, ◌≤◌, ◌<◌, Bool, true, false, cond, List, [], ◌∷◌, length, get_or, set, drop, refl, sym, ◌∙◌, ap, subst, arith}
use Rattle.std.proofs.lemmas.List.{length-set, get_or-set_other, drop_more}
use Rattle.std.specs.Prelude.{AllPairs, All}
use Rattle.flow_net.specs.declared.pipes.Pipe.{Pipe}
use Rattle.flow_net.specs.declared.pipes.Use.{Use}
use Rattle.flow_net.specs.Nets.{NetValue, IsNet, pipe_at}
use Rattle.flow_net.specs.Paths.{start_of, end_of, left_on, IsPath, nodes_of, LeadsOn, HaveLeft, used, pushed}
use Rattle.flow_net.specs.Moves.{Avoids, CanMove, IsReady}

-- a use of another pipe can move after a write as before
moves_after : (d i y : ℕ) (xs : List ℕ) (u : Use) → CanMove d xs u → u.pipe ≢ i → CanMove d (set xs i y) u
moves_after d i y xs u can apart =
    let same : get_or (set xs i y) u.pipe 0 ≡ get_or xs u.pipe 0 = get_or-set_other xs i u.pipe y 0 apart in
    record {
      known = subst (λ n. u.pipe < n) (sym (length-set xs i y)) can.known;
      takes = λ b. subst (λ n. d ≤ n) (sym same) (can.takes b);
      adds = λ b. subst (λ n. n + d < 2 ^ 128) (sym same) (can.adds b);
    }

-- uses of other pipes stay ready after a write
pub ready_after : (d i y : ℕ) (xs : List ℕ) (us : List Use) → Avoids i us → IsReady d xs us → IsReady d (set xs i y) us
ready_after d i y xs [] avoids ready = tt
ready_after d i y xs (u ∷ us) avoids ready =
    (moves_after d i y xs u ready.0 avoids.0, ready.1, ready_after d i y xs us avoids.1 ready.2)

-- the rest of a path stays ready after its first use
pub ready_rest : (d : ℕ) (xs : List ℕ) (u : Use) (us : List Use) → IsReady d xs (u ∷ us) → IsReady d (used d xs u) us
ready_rest d xs u us ready = ready_after d u.pipe _ xs us ready.1 ready.2

-- no node of the path is a
abbrev Misses : List Pipe → ℕ → ℕ → List Use → Type 0
Misses ps a e [] = e ≢ a
Misses ps a e (u ∷ us) = (e ≢ a) × Misses ps a (end_of ps u) us

-- a pipe with an end that the path misses is not used
avoids_missed :
    (ps : List Pipe) (i a e b : ℕ) (us : List Use) →
    ((pipe_at ps i).from ≡ a) ⊎ ((pipe_at ps i).to ≡ a) → IsPath ps e b us → Misses ps a e us → Avoids i us
avoids_missed ps i a e b [] at path misses = tt
avoids_missed ps i a e b (u ∷ us) at path misses =
    (λ same. other ps i a e b u us at path misses same, avoids_missed ps i a (end_of ps u) b us at path.2 misses.1)
  where
    head_misses : (ps : List Pipe) (a e : ℕ) (us : List Use) → Misses ps a e us → e ≢ a
    head_misses ps a e [] m = m
    head_misses ps a e (u ∷ us) m = m.0

    by_back :
        (back : Bool) (f t a e : ℕ) → (f ≡ a) ⊎ (t ≡ a) → cond back t f ≡ e → e ≢ a → cond back f t ≢ a → ⊥
    by_back true f t a e (inl h) begins first second = second h
    by_back true f t a e (inr h) begins first second = first (sym begins ∙ h)
    by_back false f t a e (inl h) begins first second = first (sym begins ∙ h)
    by_back false f t a e (inr h) begins first second = second h

    ends_differ :
        (ps : List Pipe) (i a e : ℕ) (u : Use) → ((pipe_at ps i).from ≡ a) ⊎ ((pipe_at ps i).to ≡ a) →
        start_of ps u ≡ e → e ≢ a → end_of ps u ≢ a → u.pipe ≡ i → ⊥
    ends_differ ps i a e u at begins first second same =
        let here : ((pipe_at ps u.pipe).from ≡ a) ⊎ ((pipe_at ps u.pipe).to ≡ a) =
        subst (λ k. ((pipe_at ps k).from ≡ a) ⊎ ((pipe_at ps k).to ≡ a)) (sym same) at in
        by_back u.back (pipe_at ps u.pipe).from (pipe_at ps u.pipe).to a e here begins first second

    other :
        (ps : List Pipe) (i a e b : ℕ) (u : Use) (us : List Use) →
        ((pipe_at ps i).from ≡ a) ⊎ ((pipe_at ps i).to ≡ a) → IsPath ps e b (u ∷ us) → Misses ps a e (u ∷ us) → u.pipe ≡ i → ⊥
    other ps i a e b u us at path misses same =
        let first : e ≢ a = misses.0 in
        let second : end_of ps u ≢ a = head_misses ps a (end_of ps u) us misses.1 in
        let begins : start_of ps u ≡ e = path.1 in
        ends_differ ps i a e u at begins first second same

abbrev pub no_use : Use
no_use = record { pipe = 0; back = false }

-- the use at a place can move, and what is left after it is ready
pub ready_at :
    (d : ℕ) (xs : List ℕ) (us : List Use) (i : ℕ) → i < length us → IsReady d xs (drop i us) →
    CanMove d xs (get_or us i no_use) × IsReady d (used d xs (get_or us i no_use)) (drop (i + 1) us)
ready_at d xs us i within ready =
    let both : IsReady d xs (get_or us i no_use ∷ drop (i + 1) us) =
    subst (λ vs. IsReady d xs vs) (drop_more us i no_use within) ready in
    (both.0, ready_rest d xs (get_or us i no_use) (drop (i + 1) us) both)

-- one use on, the rest leads to the same amounts
pub pushed_at :
    (d : ℕ) (xs : List ℕ) (us : List Use) (i : ℕ) → i < length us →
    pushed d (used d xs (get_or us i no_use)) (drop (i + 1) us) ≡ pushed d xs (drop i us)
pushed_at d xs us i within = ap (λ vs. pushed d xs vs) (sym (drop_more us i no_use within))

-- the nodes of a path after a are not a, where no node is met twice
misses_first :
    (ps : List Pipe) (a e : ℕ) (us : List Use) (xs : List ℕ) → xs ≡ nodes_of ps e us → All (λ v. v ≢ a) xs → Misses ps a e us
misses_first ps a e [] xs is all = λ same. all 0 0 (subst (λ (l : List ℕ). 0 < length l) (sym is) (omega arith)) (subst (λ (l : List ℕ). get_or l 0 0 ≡ a) (sym is) same)
misses_first ps a e (u ∷ us) xs is all =
    let whole : All (λ v. v ≢ a) (e ∷ nodes_of ps (end_of ps u) us) = subst (λ (l : List ℕ). All (λ v. v ≢ a) l) is all in (
      λ same. whole 0 0 (omega arith) same,
      misses_first ps a (end_of ps u) us (nodes_of ps (end_of ps u) us) refl (λ k d h. whole (suc k) d (omega arith)),
    )

-- on a path that meets no node twice with enough left on each use, each can move
ready_on :
    (ps : List Pipe) (xs : List ℕ) (d a b : ℕ) (us : List Use) → length xs ≡ length ps → 1 ≤ d →
    ((i : ℕ) → i < length ps → (pipe_at ps i).room < 2 ^ 104) →
    IsPath ps a b us → AllPairs ◌≢◌ (nodes_of ps a us) → HaveLeft ps xs d us → IsReady d xs us
ready_on ps xs d a b [] each some small path once left = tt
ready_on ps xs d a b (u ∷ us) each some small path once left = (
  can_move ps xs d u each some (small u.pipe path.0) path.0 left.0,
  avoids_missed ps u.pipe a (end_of ps u) b us (begins u.back (pipe_at ps u.pipe).from (pipe_at ps u.pipe).to a path.1) path.2
      (misses_first ps a (end_of ps u) us (nodes_of ps (end_of ps u) us) refl (λ k e h same. once 0 (suc k) e (omega arith) (omega arith) (sym same))),
  ready_on ps xs d (end_of ps u) b us each some small path.2 (λ i j e h l. once (suc i) (suc j) e (omega arith) (omega arith)) left.1,
)
  where
    begins : (back : Bool) (f t a : ℕ) → cond back t f ≡ a → (f ≡ a) ⊎ (t ≡ a)
    begins true f t a h = inr h
    begins false f t a h = inl h

    within_width : (x d r : ℕ) → 1 ≤ d → d ≤ r - x → r < 2 ^ 104 → x + d < 2 ^ 128
    within_width x d r some free small = omega arith

    can_move :
        (ps : List Pipe) (xs : List ℕ) (d : ℕ) (u : Use) → length xs ≡ length ps → 1 ≤ d → (pipe_at ps u.pipe).room < 2 ^ 104 →
        u.pipe < length ps → d ≤ left_on ps xs u → CanMove d xs u
    can_move ps xs d u each some small known left =
        record {
          known = subst (λ n. u.pipe < n) (sym each) known;
          takes = λ b. subst (λ c. d ≤ cond c (get_or xs u.pipe 0) ((pipe_at ps u.pipe).room - get_or xs u.pipe 0)) b left;
          adds =
              λ b.
              let free : d ≤ (pipe_at ps u.pipe).room - get_or xs u.pipe 0 =
              subst (λ c. d ≤ cond c (get_or xs u.pipe 0) ((pipe_at ps u.pipe).room - get_or xs u.pipe 0)) b left in
              within_width (get_or xs u.pipe 0) d (pipe_at ps u.pipe).room some free small;
        }

pub ready_from_leads :
    (net : NetValue) (xs : List ℕ) (d : ℕ) (us : List Use) → IsNet net → length xs ≡ length net.pipes → 1 ≤ d →
    LeadsOn net.pipes us → HaveLeft net.pipes xs d us → IsReady d xs us
ready_from_leads net xs d us lawful each some leads left =
    ready_on net.pipes xs d leads.from leads.to us each some (λ i h. (lawful.pipes i h).small) leads.leads leads.once left
