-- Steps down a tree and back.
use Rattle.std.proofs.Common.{◌≡◌, ◌≢◌, ℕ, zero, suc, ◌+◌, ◌<◌, ◌≤◌, List, [], ◌∷◌, length, Bool, true, false, cond, not, set, refl, sym, ◌∙◌, ap, subst, arith, inl, inr}
use Rattle.std.specs.Prelude.{◌&&◌}
use Rattle.std.proofs.lemmas.Bool.{cases_Bool, and_parts, not-true}
use Rattle.std.proofs.lemmas.List.{length-set, get_or-set_same, get_or-set_other, set-set, set-get_or}
use Rattle.seed_model.specs.declared.node.Node.{Node}
use Rattle.seed_model.specs.Files.{holds}
use Rattle.seed_model.specs.Keys.{sum_below}
use Rattle.seed_model.specs.Nodes.{put_inside, put_outside, is_free}
use Rattle.seed_model.proofs.KeySums.{sum_below_le}
use Rattle.cert_check.proofs.Counts.{sum_but_one, sum_has, sum_ones}
use Rattle.cert_check.specs.declared.path.Side.{Side}
use Rattle.cert_check.specs.declared.path.Side.TheVariants.{Outside, Inside}
use Rattle.cert_check.specs.declared.path.Step.{Step}
use Rattle.cert_check.specs.Paths.{step_at, no_step, freed, above, top, left_by, behind, IsPut, ArePut, IsPath, waiting_of}

-- how many files are free
free_at : Node → ℕ → ℕ
free_at node file = cond (is_free node file) 1 0

free_at_is : (node : Node) (file : ℕ) (b : Bool) → is_free node file ≡ b → free_at node file ≡ cond b 1 0
unfolding free_at
free_at_is node file b e = ap (λ c. cond c 1 0) e

free_at_le : (node : Node) (file : ℕ) → free_at node file ≤ 1
unfolding free_at
free_at_le node file = elim (cases_Bool (is_free node file)) [ inl t ↦ rw t (omega arith) | inr f ↦ rw f (omega arith) ]

freed_inside : (side : Side) (file n : ℕ) (node : Node) → length node.inside ≡ n → length (freed side file node).inside ≡ n
freed_inside Outside file n node e = e
freed_inside Inside file n node e = length-set node.inside file false ∙ e

freed_outside : (side : Side) (file n : ℕ) (node : Node) → length node.outside ≡ n → length (freed side file node).outside ≡ n
freed_outside Outside file n node e = length-set node.outside file false ∙ e
freed_outside Inside file n node e = e

put_not_free : (side : Side) (file : ℕ) (node : Node) → IsPut side file node → is_free node file ≡ false
put_not_free Outside file node p = rw (p.0, p.1) refl
put_not_free Inside file node p = rw (p.0) refl

freed_is_free : (side : Side) (file n : ℕ) (node : Node) → file < n → length node.inside ≡ n → length node.outside ≡ n → IsPut side file node → is_free (freed side file node) file ≡ true
freed_is_free Outside file n node lt a b p =
    let e : holds (set node.outside file false) file ≡ false = get_or-set_same node.outside file false false (omega (arith, lt, b)) in
    rw (p.0, e) refl
freed_is_free Inside file n node lt a b p =
    let e : holds (set node.inside file false) file ≡ false = get_or-set_same node.inside file false false (omega (arith, lt, a)) in
    rw (e, p.1) refl

freed_others : (side : Side) (file i : ℕ) (node : Node) → i ≢ file → is_free (freed side file node) i ≡ is_free node i
freed_others Outside file i node ne =
    let e : holds (set node.outside file false) i ≡ holds node.outside i = get_or-set_other node.outside file i false false ne in
    ap (λ b. not (holds node.inside i) && not b) e
freed_others Inside file i node ne =
    let e : holds (set node.inside file false) i ≡ holds node.inside i = get_or-set_other node.inside file i false false ne in
    ap (λ b. not b && not (holds node.outside i)) e

-- one file more is free above a step
freed_more : (side : Side) (file n : ℕ) (node : Node) → file < n → length node.inside ≡ n → length node.outside ≡ n → IsPut side file node
    → sum_below (free_at (freed side file node)) n ≡ sum_below (free_at node) n + 1
freed_more side file n node lt a b p =
    let over : Node = freed side file node in
    let same : (i : ℕ) → i < n → i ≢ file → free_at over i ≡ free_at node i =
    λ i l ne. free_at_is over i (is_free node i) (freed_others side file i node ne) ∙ sym (free_at_is node i (is_free node i) refl) in
    let sums : sum_below (free_at over) n + free_at node file ≡ sum_below (free_at node) n + free_at over file = sum_but_one (free_at over) (free_at node) n file lt same in
    let none : free_at node file ≡ 0 = free_at_is node file false (put_not_free side file node p) in
    let one : free_at over file ≡ 1 = free_at_is over file true (freed_is_free side file n node lt a b p) in
    omega (arith, sums, none, one)

steps_fit : (steps : List Step) (depth n : ℕ) (node : Node) → length steps ≡ n → length node.inside ≡ n → length node.outside ≡ n → ArePut steps depth node → depth + sum_below (free_at node) n ≤ n
steps_fit steps zero n node s a b p =
    let most : sum_below (free_at node) n ≤ sum_below (λ k. 1) n = sum_below_le (free_at node) (λ k. 1) n (λ k l. free_at_le node k) in
    omega (arith, most, sum_ones n)
steps_fit steps (suc depth) n node s a b p =
    let step : Step = step_at steps depth in
    let rest = steps_fit steps depth n (above step node) s (freed_inside step.side step.file n node a) (freed_outside step.side step.file n node b) p.2 in
    let more = freed_more step.side step.file n node (subst (λ m. step.file < m) s p.0) a b p.1 in
    omega (arith, rest, more)

-- a path from which a file is free has room for one step more
pub room : (steps : List Step) (depth file : ℕ) (node : Node) (reads : Bool) → IsPath steps depth node reads → file < length node.inside → is_free node file ≡ true → depth < length steps
room steps depth file node reads p lt free =
    let fit = steps_fit steps depth (length steps) node refl p.inside p.outside p.put in
    let one : free_at node file ≡ 1 = free_at_is node file true free in
    let has = sum_has (free_at node) (length steps) file (omega (arith, lt, p.inside)) in
    omega (arith, fit, one, has)

-- a path has no more steps than files
pub fits_in : (steps : List Step) (depth : ℕ) (node : Node) (reads : Bool) → IsPath steps depth node reads → depth ≤ length steps
fits_in steps depth node reads p = let fit = steps_fit steps depth (length steps) node refl p.inside p.outside p.put in omega (arith, fit)

-- steps that are the same up to a depth
same_put : (steps others : List Step) (depth : ℕ) (node : Node) → length others ≡ length steps → ((k : ℕ) → k < depth → step_at others k ≡ step_at steps k) → ArePut steps depth node → ArePut others depth node
same_put steps others zero node l same p = tt
same_put steps others (suc depth) node l same p =
    let P : Step → Type 0 = λ s. (s.file < length others) × IsPut s.side s.file node × ArePut others depth (above s node) in
    let here : P (step_at steps depth) = (subst (λ n. (step_at steps depth).file < n) (sym l) p.0, p.1, same_put steps others depth (above (step_at steps depth) node) l (λ k lt. same k (omega (arith, lt))) p.2) in
    subst P (sym (same depth (omega arith))) here

same_top : (steps others : List Step) (depth : ℕ) (node : Node) → ((k : ℕ) → k < depth → step_at others k ≡ step_at steps k) → top others depth node ≡ top steps depth node
same_top steps others zero node same = refl
same_top steps others (suc depth) node same =
    ap (λ (s : Step). top others depth (above s node)) (same depth (omega arith)) ∙ same_top steps others depth (above (step_at steps depth) node) (λ k lt. same k (omega (arith, lt)))

same_behind : (steps others : List Step) (depth : ℕ) (node : Node) → ((k : ℕ) → k < depth → step_at others k ≡ step_at steps k) → behind others depth node ≡ behind steps depth node
same_behind steps others zero node same = refl
same_behind steps others (suc depth) node same =
    let s : Step = step_at steps depth in
    ap (λ (t : Step). left_by t.side t.file (above t node) (behind others depth (above t node))) (same depth (omega arith))
    ∙ ap (λ more. left_by s.side s.file (above s node) more) (same_behind steps others depth (above s node) (λ k lt. same k (omega (arith, lt))))

set_others : (steps : List Step) (depth : ℕ) (s : Step) (k : ℕ) → k < depth → step_at (set steps depth s) k ≡ step_at steps k
set_others steps depth s k lt = get_or-set_other steps depth k s no_step (omega (arith, lt))

-- a file that is put and taken back
back : (flags : List Bool) (file : ℕ) → holds flags file ≡ false → set (set flags file true) file false ≡ flags
back flags file e = set-set flags file true false ∙ (ap (set flags file) (sym e) ∙ set-get_or flags file false)

-- where a path stands: its root, and the nodes behind the one in work
pub record Stands (steps : List Step) (depth : ℕ) (node : Node) (reads : Bool) (root : Node) (rest : List Node) : Type 0 where
  pub path : IsPath steps depth node reads
  pub on : reads ≡ true
  pub top_is : top steps depth node ≡ root
  pub rest_is : behind steps depth node ≡ rest

-- one step down, to the out child
down_one : (steps : List Step) (depth file : ℕ) (node : Node) (reads : Bool) → reads ≡ true → file < length node.inside → is_free node file ≡ true → IsPath steps depth node reads
    → Stands (set steps depth (record { file = file; side = Outside })) (suc depth) (put_outside file node) reads (top steps depth node) (put_inside file node ∷ behind steps depth node)
down_one steps depth file node reads on lt free p =
    let step : Step = record { file = file; side = Outside } in
    let now : List Step = set steps depth step in
    let child : Node = put_outside file node in
    let parts = and_parts (not (holds node.inside file)) (not (holds node.outside file)) free in
    let not_in : holds node.inside file ≡ false = not-true (holds node.inside file) parts.0 in
    let not_out : holds node.outside file ≡ false = not-true (holds node.outside file) parts.1 in
    let deep : depth < length steps = room steps depth file node reads p lt free in
    let here : step_at now depth ≡ step = get_or-set_same steps depth step no_step deep in
    let over : above step child ≡ node = ap (λ xs. record node { outside = xs }) (back node.outside file not_out) in
    let many : length now ≡ length steps = length-set steps depth step in
    let others : (k : ℕ) → k < depth → step_at now k ≡ step_at steps k = set_others steps depth step in
    let P : Step → Type 0 = λ s. (s.file < length now) × IsPut s.side s.file child × ArePut now depth (above s child) in
    let was : ArePut now depth node = same_put steps now depth node many others p.put in
    let put : P step = (omega (arith, many, lt, p.inside), (not_in, get_or-set_same node.outside file true false (omega (arith, lt, p.inside, p.outside))), subst (λ m. ArePut now depth m) (sym over) was) in
    let path : IsPath now (suc depth) child reads = record {
      inside = p.inside ∙ sym many;
      outside = length-set node.outside file true ∙ (p.outside ∙ sym many);
      put = subst P (sym here) put;
      over = λ off. absurd (let f : true ≡ false = sym on ∙ off in cc);
    } in
    let root : top now (suc depth) child ≡ top steps depth node =
    ap (λ (s : Step). top now depth (above s child)) here ∙ (ap (top now depth) over ∙ same_top steps now depth node others) in
    let rest : behind now (suc depth) child ≡ put_inside file node ∷ behind steps depth node =
    ap (λ (s : Step). left_by s.side s.file (above s child) (behind now depth (above s child))) here
    ∙ (ap (λ (m : Node). put_inside file m ∷ behind now depth m) over ∙ ap (λ more. put_inside file node ∷ more) (same_behind steps now depth node others)) in
    record { path = path; on = on; top_is = root; rest_is = rest }

pub down : (steps : List Step) (depth n file : ℕ) (node : Node) (reads : Bool) → n ≡ suc depth → reads ≡ true → file < length node.inside → is_free node file ≡ true → IsPath steps depth node reads
    → Stands (set steps depth (record { file = file; side = Outside })) n (put_outside file node) reads (top steps depth node) (put_inside file node ∷ behind steps depth node)
down steps depth n file node reads e on lt free p =
    subst (λ m. Stands (set steps depth (record { file = file; side = Outside })) m (put_outside file node) reads (top steps depth node) (put_inside file node ∷ behind steps depth node)) (sym e)
    (down_one steps depth file node reads on lt free p)

-- the last step of a path
pub last_put : (steps : List Step) (depth d : ℕ) (node : Node) (reads : Bool) (step : Step) → depth ≡ suc d → step ≡ step_at steps d → IsPath steps depth node reads
    → (step.file < length steps) × IsPut step.side step.file node × ArePut steps d (above step node)
last_put steps depth d node reads step e is p =
    let at : ArePut steps (suc d) node = subst (λ n. ArePut steps n node) e p.put in
    subst (λ (s : Step). (s.file < length steps) × IsPut s.side s.file node × ArePut steps d (above s node)) (sym is) at

-- back from an in child
pub up_in : (steps : List Step) (depth d : ℕ) (node : Node) (reads : Bool) (step : Step) → depth ≡ suc d → step ≡ step_at steps d → step.side ≡ Inside → reads ≡ true → IsPath steps depth node reads
    → Stands steps d (record { inside = set node.inside step.file false; outside = node.outside }) reads (top steps depth node) (behind steps depth node)
up_in steps depth d node reads step e is side on p =
    let over : Node = record { inside = set node.inside step.file false; outside = node.outside } in
    let put = last_put steps depth d node reads step e is p in
    let up : above step node ≡ over = ap (λ s. freed s step.file node) side in
    record {
      path = record {
        inside = length-set node.inside step.file false ∙ p.inside;
        outside = p.outside;
        put = subst (λ m. ArePut steps d m) up put.2;
        over = λ off. absurd (let f : true ≡ false = sym on ∙ off in cc);
      };
      on = on;
      top_is = sym (ap (λ n. top steps n node) e ∙ (ap (λ (s : Step). top steps d (above s node)) (sym is) ∙ ap (top steps d) up));
      rest_is = sym (ap (λ n. behind steps n node) e
          ∙ (ap (λ (s : Step). left_by s.side s.file (above s node) (behind steps d (above s node))) (sym is)
          ∙ ap (λ s. left_by s step.file (freed s step.file node) (behind steps d (freed s step.file node))) side));
    }

-- from an out child to its in child
pub across : (steps : List Step) (depth d : ℕ) (node : Node) (reads : Bool) (step : Step) → depth ≡ suc d → step ≡ step_at steps d → step.side ≡ Outside → reads ≡ true → IsPath steps depth node reads
    → (rest : List Node)
    × Stands (set steps d (record { file = step.file; side = Inside })) depth (record { inside = set node.inside step.file true; outside = set node.outside step.file false }) reads (top steps depth node) rest
    × (behind steps depth node ≡ record { inside = set node.inside step.file true; outside = set node.outside step.file false } ∷ rest)
across steps depth d node reads step e is side on p =
    let file : ℕ = step.file in
    let turned : Step = record { file = file; side = Inside } in
    let now : List Step = set steps d turned in
    let over : Node = record { inside = node.inside; outside = set node.outside file false } in
    let child : Node = record { inside = set node.inside file true; outside = set node.outside file false } in
    let put = last_put steps depth d node reads step e is p in
    let was : IsPut Outside file node = subst (λ s. IsPut s file node) side put.1 in
    let up : above step node ≡ over = ap (λ s. freed s file node) side in
    let deep : d < length steps = omega (arith, e, fits_in steps depth node reads p) in
    let here : step_at now d ≡ turned = get_or-set_same steps d turned no_step deep in
    let many : length now ≡ length steps = length-set steps d turned in
    let others : (k : ℕ) → k < d → step_at now k ≡ step_at steps k = set_others steps d turned in
    let back_up : above turned child ≡ over = ap (λ xs. record over { inside = xs }) (back node.inside file was.0) in
    let P : Step → Type 0 = λ s. (s.file < length now) × IsPut s.side s.file child × ArePut now d (above s child) in
    let kept : ArePut now d over = same_put steps now d over many others (subst (λ m. ArePut steps d m) up put.2) in
    let within : file < length now = subst (λ n. file < n) (sym many) put.0 in
    let here_put : P turned = (within, (get_or-set_same node.inside file true false (omega (arith, put.0, p.inside)), get_or-set_same node.outside file false false (omega (arith, put.0, p.outside))), subst (λ m. ArePut now d m) (sym back_up) kept) in
    let all_put : ArePut now (suc d) child = subst P (sym here) here_put in
    let path : IsPath now depth child reads = record {
      inside = length-set node.inside file true ∙ (p.inside ∙ sym many);
      outside = length-set node.outside file false ∙ (p.outside ∙ sym many);
      put = subst (λ n. ArePut now n child) (sym e) all_put;
      over = λ off. absurd (let f : true ≡ false = sym on ∙ off in cc);
    } in
    let root_now : top now depth child ≡ top steps d over =
    ap (λ n. top now n child) e ∙ (ap (λ (s : Step). top now d (above s child)) here ∙ (ap (top now d) back_up ∙ same_top steps now d over others)) in
    let root_was : top steps depth node ≡ top steps d over =
    ap (λ n. top steps n node) e ∙ (ap (λ (s : Step). top steps d (above s node)) (sym is) ∙ ap (top steps d) up) in
    let rest_now : behind now depth child ≡ behind steps d over =
    ap (λ n. behind now n child) e
    ∙ (ap (λ (s : Step). left_by s.side s.file (above s child) (behind now d (above s child))) here
    ∙ (ap (behind now d) back_up ∙ same_behind steps now d over others)) in
    let rest_was : behind steps depth node ≡ child ∷ behind steps d over =
    ap (λ n. behind steps n node) e
    ∙ (ap (λ (s : Step). left_by s.side s.file (above s node) (behind steps d (above s node))) (sym is)
    ∙ ap (λ s. left_by s file (freed s file node) (behind steps d (freed s file node))) side) in
    (behind steps d over, record { path = path; on = on; top_is = root_now ∙ sym root_was; rest_is = rest_now }, rest_was)

-- a path that reads nothing stands at its root
pub at_root : (steps : List Step) (depth : ℕ) (node : Node) → depth ≡ 0 → top steps depth node ≡ node
at_root steps depth node e = ap (λ n. top steps n node) e

pub none_behind : (steps : List Step) (depth : ℕ) (node : Node) → depth ≡ 0 → behind steps depth node ≡ []
none_behind steps depth node e = ap (λ n. behind steps n node) e

-- what waits, where something does
pub reads_on : (reads : Bool) (steps : List Step) (depth : ℕ) (node : Node) → 0 < length (waiting_of reads steps depth node) → reads ≡ true
reads_on true steps depth node some = refl
reads_on false steps depth node some = absurd (omega arith)
