use Rattle.std.proofs.Common.{inl, inr, ◌≡◌, ◌≢◌, ℕ, suc, ◌+◌, ◌≤◌, ◌<◌, Bool, true, false, cond, not, List, [], ◌∷◌, length, get_or, set, refl, sym, ◌∙◌, ap, subst, arith}
use Rattle.std.proofs.lemmas.Bool.{cases_eq, cases_lt, lt-ltb, le-ltb, ltb-true}
use Rattle.std.specs.Prelude.{count_by}
use Rattle.std.proofs.lemmas.List.Sums.{sum_by-cons}
use Rattle.std.proofs.lemmas.List.{get_or-set_other, get_or-set_same}
use Rattle.flow_net.specs.declared.pipes.Pipe.{Pipe}
use Rattle.flow_net.specs.Nets.{NetValue}
use Rattle.flow_net.specs.Paths.{use_of, start_of, end_of, left_on}
use Rattle.flow_net.specs.Links.{Adjacency, link_at, row_of, IsAdjacency, IsLinked}
use Rattle.flow_net.specs.Levels.{unreached, level_of, IsReached, reached, turned, is_unreached, IsQueue, IsClosed, HasParent, LeadsFar, IsNext, Spreads, IsSearched}
use Rattle.flow_net.proofs.Queue.{reached_kept, queue_marked}

-- the state of a search before the node at the head of its queue
pub record Searching (ps : List Pipe) (xs : List ℕ) (power : ℕ) (backward : Bool) (start goal : ℕ) (nodes : ℕ) (levels queue : List ℕ) (count head : ℕ) : Type 0 where
  pub queue_is : IsQueue nodes levels queue count
  pub head_in : head ≤ count
  pub begin : level_of levels start ≡ 0
  pub parents : (v : ℕ) → IsReached levels v → v ≢ start → HasParent ps xs power backward goal levels v
  pub within :
      (s : ℕ → Bool) → IsClosed ps xs power backward s → s start ≡ true → (v : ℕ) → IsReached levels v → s v ≡ true
  pub done :
      (j : ℕ) → j < head → get_or queue j 0 ≢ goal → (i : ℕ) (b : Bool) → i < length ps → start_of ps (use_of i b) ≡ get_or queue j 0 →
      power ≤ left_on ps xs (use_of i (turned backward b)) → IsReached levels (end_of ps (use_of i b))

module _ (net : NetValue) (adjacency : Adjacency) (xs : List ℕ) (power : ℕ) (backward : Bool) (start goal : ℕ) (levels queue : List ℕ) (count head : ℕ)
    (few : net.nodes < unreached) (are : IsAdjacency net adjacency) (state : Searching net.pipes xs power backward start goal net.nodes levels queue count head) (h : head < count) (aside : get_or queue head 0 ≢ goal)
    (levels2 queue2 : List ℕ) (count2 : ℕ)
    (is2 : IsQueue net.nodes levels2 queue2 count2)
    (spreads : Spreads (IsNext net.pipes xs power backward (row_of adjacency (get_or queue head 0)) (length (row_of adjacency (get_or queue head 0)))) (level_of levels (get_or queue head 0)) levels levels2 queue queue2 count count2)
    (crossed : (k : ℕ) → k < length (row_of adjacency (get_or queue head 0)) → LeadsFar net.pipes xs power backward (link_at (row_of adjacency (get_or queue head 0)) k) → IsReached levels2 (link_at (row_of adjacency (get_or queue head 0)) k).far) where
  abbrev node : ℕ
  node = get_or queue head 0

  node_reached : IsReached levels node
  node_reached = omega (arith, (state.queue_is.queued head h).1, state.queue_is.counted, few, h)

  keep : (v : ℕ) → IsReached levels v → IsReached levels2 v
  keep v r = reached_kept levels levels2 v (spreads.kept v r) r

  parent : (v : ℕ) → IsReached levels2 v → v ≢ start → HasParent net.pipes xs power backward goal levels2 v
  parent v r differ =
      elim (spreads.near v r) as (λ _. HasParent net.pipes xs power backward goal levels2 v) [
        | inl old ↦
            let p = state.parents v old differ in
            let up : IsReached levels (start_of net.pipes (use_of p.pipe p.back)) = omega (arith, p.lower, old) in
            record {
              pipe = p.pipe;
              back = p.back;
              known = p.known;
              ends = p.ends;
              left = p.left;
              apart = p.apart;
              lower = ap (λ n. n + 1) (spreads.kept (start_of net.pipes (use_of p.pipe p.back)) up) ∙ (p.lower ∙ sym (spreads.kept v old));
            }
        | inr able ↦
            let link = link_at (row_of adjacency node) able.0.0 in
            let at = are.links node able.0.0 (state.queue_is.queued head h).0 able.0.1 in
            record {
              pipe = link.pipe;
              back = link.back;
              known = at.known;
              ends = at.far ∙ able.0.2;
              left = able.0.3;
              apart = λ e. aside (sym at.near ∙ e);
              lower = ap (λ n. level_of levels2 n + 1) at.near ∙ (ap (λ n. n + 1) (spreads.kept node node_reached) ∙ sym able.1);
            }
      ]

  inside :
      (s : ℕ → Bool) → IsClosed net.pipes xs power backward s → s start ≡ true → (v : ℕ) → IsReached levels2 v → s v ≡ true
  inside s closed at v r =
      elim (spreads.near v r) as (λ _. s v ≡ true) [
        | inl old ↦ state.within s closed at v old
        | inr able ↦
            let link = link_at (row_of adjacency node) able.0.0 in
            let is = are.links node able.0.0 (state.queue_is.queued head h).0 able.0.1 in
            let here : s (start_of net.pipes (use_of link.pipe link.back)) ≡ true = ap s is.near ∙ state.within s closed at node node_reached in
            sym (ap s (is.far ∙ able.0.2)) ∙ closed link.pipe link.back is.known able.0.3 here
      ]

  done_here :
      (i : ℕ) (b : Bool) → i < length net.pipes → start_of net.pipes (use_of i b) ≡ node →
      power ≤ left_on net.pipes xs (use_of i (turned backward b)) → IsReached levels2 (end_of net.pipes (use_of i b))
  done_here i b l at left =
      let linked : IsLinked net.pipes (row_of adjacency node) i b =
      subst (λ v. IsLinked net.pipes (row_of adjacency v) i b) at (are.complete i b l) in
      let link = link_at (row_of adjacency node) linked.place in
      let is = are.links node linked.place (state.queue_is.queued head h).0 linked.within in
      let leads : LeadsFar net.pipes xs power backward link =
      subst (λ n. power ≤ left_on net.pipes xs (use_of n (turned backward link.back))) (sym linked.pipe)
      (subst (λ c. power ≤ left_on net.pipes xs (use_of i (turned backward c))) (sym linked.way) left) in
      let same : link.far ≡ end_of net.pipes (use_of i b) =
      sym is.far ∙ (ap (λ n. end_of net.pipes (use_of n link.back)) linked.pipe ∙ ap (λ c. end_of net.pipes (use_of i c)) linked.way) in
      subst (λ v. IsReached levels2 v) same (crossed linked.place linked.within leads)

  pub search_step : Searching net.pipes xs power backward start goal net.nodes levels2 queue2 count2 (head + 1)
  search_step =
      record {
        queue_is = is2;
        head_in = omega (arith, spreads.grows, h);
        begin = spreads.kept start (omega (arith, state.begin)) ∙ state.begin;
        parents = parent;
        within = inside;
        done =
            λ j l other i b m at left.
            elim (cases_lt j head) as (λ _. IsReached levels2 (end_of net.pipes (use_of i b))) [
              | inl old ↦
                  keep (end_of net.pipes (use_of i b))
                  (state.done j old (λ e. other (spreads.queue j (omega arith) ∙ e)) i b m (at ∙ spreads.queue j (omega arith)) left)
              | inr now ↦
                  let same : j ≡ head = omega arith in
                  done_here i b m (at ∙ (spreads.queue j (omega arith) ∙ ap (λ n. get_or queue n 0) same)) left
            ];
      }

-- the goal at the head of the queue is left aside
pub search_passes :
    (ps : List Pipe) (xs : List ℕ) (power : ℕ) (backward : Bool) (start goal nodes : ℕ) (levels queue : List ℕ) (count head : ℕ) →
    Searching ps xs power backward start goal nodes levels queue count head → head < count → get_or queue head 0 ≡ goal →
    Searching ps xs power backward start goal nodes levels queue count (head + 1)
search_passes ps xs power backward start goal nodes levels queue count head state h is =
    record {
      queue_is = state.queue_is;
      head_in = omega (arith, h);
      begin = state.begin;
      parents = state.parents;
      within = state.within;
      done =
          λ j l other i b m at left.
          elim (cases_lt j head) as (λ _. IsReached levels (end_of ps (use_of i b))) [
            | inl old ↦ state.done j old other i b m at left
            | inr now ↦
                let same : j ≡ head = omega arith in
                absurd (other (ap (λ n. get_or queue n 0) same ∙ is))
          ];
    }

-- a search whose queue is done and which missed its goal reached a closed set
pub searched_closed :
    (ps : List Pipe) (xs : List ℕ) (power : ℕ) (backward : Bool) (start goal nodes : ℕ) (levels queue : List ℕ) (count head : ℕ) →
    Searching ps xs power backward start goal nodes levels queue count head → count ≤ head → level_of levels goal ≡ unreached →
    IsClosed ps xs power backward (reached levels)
searched_closed ps xs power backward start goal nodes levels queue count head state all missed i b l left at =
    let v = start_of ps (use_of i b) in
    let w = end_of ps (use_of i b) in
    let r = ltb-true (level_of levels v) unreached at in
    let found = state.queue_is.listed v r in
    let other : get_or queue found.0 0 ≢ goal =
    λ e.
    let same : level_of levels v ≡ level_of levels goal = ap (λ n. level_of levels n) (sym found.2 ∙ e) in
    absurd (omega (arith, same, missed, r)) in
    let e = state.done found.0 (let f = found.1 in omega (arith, f, all)) other i b l (sym found.2) left in
    lt-ltb (level_of levels w) unreached e

-- no level is as high as the number of nodes
pub searched_low :
    (ps : List Pipe) (xs : List ℕ) (power : ℕ) (backward : Bool) (start goal nodes : ℕ) (levels queue : List ℕ) (count head : ℕ) →
    Searching ps xs power backward start goal nodes levels queue count head → (v : ℕ) → IsReached levels v → level_of levels v < nodes
searched_low ps xs power backward start goal nodes levels queue count head state v r =
    let found = state.queue_is.listed v r in
    let at : level_of levels v ≤ found.0 = subst (λ n. level_of levels n ≤ found.0) found.2 (state.queue_is.queued found.0 found.1).1 in
    omega (arith, at, found.1, state.queue_is.counted)

-- a search that reached its goal
pub searched_found :
    (ps : List Pipe) (xs : List ℕ) (power : ℕ) (backward : Bool) (start goal nodes : ℕ) (levels queue : List ℕ) (count head : ℕ) →
    Searching ps xs power backward start goal nodes levels queue count head → length levels ≡ nodes → IsReached levels goal →
    IsSearched ps xs power backward start goal levels true
searched_found ps xs power backward start goal nodes levels queue count head state sized r =
    record {
      begin = state.begin;
      low = λ v h. omega (arith, searched_low ps xs power backward start goal nodes levels queue count head state v h, sized);
      parents = state.parents;
      within = state.within;
      goal_reached = λ _. r;
      goal_missed = λ e. absurd (cc e);
      closed = λ e. absurd (cc e);
    }

-- a search whose queue is done, and which did not reach its goal
pub searched_missed :
    (ps : List Pipe) (xs : List ℕ) (power : ℕ) (backward : Bool) (start goal nodes : ℕ) (levels queue : List ℕ) (count head : ℕ) →
    Searching ps xs power backward start goal nodes levels queue count head → length levels ≡ nodes → count ≤ head →
    level_of levels goal ≡ unreached → IsSearched ps xs power backward start goal levels false
searched_missed ps xs power backward start goal nodes levels queue count head state sized all missed =
    record {
      begin = state.begin;
      low = λ v h. omega (arith, searched_low ps xs power backward start goal nodes levels queue count head state v h, sized);
      parents = state.parents;
      within = state.within;
      goal_reached = λ e. absurd (cc e);
      goal_missed = λ _. missed;
      closed = λ _. searched_closed ps xs power backward start goal nodes levels queue count head state all missed;
    }

all_unreached : (xs : List ℕ) → ((v : ℕ) → get_or xs v unreached ≡ unreached) → count_by is_unreached xs ≡ length xs
all_unreached [] h = refl
all_unreached (x ∷ xs) h =
    let one : ◌≡◌ {A = ℕ} (cond (is_unreached x) 1 0) 1 = ap (λ b. cond {A = ℕ} (not b) 1 0) (le-ltb x unreached (let e = h 0 in omega (arith, e))) in
    omega (arith, sum_by-cons (λ (y : ℕ). cond {A = ℕ} (is_unreached y) 1 0) x xs, all_unreached xs (λ v. h (suc v)), one)

-- the state in which a search begins
pub search_begins :
    (ps : List Pipe) (xs : List ℕ) (power : ℕ) (backward : Bool) (start goal nodes : ℕ) (levels queue : List ℕ) →
    nodes < unreached → start < nodes → length levels ≡ nodes → length queue ≡ nodes → ((v : ℕ) → level_of levels v ≡ unreached) →
    Searching ps xs power backward start goal nodes (set levels start 0) (set queue 0 start) 1 0
search_begins ps xs power backward start goal nodes levels queue few known sized each none =
    let empty : IsQueue nodes levels queue 0 =
    record {
      counted = omega (arith, all_unreached levels none, sized);
      queued = λ j h. absurd (omega arith);
      listed = λ v h. absurd (omega (arith, none v, h));
    } in
    let one : ◌≡◌ {A = ℕ} (0 + 1) 1 = omega arith in
    let begin : level_of (set levels start 0) start ≡ 0 = get_or-set_same levels start 0 unreached (omega (arith, sized, known)) in
    let only : (v : ℕ) → IsReached (set levels start 0) v → v ≡ start =
    λ v r.
    elim (cases_eq v start) as (λ _. v ≡ start) [
      | inl same ↦ same
      | inr differ ↦ absurd (omega (arith, get_or-set_other levels start v 0 unreached differ, none v, r))
    ] in
    record {
      queue_is =
          subst (λ n. IsQueue nodes (set levels start 0) (set queue 0 start) n) one
          (queue_marked nodes levels queue 0 start 0 sized each few known (none start) (omega arith) empty);
      head_in = omega arith;
      begin = begin;
      parents = λ v r differ. absurd (differ (only v r));
      within = λ s closed at v r. ap s (only v r) ∙ at;
      done = λ j h. absurd (omega arith);
    }
