use Rattle.std.proofs.Common.{inl, inr, ◌≡◌, ◌≢◌, ℕ, ◌+◌, ◌-◌, ◌≤◌, ◌<◌, Bool, true, false, not, List, [], ◌∷◌, length, get_or, set, drop, refl, sym, ◌∙◌, ap, subst, arith}
use Rattle.std.proofs.lemmas.Bool.{cases_eq, cases_lt}
use Rattle.std.proofs.lemmas.List.{get_or-set_other, get_or-set_same, length-set, drop-set, drop_more, drop_all}
use Rattle.flow_net.specs.declared.pipes.Pipe.{Pipe}
use Rattle.flow_net.specs.declared.pipes.Use.{Use}
use Rattle.flow_net.specs.declared.links.Link.{Link}
use Rattle.flow_net.specs.Nets.{NetValue, IsNet}
use Rattle.flow_net.specs.Paths.{use_of, start_of, end_of, left_on, IsPath}
use Rattle.flow_net.specs.Links.{Adjacency, link_at, row_of, IsAdjacency, IsLinked}
use Rattle.flow_net.specs.Levels.{level_of, IsReached, IsSearched}
use Rattle.flow_net.specs.Trails.{IsGood, Rises, IsTrail, IsWalk, IsLevelled, IsLifted, AreBounded, HaveWays}
use Rattle.flow_net.proofs.Ready.{no_use}

-- a use turned round begins where the other way ends
turns_start : (ps : List Pipe) (i : ℕ) (b : Bool) → start_of ps (use_of i (not b)) ≡ end_of ps (use_of i b)
turns_start ps i true = refl
turns_start ps i false = refl

turns_end : (ps : List Pipe) (i : ℕ) (b : Bool) → end_of ps (use_of i (not b)) ≡ start_of ps (use_of i b)
turns_end ps i true = refl
turns_end ps i false = refl

-- a pointer is put within its row
pub bounded_after :
    (nodes : ℕ) (adjacency : Adjacency) (next : List ℕ) (v y : ℕ) → y ≤ length (row_of adjacency v) → AreBounded nodes adjacency next →
    length next ≡ nodes → v < nodes → AreBounded nodes adjacency (set next v y)
bounded_after nodes adjacency next v y within bounded sized known u h =
    elim (cases_eq u v) [
      | inl same ↦
          subst (λ n. get_or (set next v y) n 0 ≤ length (row_of adjacency n)) (sym same)
          (omega (arith, get_or-set_same next v y 0 (omega (arith, sized, known)), within))
      | inr differ ↦ omega (arith, get_or-set_other next v u y 0 differ, bounded u h)
    ]

-- a walk begins at the sink
pub walk_begins :
    (net : NetValue) (xs : List ℕ) (power : ℕ) (levels : List ℕ) (sink : ℕ) (path : List Use) →
    sink < net.nodes → level_of levels sink ≡ length path → IsWalk net xs power levels sink path sink
walk_begins net xs power levels sink path known depth =
    let none : drop (level_of levels sink) path ≡ [] = drop_all (level_of levels sink) path (omega (arith, depth)) in
    let nowhere : IsTrail net.pipes xs power levels sink sink [] = record { leads = refl; rises = tt; left = tt } in
    record {
      known = known;
      low = omega (arith, depth);
      trail = subst (λ us. IsTrail net.pipes xs power levels sink sink us) (sym none) nowhere;
    }

-- one use more in front
pub walk_down :
    (net : NetValue) (adjacency : Adjacency) (xs : List ℕ) (power : ℕ) (levels : List ℕ) (sink : ℕ) (path : List Use) (node place : ℕ) →
    IsNet net → IsAdjacency net adjacency → IsWalk net xs power levels sink path node →
    place < length (row_of adjacency node) → IsGood net.pipes xs power levels (level_of levels node) (link_at (row_of adjacency node) place) →
    IsWalk net xs power levels sink
    (set path (level_of levels node - 1) (use_of (link_at (row_of adjacency node) place).pipe (not (link_at (row_of adjacency node) place).back)))
    (link_at (row_of adjacency node) place).far
walk_down net adjacency xs power levels sink path node place lawful are state within good =
    let link = link_at (row_of adjacency node) place in
    let step = use_of link.pipe (not link.back) in
    let at = are.links node place state.known within in
    let level = level_of levels link.far in
    let index : level_of levels node - 1 ≡ level = omega (arith, good.lower) in
    let inside : level < length path = omega (arith, good.lower, state.low) in
    let cut : drop level (set path (level_of levels node - 1) step) ≡ step ∷ drop (level_of levels node) path =
    subst (λ k. drop level (set path k step) ≡ step ∷ drop (level_of levels node) path) (sym index)
    (subst (λ k. drop level (set path level step) ≡ step ∷ drop k path) good.lower (drop-set path level step inside)) in
    let begins : start_of net.pipes step ≡ link.far = turns_start net.pipes link.pipe link.back ∙ at.far in
    let ends : end_of net.pipes step ≡ node = turns_end net.pipes link.pipe link.back ∙ at.near in
    let rest = drop (level_of levels node) path in
    let trail : IsTrail net.pipes xs power levels link.far sink (step ∷ rest) =
    record {
      leads = (at.known, begins, subst (λ v. IsPath net.pipes v sink rest) (sym ends) state.trail.leads);
      rises = (
        subst (λ v. level_of levels v ≡ level + 1) (sym ends) (sym good.lower),
        subst (λ k. Rises net.pipes levels k rest) (sym good.lower) state.trail.rises,
      );
      left = (good.left, state.trail.left);
    } in
    record {
      known = subst (λ v. v < net.nodes) at.far (far_known link.back link.pipe at.known);
      low = subst (λ n. level ≤ n) (sym (length-set path (level_of levels node - 1) step)) (omega (arith, inside));
      trail = subst (λ us. IsTrail net.pipes xs power levels link.far sink us) (sym cut) trail;
    }
  where
    far_known : (b : Bool) (i : ℕ) → i < length net.pipes → end_of net.pipes (use_of i b) < net.nodes
    far_known true i l = (lawful.pipes i l).from_is_node
    far_known false i l = (lawful.pipes i l).to_is_node

-- the path goes on where the walk is not at the sink
pub walk_goes_on :
    (net : NetValue) (xs : List ℕ) (power : ℕ) (levels : List ℕ) (sink : ℕ) (path : List Use) (node : ℕ) →
    IsWalk net xs power levels sink path node → node ≢ sink → level_of levels node < length path
walk_goes_on net xs power levels sink path node state differ =
    elim (cases_lt (level_of levels node) (length path)) as (λ _. level_of levels node < length path) [
      | inl below ↦ below
      | inr past ↦
          let none : drop (level_of levels node) path ≡ [] = drop_all (level_of levels node) path past in
          absurd (differ (subst (λ us. IsPath net.pipes node sink us) none state.trail.leads))
    ]

-- the parts of a path at its first use
pub record AtFirst (net : NetValue) (xs : List ℕ) (power : ℕ) (levels : List ℕ) (sink : ℕ) (path : List Use) (node : ℕ) (u : Use) : Type 0 where
  pub known : u.pipe < length net.pipes
  pub level : level_of levels (end_of net.pipes u) ≡ level_of levels node + 1
  pub trail : IsTrail net.pipes xs power levels (end_of net.pipes u) sink (drop (level_of levels node + 1) path)

pub at_first :
    (net : NetValue) (xs : List ℕ) (power : ℕ) (levels : List ℕ) (sink : ℕ) (path : List Use) (node : ℕ) →
    IsWalk net xs power levels sink path node → level_of levels node < length path →
    AtFirst net xs power levels sink path node (get_or path (level_of levels node) no_use)
at_first net xs power levels sink path node state h =
    let u = get_or path (level_of levels node) no_use in
    let rest = drop (level_of levels node + 1) path in
    let cut : drop (level_of levels node) path ≡ u ∷ rest = drop_more path (level_of levels node) no_use h in
    let trail = subst (λ us. IsTrail net.pipes xs power levels node sink us) cut state.trail in
    record {
      known = trail.leads.0;
      level = trail.rises.0;
      trail =
          record {
            leads = trail.leads.2;
            rises = subst (λ k. Rises net.pipes levels k rest) (sym trail.rises.0) trail.rises.1;
            left = trail.left.1;
          };
    }

-- a path that rises above a node's level still does where the node is lifted
rises_lifted :
    (ps : List Pipe) (levels levels2 : List ℕ) (v level : ℕ) (us : List Use) → IsLifted v levels levels2 → level_of levels v ≤ level →
    Rises ps levels level us → Rises ps levels2 level us
rises_lifted ps levels levels2 v level [] lifted low rises = tt
rises_lifted ps levels levels2 v level (u ∷ us) lifted low rises =
    let differ : end_of ps u ≢ v =
    λ e. let same : level_of levels (end_of ps u) ≡ level_of levels v = ap (λ n. level_of levels n) e in
    absurd (omega (arith, same, rises.0, low)) in
    (lifted.others (end_of ps u) differ ∙ rises.0, rises_lifted ps levels levels2 v (level + 1) us lifted (omega (arith, low)) rises.1)

-- where a node is lifted the walk goes on at the node behind
pub walk_lifted :
    (net : NetValue) (xs : List ℕ) (power : ℕ) (levels levels2 : List ℕ) (sink : ℕ) (path : List Use) (node : ℕ) →
    IsNet net → IsLifted node levels levels2 → IsWalk net xs power levels sink path node → level_of levels node < length path →
    IsWalk net xs power levels2 sink path (end_of net.pipes (get_or path (level_of levels node) no_use))
walk_lifted net xs power levels levels2 sink path node lawful lifted state h =
    let u = get_or path (level_of levels node) no_use in
    let behind = end_of net.pipes u in
    let first = at_first net xs power levels sink path node state h in
    let rest = drop (level_of levels node + 1) path in
    let differ : behind ≢ node =
    λ e. let same : level_of levels behind ≡ level_of levels node = ap (λ n. level_of levels n) e in absurd (omega (arith, same, first.level)) in
    let stays : level_of levels2 behind ≡ level_of levels behind = lifted.others behind differ in
    let rises : Rises net.pipes levels2 (level_of levels behind) rest =
    rises_lifted net.pipes levels levels2 node (level_of levels behind) rest lifted (omega (arith, first.level)) first.trail.rises in
    let trail : IsTrail net.pipes xs power levels2 behind sink rest =
    record {
      leads = first.trail.leads;
      rises = subst (λ k. Rises net.pipes levels2 k rest) (sym stays) rises;
      left = first.trail.left;
    } in
    let at : level_of levels node + 1 ≡ level_of levels2 behind = omega (arith, stays, first.level) in
    record {
      known = end_known u.back u.pipe first.known;
      low = omega (arith, at, h);
      trail = subst (λ k. IsTrail net.pipes xs power levels2 behind sink (drop k path)) at trail;
    }
  where
    end_known : (b : Bool) (i : ℕ) → i < length net.pipes → end_of net.pipes (use_of i b) < net.nodes
    end_known true i l = (lawful.pipes i l).from_is_node
    end_known false i l = (lawful.pipes i l).to_is_node

-- the source keeps the only level 0 where another node is lifted
pub levelled_lifted :
    (nodes source node : ℕ) (levels levels2 : List ℕ) → node ≢ source → length levels2 ≡ length levels → IsLifted node levels levels2 →
    IsLevelled nodes source levels → IsLevelled nodes source levels2
levelled_lifted nodes source node levels levels2 differ sized lifted state =
    record {
      each = sized ∙ state.each;
      begin = lifted.others source (λ e. differ (sym e)) ∙ state.begin;
      only =
          λ v h z.
          elim (cases_eq v node) as (λ _. v ≡ source) [
            | inl same ↦
                let mine : level_of levels2 v ≡ level_of levels2 node = ap (λ n. level_of levels2 n) same in
                absurd (omega (arith, mine, z, lifted.above))
            | inr other ↦ state.only v h (sym (lifted.others v other) ∙ z)
          ];
    }

-- each node's way stays where its pointer stops at the first good link
pub ways_down :
    (ps : List Pipe) (adjacency : Adjacency) (xs : List ℕ) (power : ℕ) (levels : List ℕ) (nodes source : ℕ) (next : List ℕ) (node place : ℕ) →
    length next ≡ nodes → node < nodes →
    ((k : ℕ) → get_or next node 0 ≤ k → k < place → ¬ IsGood ps xs power levels (level_of levels node) (link_at (row_of adjacency node) k)) →
    HaveWays ps xs power levels adjacency nodes source next → HaveWays ps xs power levels adjacency nodes source (set next node place)
ways_down ps adjacency xs power levels nodes source next node place sized known first ways v h r differ =
    let way = ways v h r differ in
    record {
      place = way.place;
      behind =
          elim (cases_eq v node) [
            | inl same ↦
                let mine : get_or (set next node place) v 0 ≡ place =
                subst (λ n. get_or (set next node place) n 0 ≡ place) (sym same) (get_or-set_same next node place 0 (omega (arith, sized, known))) in
                elim (cases_lt way.place place) [
                  | inl before ↦
                      absurd (first way.place (subst (λ n. get_or next n 0 ≤ way.place) same way.behind) before
                      (subst (λ n. IsGood ps xs power levels (level_of levels n) (link_at (row_of adjacency n) way.place)) same way.good))
                  | inr behind ↦ omega (arith, mine, behind)
                ]
            | inr other ↦ omega (arith, get_or-set_other next node v place 0 other, way.behind)
          ];
      within = way.within;
      good = way.good;
    }

-- where each node has a way, no pointer reaches the end of its row
pub ways_go_on :
    (ps : List Pipe) (adjacency : Adjacency) (xs : List ℕ) (power : ℕ) (levels : List ℕ) (nodes source : ℕ) (next : List ℕ) (node : ℕ) →
    HaveWays ps xs power levels adjacency nodes source next → node < nodes → IsReached levels node → node ≢ source →
    ((k : ℕ) → get_or next node 0 ≤ k → k < length (row_of adjacency node) → ¬ IsGood ps xs power levels (level_of levels node) (link_at (row_of adjacency node) k)) →
    ⊥
ways_go_on ps adjacency xs power levels nodes source next node ways known r differ none =
    let way = ways node known r differ in none way.place way.behind way.within way.good

-- what a scan of a row found
pub record FoundPlace (ps : List Pipe) (xs : List ℕ) (power : ℕ) (levels : List ℕ) (level : ℕ) (row : List Link) (from place : ℕ) : Type 0 where
  pub behind : from ≤ place
  pub within : place ≤ length row
  pub good : place < length row → IsGood ps xs power levels level (link_at row place)
  pub first : (k : ℕ) → from ≤ k → k < place → ¬ IsGood ps xs power levels level (link_at row k)

pub found_at :
    (ps ps2 : List Pipe) (xs : List ℕ) (power : ℕ) (levels : List ℕ) (level level2 : ℕ) (row row2 : List Link) (from place : ℕ) →
    ps ≡ ps2 → level ≡ level2 → row ≡ row2 → FoundPlace ps xs power levels level row from place →
    FoundPlace ps2 xs power levels level2 row2 from place
found_at ps ps2 xs power levels level level2 row row2 from place ep el er found =
    subst (λ (p : List Pipe). FoundPlace p xs power levels level2 row2 from place) ep
    (subst (λ (n : ℕ). FoundPlace ps xs power levels n row2 from place) el
    (subst (λ (r : List Link). FoundPlace ps xs power levels level r from place) er found))

-- after a search each node that was reached has a way, from the start of its row on
pub ways_begin :
    (net : NetValue) (adjacency : Adjacency) (xs : List ℕ) (power : ℕ) (levels : List ℕ) (source sink : ℕ) (next : List ℕ) (found : Bool) →
    IsAdjacency net adjacency → IsSearched net.pipes xs power false source sink levels found → ((v : ℕ) → get_or next v 0 ≡ 0) →
    HaveWays net.pipes xs power levels adjacency net.nodes source next
ways_begin net adjacency xs power levels source sink next found are searched clear v h r differ =
    let p = searched.parents v r differ in
    let at : start_of net.pipes (use_of p.pipe (not p.back)) ≡ v = turns_start net.pipes p.pipe p.back ∙ p.ends in
    let linked : IsLinked net.pipes (row_of adjacency v) p.pipe (not p.back) =
    subst (λ n. IsLinked net.pipes (row_of adjacency n) p.pipe (not p.back)) at (are.complete p.pipe (not p.back) p.known) in
    let link = link_at (row_of adjacency v) linked.place in
    let is = are.links v linked.place h linked.within in
    let far : link.far ≡ start_of net.pipes (use_of p.pipe p.back) =
    sym is.far ∙ (ap (λ n. end_of net.pipes (use_of n link.back)) linked.pipe ∙ (ap (λ b. end_of net.pipes (use_of p.pipe b)) linked.way ∙ turns_end net.pipes p.pipe p.back)) in
    let left : power ≤ left_on net.pipes xs (use_of link.pipe (not link.back)) =
    subst (λ n. power ≤ left_on net.pipes xs (use_of n (not link.back))) (sym linked.pipe)
    (subst (λ b. power ≤ left_on net.pipes xs (use_of p.pipe (not b))) (sym linked.way)
    (subst (λ b. power ≤ left_on net.pipes xs (use_of p.pipe b)) (sym (twice p.back)) p.left)) in
    record {
      place = linked.place;
      behind = omega (arith, clear v);
      within = linked.within;
      good = record { lower = ap (λ n. level_of levels n + 1) far ∙ p.lower; left = left };
    }
  where
    twice : (b : Bool) → not (not b) ≡ b
    twice true = refl
    twice false = refl

-- only the start has level 0
pub only_start :
    (ps : List Pipe) (xs : List ℕ) (power : ℕ) (levels : List ℕ) (source sink : ℕ) (found : Bool) →
    IsSearched ps xs power false source sink levels found → (v : ℕ) → level_of levels v ≡ 0 → v ≡ source
only_start ps xs power levels source sink found searched v zero_is =
    elim (cases_eq v source) as (λ _. v ≡ source) [
      | inl same ↦ same
      | inr differ ↦
          let p = searched.parents v (omega (arith, zero_is)) differ in
          absurd (omega (arith, p.lower, zero_is))
    ]
