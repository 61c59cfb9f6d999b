-- What is kept of the lines, from line to line.
use Rattle.std.proofs.Common.{◌≡◌, ℕ, ◌+◌, ◌-◌, ◌<◌, ◌^◌, List, [], ◌∷◌, length, drop, get_or, Bool, true, Option, Some, None, refl, sym, ◌∙◌, ap, subst, arith}
use Rattle.std.specs.Prelude.{option_map, IfSome, IfNone}
use Rattle.std.specs.List.{AllByRecursion}
use Rattle.std.specs.Result.{result_unwrap_or}
use Rattle.std.proofs.lemmas.List.{length-set}
use Rattle.std.proofs.lemmas.List.FromFn.{length-map-range_with_len}
use Rattle.hex.specs.Hex.{decode_of}
use Rattle.seed_text.specs.SetTexts.{has_file}
use Rattle.seed_model.specs.declared.node.Node.{Node}
use Rattle.seed_model.specs.declared.range.Range.{Range}
use Rattle.seed_model.specs.Nodes.{undecided_node, is_free, put_inside, put_outside}
use Rattle.seed_model.specs.Tables.{TableValue}
use Rattle.bound_cert.specs.declared.heading.Claimed.{Claimed}
use Rattle.bound_cert.specs.declared.place.Place.{Place}
use Rattle.bound_cert.specs.Documents.{bound_entry}
use Rattle.bound_cert.specs.Grammar.{after}
use Rattle.bound_cert.specs.Judgements.{Told, Rule, Difference, node_of, nothing_told, told_by, line_of}
use Rattle.bound_cert.specs.Lines.{Entry, Pinned, Planned, Branch, Low, High, IsLine}
use Rattle.bound_cert.specs.Sets.{root_of, set_named}
use Rattle.cert_rules.specs.Judged.{Judges}
use Rattle.cert_check.specs.declared.kept.Broken.{Broken}
use Rattle.cert_check.specs.declared.kept.Kept.{Kept}
use Rattle.cert_check.specs.Keeping.{IsSized, IsAt, IsKept, KeepsTold, Takes, broken_here, replicated_of, sums_of}
use Rattle.cert_check.specs.Paths.{PathValue, node_in, no_node}
use Rattle.cert_check.proofs.Placings.{pins_at, plan_at, bound_at, low_at, high_at, branch_at}

-- a line on which a failure carries the line itself
takes_here : (table : TableValue) (old new : Kept) (e : Entry) (next : Place) (rule : Option ℕ) → ((told : Told) → KeepsTold table old told → Judges table told e rule)
    → ((told : Told) (r : Rule) (number : ℕ) → line_of told e r number ≡ number)
    → (rule ≡ None → IsKept table new × ((told : Told) → KeepsTold table old told → KeepsTold table new (told_by table.files told next e)))
    → Takes table old new e next (broken_here rule)
takes_here table old new e next None judged line more = record { judged = judged; fits = (more refl).0; told = (more refl).1 }
takes_here table old new e next (Some r) judged line more = record {
  judged = λ told h. let x = judged told h in (x.0, x.1, x.2, λ number. line told x.0 number ∙ omega arith);
  fits = tt;
  told = tt;
}

pub as_said : (table : TableValue) (old new : Kept) (e : Entry) (next : Place) (rule : Option ℕ) (result : Option Broken) → result ≡ broken_here rule → Takes table old new e next (broken_here rule) → Takes table old new e next result
as_said table old new e next rule result is t = subst (λ (r : Option Broken). Takes table old new e next r) (sym is) t

if_none : (rule : Option ℕ) (P : Type 0) → rule ≡ None → IfNone rule P → P
if_none None P e h = h
if_none (Some r) P e h = absurd (let f : Some r ≡ None = e in cc)

none_left : (P : Node → Type 0) (nodes : List Node) → nodes ≡ [] → AllByRecursion P nodes
none_left P nodes e = subst (λ ns. AllByRecursion P ns) (sym e) tt

no_nodes : (nodes : List Node) → length nodes ≡ 0 → nodes ≡ []
no_nodes [] e = refl
no_nodes (n ∷ nodes) e = absurd (omega (arith, e))

pub nothing_waits : (table : TableValue) (old : Kept) (go stay : List ℕ) (next : Place) → IsKept table old → after old.place (Pinned go stay) ≡ Some next → old.path.waiting ≡ []
nothing_waits table old go stay next k h = no_nodes old.path.waiting (pins_at old.place next go stay (length old.path.waiting) old.leaf.class old.leaf.gives h k.at).0

pub plan_waits : (table : TableValue) (old : Kept) (word : List ℕ) (m r : ℕ) (next : Place) → IsKept table old → after old.place (Planned word m r) ≡ Some next → old.path.waiting ≡ []
plan_waits table old word m r next k h = no_nodes old.path.waiting (plan_at old.place next word m r (length old.path.waiting) old.leaf.class old.leaf.gives h k.at).0

pub bound_waits : (table : TableValue) (old : Kept) (bound : Option ℕ) (next : Place) → IsKept table old → after old.place (bound_entry bound) ≡ Some next → old.path.waiting ≡ []
bound_waits table old bound next k h = no_nodes old.path.waiting (bound_at old.place next bound (length old.path.waiting) old.leaf.class old.leaf.gives h k.at).0

pub pins_take : (table : TableValue) (old : Kept) (path : PathValue) (go stay : List ℕ) (next : Place) (rule : Option ℕ) → IsKept table old → after old.place (Pinned go stay) ≡ Some next
    → ((told : Told) → Judges table told (Pinned go stay) rule) → IfNone rule (path.root ≡ root_of table.files (Some (record { go = go; stay = stay })))
    → length path.root.inside ≡ table.files → length path.root.outside ≡ table.files → path.waiting ≡ []
    → Takes table old (record old { path = path; pinned = true; place = next }) (Pinned go stay) next (broken_here rule)
pins_take table old path go stay next rule k h judged root inside outside none =
    let was : old.path.waiting ≡ [] = nothing_waits table old go stay next k h in
    let at : IsAt next (length old.path.waiting) old.leaf.class old.leaf.gives = (pins_at old.place next go stay (length old.path.waiting) old.leaf.class old.leaf.gives h k.at).1 in
    takes_here table old (record old { path = path; pinned = true; place = next }) (Pinned go stay) next rule (λ told _. judged told) (λ told r number. refl) (λ e. (
      record {
        range = k.range;
        bound = k.bound;
        plan = k.plan;
        first = k.first;
        second = k.second;
        root = record { inside = inside; outside = outside };
        nodes = none_left (IsSized table.files) path.waiting none;
        shares = k.shares;
        small = k.small;
        class = k.class;
        at = subst (λ (ns : List Node). IsAt next (length ns) old.leaf.class old.leaf.gives) (was ∙ sym none) at;
      },
      λ told t. record {
        place = refl;
        range = t.range;
        pinned = refl;
        root = if_none rule (path.root ≡ root_of table.files (Some (record { go = go; stay = stay }))) e root;
        answer = t.answer;
        sums = t.sums;
        plan = t.plan;
        bound = t.bound;
        waiting = none ∙ (sym was ∙ t.waiting);
        branchings = t.branchings;
        p = t.p;
        q = t.q;
        gives = t.gives;
      },
    ))

pub plan_take : (table : TableValue) (old : Kept) (root : Node) (plan : List Bool) (word : List ℕ) (m r : ℕ) (next : Place) (rule : Option ℕ) → IsKept table old → after old.place (Planned word m r) ≡ Some next → root ≡ old.path.root
    → ((told : Told) → told.range ≡ old.range → root_of table.files told.pins ≡ root → Judges table told (Planned word m r) rule)
    → IfNone rule (plan ≡ set_named table.files word) → length plan ≡ table.files
    → Takes table old (record old { plan = plan; sums = Some (record { migrated = m; replicated = r }); place = next }) (Planned word m r) next (broken_here rule)
plan_take table old root plan word m r next rule k h is judged named sized =
    let at : IsAt next (length old.path.waiting) old.leaf.class old.leaf.gives = (plan_at old.place next word m r (length old.path.waiting) old.leaf.class old.leaf.gives h k.at).1 in
    takes_here table old (record old { plan = plan; sums = Some (record { migrated = m; replicated = r }); place = next }) (Planned word m r) next rule
    (λ told t. judged told (sym t.range) (sym t.root ∙ sym is)) (λ told x number. refl) (λ e. (
      record {
        range = k.range;
        bound = k.bound;
        plan = sized;
        first = k.first;
        second = k.second;
        root = k.root;
        nodes = k.nodes;
        shares = k.shares;
        small = k.small;
        class = k.class;
        at = at;
      },
      λ told t. record {
        place = refl;
        range = t.range;
        pinned = t.pinned;
        root = t.root;
        answer = t.answer;
        sums = refl;
        plan = if_none rule (plan ≡ set_named table.files word) e named;
        bound = t.bound;
        waiting = t.waiting;
        branchings = t.branchings;
        p = t.p;
        q = t.q;
        gives = t.gives;
      },
    ))

pub all_behind : (P : Node → Type 0) (nodes : List Node) → AllByRecursion P nodes → AllByRecursion P (drop 1 nodes)
all_behind P [] a = tt
all_behind P (n ∷ nodes) a = a.1

pub many_behind : (nodes : List Node) → length (drop 1 nodes) ≡ length nodes - 1
many_behind [] = refl
many_behind (n ∷ nodes) = omega arith

-- the node in work
pub node_is : (table : TableValue) (old : Kept) (told : Told) (node : Node) → KeepsTold table old told → old.path.waiting ≡ node ∷ drop 1 old.path.waiting → node_of table.files told ≡ node
node_is table old told node t is = ap (λ (ns : List Node). get_or ns 0 (undecided_node table.files)) (sym t.waiting ∙ is)

pub node_sized : (table : TableValue) (old : Kept) (node : Node) → IsKept table old → old.path.waiting ≡ node ∷ drop 1 old.path.waiting → IsSized table.files node
node_sized table old node k is = (subst (λ (ns : List Node). AllByRecursion (IsSized table.files) ns) is k.nodes).0

-- a node is closed
closed : (table : TableValue) (old : Kept) (path : PathValue) (node : Node) (e : Entry) (next : Place) (rule : Option ℕ) → IsKept table old
    → IsAt next (length old.path.waiting - 1) old.leaf.class old.leaf.gives → path.root ≡ old.path.root → path.waiting ≡ drop 1 old.path.waiting
    → ((told : Told) → KeepsTold table old told → Judges table told e rule) → ((told : Told) (r : Rule) (number : ℕ) → line_of told e r number ≡ number)
    → ((told : Told) → told_by table.files told next e ≡ record told { place = next; waiting = drop 1 told.waiting })
    → Takes table old (record old { path = path; place = next }) e next (broken_here rule)
closed table old path node e next rule k at root rest judged line by =
    takes_here table old (record old { path = path; place = next }) e next rule judged line (λ _. (
      record {
        range = k.range;
        bound = k.bound;
        plan = k.plan;
        first = k.first;
        second = k.second;
        root = subst (λ (n : Node). IsSized table.files n) (sym root) k.root;
        nodes = subst (λ (ns : List Node). AllByRecursion (IsSized table.files) ns) (sym rest) (all_behind (IsSized table.files) old.path.waiting k.nodes);
        shares = k.shares;
        small = k.small;
        class = k.class;
        at = subst (λ n. IsAt next n old.leaf.class old.leaf.gives) (sym (ap (λ (ns : List Node). length ns) rest ∙ many_behind old.path.waiting)) at;
      },
      λ told t. subst (λ (x : Told). KeepsTold table (record old { path = path; place = next }) x) (sym (by told)) (record {
        place = refl;
        range = t.range;
        pinned = t.pinned;
        root = root ∙ t.root;
        answer = t.answer;
        sums = t.sums;
        plan = t.plan;
        bound = t.bound;
        waiting = rest ∙ ap (λ (ns : List Node). drop 1 ns) t.waiting;
        branchings = t.branchings;
        p = t.p;
        q = t.q;
        gives = t.gives;
      }),
    ))

pub low_take : (table : TableValue) (old : Kept) (path : PathValue) (node : Node) (next : Place) (rule : Option ℕ) → IsKept table old → after old.place Low ≡ Some next
    → old.path.waiting ≡ node ∷ drop 1 old.path.waiting → path.root ≡ old.path.root → path.waiting ≡ drop 1 old.path.waiting
    → ((told : Told) → told.range ≡ old.range → node_of table.files told ≡ node → Judges table told Low rule)
    → Takes table old (record old { path = path; place = next }) Low next (broken_here rule)
low_take table old path node next rule k h is root rest judged =
    closed table old path node Low next rule k (low_at old.place next (length old.path.waiting) old.leaf.class old.leaf.gives h k.at).1 root rest
    (λ told t. judged told (sym t.range) (node_is table old told node t is)) (λ told r number. refl) (λ told. refl)

pub high_take : (table : TableValue) (old : Kept) (path : PathValue) (node : Node) (next : Place) (rule : Option ℕ) → IsKept table old → after old.place High ≡ Some next
    → old.path.waiting ≡ node ∷ drop 1 old.path.waiting → path.root ≡ old.path.root → path.waiting ≡ drop 1 old.path.waiting
    → ((told : Told) → told.range ≡ old.range → node_of table.files told ≡ node → Judges table told High rule)
    → Takes table old (record old { path = path; place = next }) High next (broken_here rule)
high_take table old path node next rule k h is root rest judged =
    closed table old path node High next rule k (high_at old.place next (length old.path.waiting) old.leaf.class old.leaf.gives h k.at).1 root rest
    (λ told t. judged told (sym t.range) (node_is table old told node t is)) (λ told r number. refl) (λ told. refl)

-- what a plan is said to replicate
replicates : (plan : Option Claimed) → replicated_of (option_map sums_of plan) ≡ option_map (λ (c : Claimed). c.replicated) plan
replicates None = refl
replicates (Some c) = refl

bound_small : (bound : Option ℕ) → IsLine (bound_entry bound) → IfSome bound (λ z. z < 2 ^ 50)
bound_small None l = tt
bound_small (Some z) l = l

bound_told : (files : ℕ) (told : Told) (next : Place) (bound : Option ℕ) → told_by files told next (bound_entry bound) ≡ record told { place = next; bound = bound; waiting = root_of files told.pins ∷ [] }
bound_told files told next None = refl
bound_told files told next (Some z) = refl

bound_line : (told : Told) (bound : Option ℕ) (r : Rule) (number : ℕ) → line_of told (bound_entry bound) r number ≡ number
bound_line told None r number = refl
bound_line told (Some z) r number = refl

pub bound_take : (table : TableValue) (old : Kept) (path : PathValue) (bound replicated : Option ℕ) (next : Place) (rule : Option ℕ) → IsKept table old → IsLine (bound_entry bound) → after old.place (bound_entry bound) ≡ Some next
    → path.root ≡ old.path.root → path.waiting ≡ old.path.root ∷ [] → replicated ≡ replicated_of old.sums
    → ((t : TableValue) (told : Told) → told.answer ≡ old.answer → option_map (λ (c : Claimed). c.replicated) told.plan ≡ replicated → Judges t told (bound_entry bound) rule)
    → Takes table old (record old { bound = bound; path = path; place = next }) (bound_entry bound) next (broken_here rule)
bound_take table old path bound replicated next rule k l h root waits said judged =
    let at : IsAt next 1 old.leaf.class old.leaf.gives = (bound_at old.place next bound (length old.path.waiting) old.leaf.class old.leaf.gives h k.at).1 in
    takes_here table old (record old { bound = bound; path = path; place = next }) (bound_entry bound) next rule
    (λ told t. judged table told (sym t.answer) (sym (said ∙ (ap replicated_of t.sums ∙ replicates told.plan))))
    (λ told r number. bound_line told bound r number) (λ _. (
      record {
        range = k.range;
        bound = bound_small bound l;
        plan = k.plan;
        first = k.first;
        second = k.second;
        root = subst (λ (n : Node). IsSized table.files n) (sym root) k.root;
        nodes = subst (λ (ns : List Node). AllByRecursion (IsSized table.files) ns) (sym waits) (k.root, tt);
        shares = k.shares;
        small = k.small;
        class = k.class;
        at = subst (λ (ns : List Node). IsAt next (length ns) old.leaf.class old.leaf.gives) (sym waits) at;
      },
      λ told t. subst (λ (x : Told). KeepsTold table (record old { bound = bound; path = path; place = next }) x) (sym (bound_told table.files told next bound)) (record {
        place = refl;
        range = t.range;
        pinned = t.pinned;
        root = root ∙ t.root;
        answer = t.answer;
        sums = t.sums;
        plan = t.plan;
        bound = refl;
        waiting = waits ∙ ap (λ (n : Node). n ∷ []) t.root;
        branchings = t.branchings;
        p = t.p;
        q = t.q;
        gives = t.gives;
      }),
    ))

-- the sets of a node's mix differ first at a free file
pub free_file : (table : TableValue) (range : Range) (bound : Option ℕ) (node : Node) (f : ℕ) (p q : List ℕ) (x y : ℕ)
    → ((told : Told) → told.range ≡ range → told.bound ≡ bound → node_of table.files told ≡ node → Judges table told (Branch f p q x y) None) → (is_free node f ≡ true) × (f < table.files)
free_file table range bound node f p q x y judged =
    let told : Told = record nothing_told { range = range; bound = bound; waiting = node ∷ [] } in
    let kept = judged told refl refl refl Difference in
    (kept.0, subst (λ n. f < n) (length-map-range_with_len (has_file (result_unwrap_or (decode_of p) [])) 0 table.files) kept.1.within)

node_first : (path : PathValue) (node : Node) → path.waiting ≡ node ∷ drop 1 path.waiting → node_in path ≡ node
node_first path node is = ap (λ (ns : List Node). get_or ns 0 no_node) is

pub may_branch : (table : TableValue) (old : Kept) (node : Node) (f : ℕ) → IsKept table old → old.path.waiting ≡ node ∷ drop 1 old.path.waiting → (is_free node f ≡ true) × (f < table.files)
    → (f < length (node_in old.path).inside) × (is_free (node_in old.path) f ≡ true)
may_branch table old node f k is free =
    let same : node_in old.path ≡ node = node_first old.path node is in
    let sized : IsSized table.files node = node_sized table old node k is in
    (subst (λ (n : Node). f < length n.inside) (sym same) (omega (arith, free.1, sized.inside)), subst (λ (n : Node). is_free n f ≡ true) (sym same) free.0)

two_more : (nodes more : List Node) (a b : Node) → 0 < length nodes → more ≡ a ∷ b ∷ drop 1 nodes → length more ≡ length nodes + 1
two_more [] more a b some is = absurd (omega (arith, some))
two_more (n ∷ nodes) more a b some is = ap (λ (ns : List Node). length ns) is ∙ omega arith

pub branch_take : (table : TableValue) (old : Kept) (path : PathValue) (first second : List Bool) (alpha beta : ℕ) (node : Node) (f : ℕ) (p q : List ℕ) (x y : ℕ) (next : Place) → IsKept table old → after old.place (Branch f p q x y) ≡ Some next
    → old.path.waiting ≡ node ∷ drop 1 old.path.waiting → path.root ≡ old.path.root
    → path.waiting ≡ put_outside f (node_in old.path) ∷ put_inside f (node_in old.path) ∷ drop 1 old.path.waiting
    → length first ≡ table.files → length second ≡ table.files
    → ((told : Told) → told.range ≡ old.range → told.bound ≡ old.bound → node_of table.files told ≡ node → Judges table told (Branch f p q x y) None)
    → Takes table old (record old { path = path; branchings = old.branchings + 1; mix = record { first = first; second = second; alpha = alpha; beta = beta }; place = next }) (Branch f p q x y) next None
branch_take table old path first second alpha beta node f p q x y next k h is root waits l1 l2 judged =
    let at = branch_at old.place next f p q x y (length old.path.waiting) old.leaf.class old.leaf.gives h k.at in
    let same : node_in old.path ≡ node = node_first old.path node is in
    let sized : IsSized table.files node = node_sized table old node k is in
    let here : path.waiting ≡ put_outside f node ∷ put_inside f node ∷ drop 1 old.path.waiting = waits ∙ ap (λ (n : Node). put_outside f n ∷ put_inside f n ∷ drop 1 old.path.waiting) same in
    let out : IsSized table.files (put_outside f node) = record { inside = sized.inside; outside = length-set node.outside f true ∙ sized.outside } in
    let inn : IsSized table.files (put_inside f node) = record { inside = length-set node.inside f true ∙ sized.inside; outside = sized.outside } in
    record {
      judged = λ told t. judged told (sym t.range) (sym t.bound) (node_is table old told node t is);
      fits = record {
        range = k.range;
        bound = k.bound;
        plan = k.plan;
        first = l1;
        second = l2;
        root = subst (λ (n : Node). IsSized table.files n) (sym root) k.root;
        nodes = subst (λ (ns : List Node). AllByRecursion (IsSized table.files) ns) (sym here) (out, (inn, all_behind (IsSized table.files) old.path.waiting k.nodes));
        shares = k.shares;
        small = k.small;
        class = k.class;
        at = subst (λ n. IsAt next n old.leaf.class old.leaf.gives) (sym (two_more old.path.waiting path.waiting (put_outside f node) (put_inside f node) at.0 here)) at.1;
      };
      told = λ told t.
          let there : node ≡ node_of table.files told = sym (node_is table old told node t is) in
          record {
            place = refl;
            range = t.range;
            pinned = t.pinned;
            root = root ∙ t.root;
            answer = t.answer;
            sums = t.sums;
            plan = t.plan;
            bound = t.bound;
            waiting = here ∙ (ap (λ (n : Node). put_outside f n ∷ put_inside f n ∷ drop 1 old.path.waiting) there
                ∙ ap (λ (ns : List Node). put_outside f (node_of table.files told) ∷ put_inside f (node_of table.files told) ∷ drop 1 ns) t.waiting);
            branchings = ap (λ n. n + 1) t.branchings;
            p = t.p;
            q = t.q;
            gives = t.gives;
          };
    }

pub branch_breaks : (table : TableValue) (old new : Kept) (node : Node) (f : ℕ) (p q : List ℕ) (x y rule : ℕ) (next : Place)
    → old.path.waiting ≡ node ∷ drop 1 old.path.waiting
    → ((told : Told) → told.range ≡ old.range → told.bound ≡ old.bound → node_of table.files told ≡ node → Judges table told (Branch f p q x y) (Some rule))
    → Takes table old new (Branch f p q x y) next (Some (record { rule = rule; back = 0 }))
branch_breaks table old new node f p q x y rule next is judged = record {
  judged = λ told t. let j = judged told (sym t.range) (sym t.bound) (node_is table old told node t is) in (j.0, j.1, j.2, λ number. omega arith);
  fits = tt;
  told = tt;
}

-- the node in work fits the table
pub node_fits : (table : TableValue) (kept : Kept) → IsKept table kept → 0 < length kept.path.waiting → IsSized table.files (node_in kept.path)
node_fits table kept k some = first_sized kept.path.waiting k.nodes some
  where
    first_sized : (nodes : List Node) → AllByRecursion (IsSized table.files) nodes → 0 < length nodes → IsSized table.files (get_or nodes 0 no_node)
    first_sized [] all lt = absurd (omega (arith, lt))
    first_sized (n ∷ nodes) all lt = all.0
