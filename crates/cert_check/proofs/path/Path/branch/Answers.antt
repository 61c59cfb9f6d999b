use Rattle.std.proofs.Common.{◌≡◌, ◌<◌, ◌+◌, ℕ, List, [], ◌∷◌, drop, length, get_or, set, Bool, true, sym, ◌∙◌, ap, subst, arith}
use Rattle.seed_model.specs.declared.node.Node.{Node}
use Rattle.seed_model.specs.Nodes.{put_inside, put_outside, is_free}
use Rattle.cert_check.specs.declared.path.Side.TheVariants.{Outside}
use Rattle.cert_check.specs.declared.path.Step.{Step}
use Rattle.cert_check.specs.Paths.{PathValue, IsPath, top, behind, waiting_of, node_in}
use Rattle.cert_check.proofs.Pathing.{down, room, reads_on}
use Rattle.cert_check.proofs.path.Path.branch.Goals as goal

-- what is seen of a path that reads on
record Seen (steps : List Step) (depth : ℕ) (node : Node) (reads : Bool) (value : PathValue) : Type 0 where
  on : reads ≡ true
  node_is : node ≡ node_in value
  rest_is : behind steps depth node ≡ drop 1 value.waiting

seen : (steps : List Step) (depth : ℕ) (node : Node) (reads : Bool) (value : PathValue) → waiting_of reads steps depth node ≡ value.waiting → 0 < length value.waiting → Seen steps depth node reads value
seen steps depth node reads value is some =
    let on : reads ≡ true = reads_on reads steps depth node (subst (λ (ws : List Node). 0 < length ws) (sym is) some) in
    let all : node ∷ behind steps depth node ≡ value.waiting = sym (ap (λ b. waiting_of b steps depth node) on) ∙ is in
    record { on = on; node_is = ap (λ (ws : List Node). get_or ws 0 (record { inside = []; outside = [] })) all; rest_is = ap (λ (ws : List Node). drop 1 ws) all }

record Branched (steps : List Step) (depth : ℕ) (node : Node) (reads : Bool) (root : Node) (waiting : List Node) : Type 0 where
  path : IsPath steps depth node reads
  top_is : top steps depth node ≡ root
  waits : waiting_of reads steps depth node ≡ waiting

branched : (steps : List Step) (depth file : ℕ) (node : Node) (reads : Bool) (value : PathValue) (outside : List Bool) → IsPath steps depth node reads
    → top steps depth node ≡ value.root → waiting_of reads steps depth node ≡ value.waiting → 0 < length value.waiting
    → file < length (node_in value).inside → is_free (node_in value) file ≡ true → outside ≡ set node.outside file true
    → Branched (set steps depth (record { file = file; side = Outside })) (depth + 1) (record { inside = node.inside; outside = outside }) reads value.root (put_outside file (node_in value) ∷ put_inside file (node_in value) ∷ drop 1 value.waiting)
branched steps depth file node reads value outside p root is some lt free e =
    let s = seen steps depth node reads value is some in
    let known : file < length node.inside = subst (λ (m : Node). file < length m.inside) (sym s.node_is) lt in
    let may : is_free node file ≡ true = subst (λ (m : Node). is_free m file ≡ true) (sym s.node_is) free in
    let d = down steps depth (depth + 1) file node reads (omega arith) s.on known may p in
    let now : List Step = set steps depth (record { file = file; side = Outside }) in
    let wait : waiting_of reads now (depth + 1) (put_outside file node) ≡ put_outside file (node_in value) ∷ put_inside file (node_in value) ∷ drop 1 value.waiting =
    ap (λ r. waiting_of r now (depth + 1) (put_outside file node)) s.on
    ∙ (ap (λ ms. put_outside file node ∷ ms) d.rest_is
    ∙ (ap (λ ms. put_outside file node ∷ put_inside file node ∷ ms) s.rest_is
    ∙ ap (λ (m : Node). put_outside file m ∷ put_inside file m ∷ drop 1 value.waiting) s.node_is)) in
    let it : Branched now (depth + 1) (put_outside file node) reads value.root (put_outside file (node_in value) ∷ put_inside file (node_in value) ∷ drop 1 value.waiting) =
    record { path = d.path; top_is = d.top_is ∙ root; waits = wait } in
    subst (λ (xs : List Bool). Branched now (depth + 1) (record { inside = node.inside; outside = xs }) reads value.root (put_outside file (node_in value) ∷ put_inside file (node_in value) ∷ drop 1 value.waiting)) (sym e) it

pub prove-unreachable-requires : goal.prove-unreachable-requires
prove-unreachable-requires c =
    let is : waiting_of c.self.inside.reads c.self.inside.steps.items c.self.inside.depth c.self.inside.node ≡ c.args.self.now.waiting = ap (λ v. v.waiting) c.self.view_is in
    let s = seen c.self.inside.steps.items c.self.inside.depth c.self.inside.node c.self.inside.reads c.args.self.now is c.requires.some in
    let known : c.args.file < length c.self.inside.node.inside = subst (λ (m : Node). c.args.file < length m.inside) (sym s.node_is) c.requires.known in
    let may : is_free c.self.inside.node c.args.file ≡ true = subst (λ (m : Node). is_free m c.args.file ≡ true) (sym s.node_is) c.requires.free in
    let deep = room c.self.inside.steps.items c.self.inside.depth c.args.file c.self.inside.node c.self.inside.reads c.self.invariant known may in
    omega (arith, deep)

pub invariant_of-self : goal.invariant_of-self
invariant_of-self c =
    (branched c.self.inside.steps.items c.self.inside.depth c.args.file c.self.inside.node c.self.inside.reads c.args.self.now c.insert.new.self c.self.invariant
    (ap (λ v. v.root) c.self.view_is) (ap (λ v. v.waiting) c.self.view_is) c.requires.some c.requires.known c.requires.free c.insert.ensures).path

pub returns-clause-root : goal.returns-clause-root
returns-clause-root c =
    (branched c.self.inside.steps.items c.self.inside.depth c.args.file c.self.inside.node c.self.inside.reads c.args.self.now c.insert.new.self c.self.invariant
    (ap (λ v. v.root) c.self.view_is) (ap (λ v. v.waiting) c.self.view_is) c.requires.some c.requires.known c.requires.free c.insert.ensures).top_is

pub returns-clause-waiting : goal.returns-clause-waiting
returns-clause-waiting c =
    (branched c.self.inside.steps.items c.self.inside.depth c.args.file c.self.inside.node c.self.inside.reads c.args.self.now c.insert.new.self c.self.invariant
    (ap (λ v. v.root) c.self.view_is) (ap (λ v. v.waiting) c.self.view_is) c.requires.some c.requires.known c.requires.free c.insert.ensures).waits
