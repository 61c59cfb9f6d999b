-- The certificate of a search is short enough to be read.
use Rattle.std.proofs.Common.{◌≡◌, ◌∙◌, ℕ, ◌+◌, ◌*◌, ◌≤◌, ◌^◌, Bool, cond, List, [], ◌∷◌, ◌++◌, length, map, Option, Some, None, sym, ap, subst, arith, sum_by}
use Rattle.std.specs.Prelude.{count_by}
use Rattle.std.specs.List.{flat_map, AllByRecursion}
use Rattle.std.proofs.lemmas.Fmt.{length-decimal-le_wide}
use Rattle.std.proofs.lemmas.List.{length-append}
use Rattle.std.proofs.lemmas.List.Sums.{sum_by-append, sum_by-cons}
use Rattle.std.proofs.lemmas.List.Concat.{flat_map-cons}
use Rattle.std.proofs.lemmas.Grind.{flat_map-append}
use Rattle.seed_model.specs.declared.node.Node.{Node}
use Rattle.seed_model.specs.declared.range.Range.{Range}
use Rattle.seed_model.specs.Tables.{TableValue}
use Rattle.bound_cert.specs.declared.multipliers.Give.{Give}
use Rattle.bound_cert.specs.declared.heading.Heading.{Heading}
use Rattle.bound_cert.specs.declared.heading.Pins.{Pins}
use Rattle.bound_cert.specs.declared.node_line.NodeLine.{NodeLine}
use Rattle.bound_cert.specs.declared.node_line.NodeLine.TheVariants as node
use Rattle.bound_cert.specs.Documents.{IsDocument, bound_entry, document_text, give_entry, heading_entries, node_entries, pins_entries, plan_entry}
use Rattle.bound_cert.specs.Grammar.{text_of}
use Rattle.bound_cert.specs.Laws.{LinesAreShort}
use Rattle.bound_cert.specs.Lines.{Entry, IsLine, keyword, line_text, operands}
use Rattle.bound_cert.specs.Lines as line
use Rattle.bound_cert.specs.Trees.{Tree, Tip, Fork, Stands, is_branch, preorder}
use Rattle.bound_cert.specs.Valid.{IsValid}
use Rattle.bound_cert.specs.Words.{joined}

-- the text of lines one behind the other
text_more : (e : Entry) (es : List Entry) → length (text_of (e ∷ es)) ≡ (length (line_text e) + 1) + length (text_of es)
text_more e es =
    let one = ap (λ (t : List ℕ). length t) (flat_map-cons (λ (e : Entry). line_text e ++ 10 ∷ []) e es) in
    let two = length-append (line_text e ++ 10 ∷ []) (text_of es) in
    let three = length-append (line_text e) (10 ∷ []) in
    omega (arith, one, two, three)

text_both : (a b : List Entry) → length (text_of (a ++ b)) ≡ length (text_of a) + length (text_of b)
text_both a b = ap (λ (t : List ℕ). length t) (flat_map-append (λ (e : Entry). line_text e ++ 10 ∷ []) a b) ∙ length-append (text_of a) (text_of b)

-- what holds of lines holds of those in front and behind
both_lawful : (a b : List Entry) → AllByRecursion IsLine (a ++ b) → AllByRecursion IsLine a × AllByRecursion IsLine b
both_lawful [] b all = (tt, all)
both_lawful (e ∷ a) b all = let rest = both_lawful a b all.1 in ((all.0, rest.0), rest.1)

-- lines without bounds of their own
some_short : LinesAreShort → (es : List Entry) → AllByRecursion IsLine es → length (text_of es) ≤ length es * 16385
some_short short [] all = omega arith
some_short short (e ∷ es) all =
    let one = short e all.0 in
    let rest = some_short short es all.1 in
    let more = text_more e es in
    omega (arith, one, rest, more)

-- words with a space between
joined_short : (ws : List (List ℕ)) → length (joined ws) ≤ sum_by (λ w. length w + 1) ws
joined_short [] = omega arith
joined_short (w ∷ []) = omega arith
joined_short (w ∷ x ∷ ws) =
    let one : length (joined (w ∷ x ∷ ws)) ≡ length w + length (32 ∷ joined (x ∷ ws)) = length-append w (32 ∷ joined (x ∷ ws)) in
    let sum : sum_by (λ w. length w + 1) (w ∷ x ∷ ws) ≡ (length w + 1) + sum_by (λ w. length w + 1) (x ∷ ws) = sum_by-cons (λ (w : List ℕ). length w + 1) w (x ∷ ws) in
    omega (arith, one, sum, joined_short (x ∷ ws))

-- a give
give_short : (g : Give) → IsLine (give_entry g) → length (line_text (give_entry g)) ≤ 127
give_short g lawful =
    let e = give_entry g in
    let text : length (joined (keyword e ∷ operands e)) ≤ sum_by (λ w. length w + 1) (keyword e ∷ operands e) = joined_short (keyword e ∷ operands e) in
    let class = length-decimal-le_wide 7 g.class (omega arith) (omega (arith, lawful.0)) (omega (arith, lawful.0)) in
    let file = length-decimal-le_wide 5 g.file (omega arith) (omega (arith, lawful.1)) (omega (arith, lawful.1)) in
    let charge = length-decimal-le_wide 31 g.charge (omega arith) (omega (arith, lawful.2)) (omega (arith, lawful.2)) in
    let reward = length-decimal-le_wide 31 g.reward (omega arith) (omega (arith, lawful.3)) (omega (arith, lawful.3)) in
    omega (arith, text, class, file, charge, reward)

gives_short : (gives : List Give) → AllByRecursion IsLine (map give_entry gives) → length (text_of (map give_entry gives)) ≤ length gives * 128
gives_short [] all = omega arith
gives_short (g ∷ gives) all =
    let one = give_short g all.0 in
    let rest = gives_short gives all.1 in
    let more = text_more (give_entry g) (map give_entry gives) in
    omega (arith, one, rest, more)

-- a node's lines
node_short : LinesAreShort → (n : NodeLine) → AllByRecursion IsLine (node_entries n) → length (text_of (node_entries n)) ≤ 2 ^ 30
node_short short (node.Branch file first second alpha beta) all = omega (arith, some_short short (node_entries (node.Branch file first second alpha beta)) all)
node_short short node.Low all = omega (arith, some_short short (node_entries node.Low) all)
node_short short node.High all = omega (arith, some_short short (node_entries node.High) all)
node_short short (node.Leaf m) all =
    let head = short (line.Leaf m.p m.q (length m.gives)) all.0 in
    let gives = gives_short m.gives all.1 in
    let more = text_more (line.Leaf m.p m.q (length m.gives)) (map give_entry m.gives) in
    omega (arith, head, gives, more, all.0.3)

nodes_short : LinesAreShort → (nodes : List NodeLine) → AllByRecursion IsLine (flat_map node_entries nodes) → length (text_of (flat_map node_entries nodes)) ≤ length nodes * 2 ^ 30
nodes_short short [] all = omega arith
nodes_short short (n ∷ nodes) all =
    let parts = both_lawful (node_entries n) (flat_map node_entries nodes) all in
    let one = node_short short n parts.0 in
    let rest = nodes_short short nodes parts.1 in
    let more = text_both (node_entries n) (flat_map node_entries nodes) in
    omega (arith, one, rest, more)

-- a tree has one leaf more than branchings
tree_nodes : (table : TableValue) (range : Range) (bound : Option ℕ) (at : Node) (tree : Tree) → Stands table range bound at tree
    → length (preorder tree) ≡ 2 * sum_by (λ (n : NodeLine). cond (is_branch n) 1 0) (preorder tree) + 1
tree_nodes table range bound at (Tip l) s =
    let sum = sum_by-cons (λ (n : NodeLine). cond (is_branch n) 1 0) l [] in
    let none = ap {B = ℕ} (λ (b : Bool). cond b 1 0) s.0 in
    omega (arith, sum, none)
tree_nodes table range bound at (Fork l out inn) s =
    let f : NodeLine → ℕ = λ n. cond (is_branch n) 1 0 in
    let sum = sum_by-cons (λ (n : NodeLine). cond (is_branch n) 1 0) l (preorder out ++ preorder inn) in
    let both = sum_by-append (λ (n : NodeLine). cond (is_branch n) 1 0) (preorder out) (preorder inn) in
    let lengths = length-append (preorder out) (preorder inn) in
    let one = ap {B = ℕ} (λ (b : Bool). cond b 1 0) s.0 in
    let left = tree_nodes table range bound _ out s.2 in
    let right = tree_nodes table range bound _ inn s.3 in
    omega (arith, sum, both, lengths, one, left, right)

heading_lines : (pins : Option Pins) → length (pins_entries pins) ≤ 1
heading_lines None = omega arith
heading_lines (Some pins) = omega arith

-- a certificate with at most so many branchings
pub certificate_short : LinesAreShort → (table : TableValue) (heading : Heading) (nodes : List NodeLine) → IsDocument heading nodes → IsValid table heading nodes → count_by is_branch nodes ≤ 65535
    → length (document_text heading nodes) ≤ 2 ^ 47
certificate_short short table heading nodes document valid few =
    let head = heading_entries heading in
    let body = flat_map node_entries nodes in
    let parts = both_lawful head (body ++ line.End ∷ []) document.lawful in
    let rest = both_lawful body (line.End ∷ []) parts.1 in
    let one = text_both head (body ++ line.End ∷ []) in
    let two = text_both body (line.End ∷ []) in
    let first = some_short short head parts.0 in
    let middle = nodes_short short nodes rest.0 in
    let last = some_short short (line.End ∷ []) rest.1 in
    let pins = heading_lines heading.pins in
    let counted : length head ≡ length (pins_entries heading.pins) + 5 = omega (arith, length-append (pins_entries heading.pins) (line.Answered heading.answer ∷ plan_entry heading.plan ∷ bound_entry heading.bound ∷ [])) in
    let tree = tree_nodes table heading.range heading.bound _ valid.tree valid.stands in
    let same : length nodes ≡ 2 * count_by is_branch nodes + 1 = subst (λ (ns : List NodeLine). length ns ≡ 2 * count_by is_branch ns + 1) (sym valid.lines) tree in
    omega (arith, one, two, first, middle, last, pins, counted, same, few)
