use Rattle.std.proofs.Common.{◌≡◌, ◌∙◌, ◌++◌, ◌∷◌, [], refl, ap}
use Rattle.bound_cert.specs.Documents.{node_entries}
use Rattle.bound_cert.specs.Grammar.{text_of}
use Rattle.branch_bound.proofs.Streaming.{none_of, one_added, one_part}
use Rattle.branch_bound.proofs.writing.write_node.Goals as goal

pub returns-in_err-line-clause-part : goal.returns-in_err-line-clause-part
returns-in_err-line-clause-part g c = λ told err. none_of c.args.table.now c.args.found.now (c.args.visit ∷ []) (g.F.Shelf.map c.args.shelf.now c.args.name.now) _ refl

pub returns-in_err-node_text-clause-part : goal.returns-in_err-node_text-clause-part
returns-in_err-node_text-clause-part g c = λ told err. none_of c.args.table.now c.args.found.now (c.args.visit ∷ []) (g.F.Shelf.map c.args.shelf.now c.args.name.now) _ refl

pub returns-in_err-add-clause-part : goal.returns-in_err-add-clause-part
returns-in_err-add-clause-part g c = λ told err.
    let line = c.in_ok-line.line in
    let text : c.deref.result.now ≡ text_of (node_entries line) =
    c.deref.ensures.value ∙ c.in_ok-node_text.ensures ∙ ap (λ z. z ++ text_of (node_entries line)) c.clear.ensures.items in
    one_part c.args.table.now c.args.found.now c.args.visit line (g.F.Shelf.map c.args.shelf.now c.args.name.now) (g.F.Shelf.map c.add.new.shelf c.args.name.now) c.deref.result.now c.in_ok-line.ensures text
    (λ held e. c.in_err-add.ensures.front held told e refl)

pub returns-clause-added : goal.returns-clause-added
returns-clause-added g c =
    let line = c.in_ok-line.line in
    let text : c.deref.result.now ≡ text_of (node_entries line) =
    c.deref.ensures.value ∙ c.in_ok-node_text.ensures ∙ ap (λ z. z ++ text_of (node_entries line)) c.clear.ensures.items in
    one_added c.args.table.now c.args.found.now c.args.visit line (g.F.Shelf.tells c.args.shelf.now) (g.F.Shelf.map c.args.shelf.now c.args.name.now) (g.F.Shelf.map c.add.new.shelf c.args.name.now) c.deref.result.now
    c.is_branching.result c.in_ok-line.ensures text c.is_branching.ensures (λ told held e. c.in_ok-add.ensures.added held told e)
