use Rattle.std.proofs.Common.{◌≡◌, ◌∙◌, [], inl, inr, Some, List, ℕ, Option, true, refl, ap, subst}
use Rattle.bound_cert.specs.Documents.{heading_entries}
use Rattle.bound_cert.specs.Grammar.{text_of}
use Rattle.branch_bound.specs.Streams.{HoldsFront}
use Rattle.branch_bound.proofs.Streaming.{heading_part, empty_part, part_of_text, whole_text, last_part}
use Rattle.branch_bound.proofs.writing.write_found.Goals as goal

pub returns-in_err-create-clause-part : goal.returns-in_err-create-clause-part
returns-in_err-create-clause-part g c = λ told err. elim (c.in_err-create.ensures.front told refl) [
  | inl same ↦ inl same
  | inr empty ↦ inr (empty_part c.args.table.now c.args.found.now c.requires.lines c.requires.inside (g.F.Shelf.map c.create.new.shelf c.args.name.now) empty)
]

pub returns-in_err-add-clause-part : goal.returns-in_err-add-clause-part
returns-in_err-add-clause-part g c = λ told err.
    let now : Option (List ℕ) = g.F.Shelf.map c.add.new.shelf c.args.name.now in
    let text : c.deref.result.now ≡ text_of (heading_entries c.args.found.now.heading) = c.deref.ensures.value ∙ c.requires.heading in
    inr (heading_part c.args.table.now c.args.found.now c.requires.lines c.requires.inside now
    (subst (HoldsFront now) text (c.in_err-add.ensures.front [] (c.create.ensures.tells ∙ told) (c.in_ok-create.ensures.made told) refl)))

pub returns-in_err-branchings-clause-part : goal.returns-in_err-branchings-clause-part
returns-in_err-branchings-clause-part g c = λ told err.
    let mid : Option (List ℕ) = g.F.Shelf.map c.add.new.shelf c.args.name.now in
    let text : c.deref.result.now ≡ text_of (heading_entries c.args.found.now.heading) = c.deref.ensures.value ∙ c.requires.heading in
    let begins : mid ≡ Some (text_of (heading_entries c.args.found.now.heading)) =
    c.in_ok-add.ensures.added [] (c.create.ensures.tells ∙ told) (c.in_ok-create.ensures.made told) ∙ ap (λ (z : List ℕ). Some z) text in
    inr (part_of_text c.args.table.now c.args.found.now c.requires.lines c.requires.inside mid (g.F.Shelf.map c.write_nodes.new.shelf c.args.name.now) begins
    (c.in_err-branchings.ensures.part (c.add.ensures.tells ∙ c.create.ensures.tells ∙ told) refl))

pub returns-in_err-add-2-clause-part : goal.returns-in_err-add-2-clause-part
returns-in_err-add-2-clause-part g c = λ told err.
    let mid : Option (List ℕ) = g.F.Shelf.map c.add.new.shelf c.args.name.now in
    let tells : g.F.Shelf.tells c.add.new.shelf ≡ true = c.add.ensures.tells ∙ c.create.ensures.tells ∙ told in
    let text : c.deref.result.now ≡ text_of (heading_entries c.args.found.now.heading) = c.deref.ensures.value ∙ c.requires.heading in
    let begins : mid ≡ Some (text_of (heading_entries c.args.found.now.heading)) =
    c.in_ok-add.ensures.added [] (c.create.ensures.tells ∙ told) (c.in_ok-create.ensures.made told) ∙ ap (λ (z : List ℕ). Some z) text in
    inr (last_part c.args.table.now c.args.found.now (g.F.Shelf.tells c.add.new.shelf) mid (g.F.Shelf.map c.write_nodes.new.shelf c.args.name.now) (g.F.Shelf.map c.add-2.new.shelf c.args.name.now)
    c.in_ok-branchings.branchings _ refl tells begins c.in_ok-branchings.ensures.added
    (λ held e. c.in_err-add-2.ensures.front held (c.write_nodes.ensures.tells ∙ tells) e refl))

pub returns-clause-whole : goal.returns-clause-whole
returns-clause-whole g c =
    let mid : Option (List ℕ) = g.F.Shelf.map c.add.new.shelf c.args.name.now in
    let same : g.F.Shelf.tells c.add.new.shelf ≡ g.F.Shelf.tells c.args.shelf.now = c.add.ensures.tells ∙ c.create.ensures.tells in
    let text : c.deref.result.now ≡ text_of (heading_entries c.args.found.now.heading) = c.deref.ensures.value ∙ c.requires.heading in
    whole_text c.args.table.now c.args.found.now (g.F.Shelf.tells c.args.shelf.now) (g.F.Shelf.tells c.add.new.shelf) mid (g.F.Shelf.map c.write_nodes.new.shelf c.args.name.now) (g.F.Shelf.map c.add-2.new.shelf c.args.name.now)
    c.in_ok-branchings.branchings _ refl same
    (λ told. c.in_ok-add.ensures.added [] (c.create.ensures.tells ∙ told) (c.in_ok-create.ensures.made told) ∙ ap (λ (z : List ℕ). Some z) text)
    c.in_ok-branchings.ensures.added (λ told held e. c.in_ok-add-2.ensures.added held (c.write_nodes.ensures.tells ∙ same ∙ told) e)
