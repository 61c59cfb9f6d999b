use Rattle.std.proofs.Common.{◌∷◌, [], refl, sym, ap, subst, arith}
use Rattle.std.proofs.lemmas.List.Elements.{All-nil}
use Rattle.branch_bound.specs.declared.candidate.Candidate.{Candidate}
use Rattle.branch_bound.specs.Entries.{root_entry, entry_at}
use Rattle.branch_bound.specs.States.{IsCandidateOf, times_in, HaveValues, IsState}
use Rattle.branch_bound.proofs.Steps.{state_begins}
use Rattle.branch_bound.proofs.searching.begin.Goals as goal

pub returns-clause-state : goal.returns-clause-state
returns-clause-state c =
    let table = c.args.table.now in
    let range = c.args.range.now in
    let root = c.args.root.now in
    let finding = c.in_ok-found.found in
    let es = root_entry finding ∷ [] in
    let none : HaveValues es c.new-waiting.result =
    subst (HaveValues es) (sym c.new-waiting.ensures) (All-nil (λ (d : Candidate). IsCandidateOf d (entry_at es d.number).file (entry_at es d.number).finding)) in
    subst (λ z. IsState table range root c.find.new.kept 0 z c.put_waiting.new.waiting) (sym c.in_ok-entries.ensures)
    (state_begins table range root c.find.new.kept finding c.put_waiting.new.waiting c.requires.root c.in_ok-found.ensures.found
    (c.in_ok-found.ensures.plan root refl (record { is_node = c.requires.root; members = λ set m. m }) tt)
    (λ k. let empty = ap (times_in k) c.new-waiting.ensures in omega (arith, c.in_ok-put_waiting.ensures.times k, empty))
    (c.in_ok-put_waiting.ensures.values es none refl refl))
