use Rattle.std.proofs.Common.{◌≡◌, ℕ, ◌+◌, ◌*◌, None, List, ◌∷◌, Result, Ok, Err, refl, sym, ◌∙◌, ap, subst, arith}
use Rattle.std.specs.Prelude.{OnOk}
use Rattle.std.specs.List.Sorted.{IsPermutation}
use Rattle.std.proofs.lemmas.List.Elements.{All-cons}
use Rattle.std.proofs.lemmas.List.Sorted.{All-permutation}
use Rattle.seed_model.specs.Nodes.{weight_of}
use Rattle.branch_bound.specs.declared.candidate.Candidate.{Candidate}
use Rattle.branch_bound.specs.declared.entry.Entry.{Entry}
use Rattle.branch_bound.specs.declared.entry.Relaxation.{Relaxation}
use Rattle.branch_bound.specs.declared.entry.Finding.{Finding}
use Rattle.branch_bound.specs.declared.entry.Finding.TheVariants.{Valued}
use Rattle.branch_bound.specs.Entries.{entry_at}
use Rattle.branch_bound.specs.SearchTrees.{is_at}
use Rattle.branch_bound.specs.States.{waits, times_in, IsCandidateOf, HaveValues}
use Rattle.branch_bound.proofs.Heaps.{times_in-cons, times_in-permuted}
use Rattle.branch_bound.proofs.state.put_waiting.Goals as goal

on_ok : {T E : Type 0} (r : Result T E) (P Q : Type 0) → (P → Q) → OnOk r P → OnOk r Q
on_ok (Ok x) P Q f h = f h
on_ok (Err e) P Q f h = h

put_times : (c : Candidate) (old new : List Candidate) (k number : ℕ) (finding : Finding) (r : Relaxation) → finding ≡ Valued r → c.number ≡ number → IsPermutation (c ∷ old) new
    → times_in k new ≡ waits None finding * is_at k number + times_in k old
put_times c old new k number finding r is same p =
    let one : waits None finding ≡ 1 = ap (waits None) is in
    times_in-permuted k (c ∷ old) new p ∙ times_in-cons k c old ∙ ap (λ z. is_at k z + times_in k old) same ∙ rw one (omega arith)

put_values : (c : Candidate) (es : List Entry) (old new : List Candidate) (finding : Finding) (r : Relaxation) → finding ≡ Valued r → c.worth ≡ r.worth → c.weight ≡ weight_of r.mix → IsPermutation (c ∷ old) new
    → HaveValues es old → (entry_at es c.number).file ≡ None → (entry_at es c.number).finding ≡ finding → HaveValues es new
put_values c es old new finding r is worth weight p h bare found =
    let P : Candidate → Type 0 = λ d. IsCandidateOf d (entry_at es d.number).file (entry_at es d.number).finding in
    let here : P c = subst (λ z. IsCandidateOf c z (entry_at es c.number).finding) (sym bare) (subst (λ z. IsCandidateOf c None z) (sym (found ∙ is)) (worth, weight)) in
    All-permutation P (c ∷ old) new p (All-cons P c old here h)

pub returns-in-Valued-clause-times : goal.returns-in-Valued-clause-times
returns-in-Valued-clause-times c = λ k.
    on_ok c.push.result _ _ (put_times _ c.args.waiting.now c.push.new.self k c.args.number c.args.finding.now c.in-Valued.relaxation c.in-Valued.is refl) c.push.ensures

pub returns-in-Valued-clause-values : goal.returns-in-Valued-clause-values
returns-in-Valued-clause-values c = λ es.
    on_ok c.push.result _ _ (put_values _ es c.args.waiting.now c.push.new.self c.args.finding.now c.in-Valued.relaxation c.in-Valued.is refl refl) c.push.ensures
