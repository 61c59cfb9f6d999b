-- The facts of one branching, from what its calls told.
use Rattle.std.proofs.Common.{◌≡◌, ℕ, ◌+◌, ◌*◌, ◌<◌, true, Option, None, List, ◌∷◌, length, refl, sym, ◌∙◌, ap, subst}
use Rattle.std.specs.Prelude.{All, IfSome}
use Rattle.std.proofs.lemmas.List.Elements.{All-head, All-tail}
use Rattle.seed_model.specs.declared.node.Node.{Node}
use Rattle.seed_model.specs.declared.range.Range.{Range}
use Rattle.seed_model.specs.Differences.{IsFirstDifference}
use Rattle.seed_model.specs.Tables.{TableValue}
use Rattle.seed_model.specs.Nodes.{is_free, put_inside, put_outside}
use Rattle.branch_bound.specs.declared.candidate.Candidate.{Candidate}
use Rattle.branch_bound.specs.declared.entry.Entry.{Entry}
use Rattle.branch_bound.specs.declared.entry.Kept.{Kept}
use Rattle.branch_bound.specs.declared.entry.Finding.{Finding}
use Rattle.branch_bound.specs.declared.entry.Finding.TheVariants.{Valued}
use Rattle.branch_bound.specs.Entries.{entry_at, branched}
use Rattle.branch_bound.specs.Orders.{GoesFirst}
use Rattle.branch_bound.specs.SearchTrees.{is_at}
use Rattle.branch_bound.specs.States.{IsKept, KeepsBetter, IsBelow, IsFound, IsNew, waits, IsCandidateOf, times_in, HaveValues, IsState, GoesOn, MayDiffer, DiffersAt}
use Rattle.branch_bound.proofs.Heaps.{IsPriced, priced, candidate_inside, Pushed, rest_values}
use Rattle.branch_bound.proofs.Relaxed.{differ}
use Rattle.branch_bound.proofs.Stores.{entry_at-branched_out, entry_at-branched_in}
use Rattle.branch_bound.proofs.Steps.{state_branched}
use Rattle.branch_bound.proofs.Values.{difference_is_free, out_below, in_below, better_trans, new_later}

module _ (table : TableValue) (range : Range) (root : Node) (kept : Option Kept) (branchings : ℕ) (es : List Entry) (c : Candidate) (rest : List Candidate)
    (state : IsState table range root kept branchings es (c ∷ rest)) (first : All (GoesFirst c) (c ∷ rest)) where
  stands : IsCandidateOf c (entry_at es c.number).file (entry_at es c.number).finding
  stands = All-head (λ (d : Candidate). IsCandidateOf d (entry_at es d.number).file (entry_at es d.number).finding) c rest state.values

  pub stood : IsPriced c (entry_at es c.number).file (entry_at es c.number).finding
  stood = priced c (entry_at es c.number).file (entry_at es c.number).finding stands

  pub inside : c.number < length es
  inside = candidate_inside es c rest state.waiting

  pub found_here : IsFound table range kept state.level (state.nodes c.number) None (Valued stood.relaxation)
  found_here =
      subst (λ z. IsFound table range kept state.level (state.nodes c.number) None z) stood.is
      (subst (λ z. IsFound table range kept state.level (state.nodes c.number) z (entry_at es c.number).finding) stood.bare (state.found c.number inside))

  -- the two sets of its mix differ
  pub may_differ : GoesOn kept c → MayDiffer (entry_at es c.number).finding
  may_differ on =
      let mix = found_here.0.relaxation.value.is_mix in
      subst MayDiffer (sym stood.is) (mix.first_files ∙ sym mix.second_files, differ table range kept (state.nodes c.number) c stood.relaxation found_here.0 (stood.worth, stood.weight) on)

  module _ (file : ℕ) (differs_at : DiffersAt file (entry_at es c.number).finding) where
    differs : IsFirstDifference stood.relaxation.mix.first stood.relaxation.mix.second file
    differs = subst (DiffersAt file) stood.is differs_at

    free : (file < table.files) × (is_free (state.nodes c.number) file ≡ true)
    free = difference_is_free table range (state.nodes c.number) stood.relaxation.mix file found_here.0.relaxation.value.is_mix differs

    pub file_inside : file < table.files
    file_inside = free.0

    pub out_is_below : IsBelow table.files root (put_outside file (state.nodes c.number))
    out_is_below = out_below table.files root (state.nodes c.number) file free.0 free.1 (state.below c.number inside)

    pub in_is_below : IsBelow table.files root (put_inside file (state.nodes c.number))
    in_is_below = in_below table.files root (state.nodes c.number) file free.0 free.1 (state.below c.number inside)

    -- all that the calls told makes the next state
    pub next_state : (mid now : Option Kept) (out inn : Finding) (w1 w2 : List Candidate) → KeepsBetter kept mid → KeepsBetter mid now
        → IsNew table range mid (put_outside file (state.nodes c.number)) out → IsNew table range now (put_inside file (state.nodes c.number)) inn
        → IfSome now (IsKept table range root)
        → ((k : ℕ) → times_in k w1 ≡ waits None out * is_at k (length es) + times_in k rest) → ((k : ℕ) → times_in k w2 ≡ waits None inn * is_at k (length es + 1) + times_in k w1)
        → ((xs : List Entry) → HaveValues xs rest → (entry_at xs (length es)).file ≡ None → (entry_at xs (length es)).finding ≡ out → HaveValues xs w1)
        → ((xs : List Entry) → HaveValues xs w1 → (entry_at xs (length es + 1)).file ≡ None → (entry_at xs (length es + 1)).finding ≡ inn → HaveValues xs w2)
        → IsState table range root now (branchings + 1) (branched es c.number file out inn) w2
    next_state mid now out inn w1 w2 b1 b2 o i plan t1 t2 v1 v2 =
        let after = branched es c.number file out inn in
        let pushed : Pushed es c.number file out inn inside rest w2 = λ j. t2 j ∙ ap (λ (z : ℕ). waits None inn * is_at j (length es + 1) + z) (t1 j) in
        let old : HaveValues after rest = rest_values es c.number file out inn inside c rest refl state.waiting stands
        (All-tail (λ (d : Candidate). IsCandidateOf d (entry_at es d.number).file (entry_at es d.number).finding) c rest state.values) in
        let out_is = entry_at-branched_out es c.number file out inn inside in
        let in_is = entry_at-branched_in es c.number file out inn inside in
        let mid_values = v1 after old (ap (λ (z : Entry). z.file) out_is) (ap (λ (z : Entry). z.finding) out_is) in
        let values = v2 after mid_values (ap (λ (z : Entry). z.file) in_is) (ap (λ (z : Entry). z.finding) in_is) in
        state_branched table range root kept now (better_trans kept mid now b1 b2) branchings es c rest w2 stood.relaxation file out inn state stood.is first differs plan
        (new_later table range mid now (put_outside file (state.nodes c.number)) out b2 o) i pushed values
