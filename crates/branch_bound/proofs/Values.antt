-- The values of nodes and of those below them, and what plans are offered.
use Rattle.std.proofs.Common.{◌≡◌, ℕ, ◌*◌, ◌<◌, ◌≤◌, Bool, true, false, Option, Some, None, List, inl, inr, refl, sym, ◌∙◌, arith}
use Rattle.std.proofs.lemmas.Bool.{cases_Bool}
use Rattle.std.proofs.Math.Nat.{mul-le-mul_right, le_of_mul-le-mul_right}
use Rattle.seed_model.specs.declared.node.Node.{Node}
use Rattle.seed_model.specs.declared.node.Mix.{Mix}
use Rattle.seed_model.specs.declared.range.Range.{Range}
use Rattle.seed_model.specs.Differences.{IsFirstDifference}
use Rattle.seed_model.specs.Files.{holds}
use Rattle.seed_model.specs.Tables.{TableValue}
use Rattle.seed_model.specs.Nodes.{IsNode, IsMember, IsMix, is_free, put_inside, put_outside}
use Rattle.seed_model.proofs.NodeMembers.{members_go_up, free_files_split}
use Rattle.branch_bound.specs.declared.entry.Kept.{Kept}
use Rattle.branch_bound.specs.declared.entry.Relaxation.{Relaxation}
use Rattle.branch_bound.specs.declared.entry.Finding.{Finding}
use Rattle.branch_bound.specs.declared.entry.Finding.TheVariants.{Low, High, Valued}
use Rattle.branch_bound.specs.Fractions.{Fraction, AtMost, value_of_mix}
use Rattle.branch_bound.specs.States.{IsOffered, KeepsBetter, IsBelow, IsKnown, IsNew}

-- the middle denominator is not 0
pub at_most_trans : (a b c : Fraction) → 0 < b.under → AtMost a b → AtMost b c → AtMost a c
at_most_trans a b c p h k =
    let x = mul-le-mul_right c.under h in
    let y = mul-le-mul_right a.under k in
    let z : a.over * c.under * b.under ≤ c.over * a.under * b.under = omega (arith, x, y) in
    le_of_mul-le-mul_right z p

module _ (table : TableValue) (range : Range) (node : Node) where
  -- the two sets of a mix differ first at a free file
  pub difference_is_free : (mix : Mix) (file : ℕ) → IsMix table range node mix → IsFirstDifference mix.first mix.second file → (file < table.files) × (is_free node file ≡ true)
  difference_is_free mix file m d =
      let within : file < table.files = omega (arith, d.within, m.first_files) in
      let not_in : holds node.inside file ≡ false = elim (cases_Bool (holds node.inside file)) as (λ _. holds node.inside file ≡ false) [
        | inl i ↦ absurd (d.differs (m.first.has file within i ∙ sym (m.second.has file within i)))
        | inr i ↦ i
      ] in
      let not_out : holds node.outside file ≡ false = elim (cases_Bool (holds node.outside file)) as (λ _. holds node.outside file ≡ false) [
        | inl o ↦ absurd (d.differs (m.first.lacks file within o ∙ sym (m.second.lacks file within o)))
        | inr o ↦ o
      ] in
      (within, rw (not_in, not_out) refl)

  -- a mix of a child is one of its parent
  mix_up : (child : Node) (mix : Mix) → ((set : ℕ → Bool) → IsMember table.files child set → IsMember table.files node set) → IsMix table range child mix → IsMix table range node mix
  mix_up child mix up m = record {
    first_files = m.first_files;
    second_files = m.second_files;
    first = up (holds mix.first) m.first;
    second = up (holds mix.second) m.second;
    weighed = m.weighed;
    enough = m.enough;
    no_more = m.no_more;
  }

  -- so its value is no less
  pub child_value : (kept now : Option Kept) (child : Node) (r s : Relaxation) → ((set : ℕ → Bool) → IsMember table.files child set → IsMember table.files node set)
      → IsKnown table range kept node r → IsKnown table range now child s → AtMost (value_of_mix table r.mix) (value_of_mix table s.mix)
  child_value kept now child r s up k l = k.relaxation.value.least s.mix (mix_up child s.mix up l.relaxation.value.is_mix)

-- the children of a node are nodes below the root
pub out_up : (files : ℕ) (node : Node) (file : ℕ) → IsNode files node → file < files → (set : ℕ → Bool) → IsMember files (put_outside file node) set → IsMember files node set
out_up files node file one h set m = (members_go_up files node file set one h).1 m

pub in_up : (files : ℕ) (node : Node) (file : ℕ) → IsNode files node → file < files → (set : ℕ → Bool) → IsMember files (put_inside file node) set → IsMember files node set
in_up files node file one h set m = (members_go_up files node file set one h).0 m

pub out_below : (files : ℕ) (root node : Node) (file : ℕ) → file < files → is_free node file ≡ true → IsBelow files root node → IsBelow files root (put_outside file node)
out_below files root node file h free b = record {
  is_node = (free_files_split files node file b.is_node free).1;
  members = λ set m. b.members set (out_up files node file b.is_node h set m);
}

pub in_below : (files : ℕ) (root node : Node) (file : ℕ) → file < files → is_free node file ≡ true → IsBelow files root node → IsBelow files root (put_inside file node)
in_below files root node file h free b = record {
  is_node = (free_files_split files node file b.is_node free).0;
  members = λ set m. b.members set (in_up files node file b.is_node h set m);
}

-- what is no better than a plan is no better than a later one
pub offered_later : (table : TableValue) (range : Range) (kept now : Option Kept) (set : List Bool) → KeepsBetter kept now → IsOffered table range kept set → IsOffered table range now set
offered_later table range None now set b o = λ i. absurd (o i)
offered_later table range (Some k) None set b o = absurd b
offered_later table range (Some k) (Some l) set b o = λ i. omega (arith, b, o i)

pub known_later : (table : TableValue) (range : Range) (kept now : Option Kept) (node : Node) (r : Relaxation) → KeepsBetter kept now → IsKnown table range kept node r → IsKnown table range now node r
known_later table range kept now node r b k = record {
  multipliers = k.multipliers;
  relaxation = k.relaxation;
  p = k.p;
  q = k.q;
  worth = k.worth;
  first = offered_later table range kept now r.mix.first b k.first;
  second = offered_later table range kept now r.mix.second b k.second;
}

pub better_trans : (a b c : Option Kept) → KeepsBetter a b → KeepsBetter b c → KeepsBetter a c
better_trans None b c h k = tt
better_trans (Some x) None c h k = absurd h
better_trans (Some x) (Some y) None h k = absurd k
better_trans (Some x) (Some y) (Some z) h k = omega (arith, h, k)

pub better_refl : (a : Option Kept) → KeepsBetter a a
better_refl None = tt
better_refl (Some x) = omega arith

pub new_later : (table : TableValue) (range : Range) (kept now : Option Kept) (node : Node) (finding : Finding) → KeepsBetter kept now → IsNew table range kept node finding → IsNew table range now node finding
new_later table range kept now node Low b i = i
new_later table range kept now node High b i = i
new_later table range kept now node (Valued r) b i = known_later table range kept now node r b i
