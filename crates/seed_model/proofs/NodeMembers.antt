-- Members of nodes: the sums between which theirs lie, and the children that they are members of.
use Rattle.std.proofs.Common.{◌≡◌, ◌+◌, ◌<◌, ℕ, List, Bool, true, false, length, arith, inl, inr, refl, sym, ◌∙◌, not, replicate, set, ◌⊎◌}
use Rattle.std.specs.Prelude.{MatchBool, IsTrue}
use Rattle.std.proofs.lemmas.Bool.{cases_Bool, cases_eq, and_parts, not-true}
use Rattle.std.proofs.lemmas.List.{length-set, length-replicate, get_or-replicate, get_or-set_same, get_or-set_other}
use Rattle.std.proofs.lemmas.Nat.{mul-le}
use Rattle.seed_model.specs.declared.node.Node.{Node}
use Rattle.seed_model.specs.Files.{holds}
use Rattle.seed_model.specs.Sums.{migrated_of}
use Rattle.seed_model.specs.Nodes.{IsMember, put_inside, put_outside, smallest_member, largest_member, weight_of}
use Rattle.seed_model.specs.NodeLaws.{EndsAreMembers, MembersLieBetween, LowNodesAdmitNone, HighNodesAdmitNone, FreeFilesSplit, MembersGoDown, MembersGoUp, UndecidedAdmitsAll}
use Rattle.seed_model.proofs.ClassSums.{grows}

-- a fact that cannot be true is false
turned : (b c : Bool) → (b ≡ true → c ≡ false) → c ≡ true → b ≡ false
turned true c h e = let k = h refl in cc
turned false c h e = refl

pub ends : EndsAreMembers
ends files node n = (
  record { has = λ f lt h. h; lacks = λ f lt h. turned (holds node.inside f) (holds node.outside f) (n.apart f lt) h },
  record { has = λ f lt h. rw (n.apart f lt h) refl; lacks = λ f lt h. rw h refl },
)

below_largest : (files : ℕ) (node : Node) (s : ℕ → Bool) → IsMember files node s → (f : ℕ) → f < files → IsTrue (s f) → IsTrue (largest_member node f)
below_largest files node s m f lt h = rw (turned (holds node.outside f) (s f) (m.lacks f lt) h) refl

pub between : MembersLieBetween
between table node s t m =
    let low = grows table (smallest_member node) s t m.has in
    let high = grows table s (largest_member node) t (below_largest table.files node s m) in
    (low.0, high.0, low.1)

pub low_none : LowNodesAdmitNone
low_none table range node t low = (
  λ s a. omega (arith, between table node s t a.member, a.in_range.enough, low),
  λ mix x.
      let m : ℕ = migrated_of (largest_member node) table in
      let one = mul-le mix.alpha (migrated_of (holds mix.first) table) mix.alpha m (omega arith) (between table node (holds mix.first) t x.first).1 in
      let two = mul-le mix.beta (migrated_of (holds mix.second) table) mix.beta m (omega arith) (between table node (holds mix.second) t x.second).1 in
      let less = mul-le (m + 1) (weight_of mix) range.low (weight_of mix) (omega (arith, low)) (omega arith) in
      omega (arith, one, two, less, x.enough, x.weighed),
)

pub high_none : HighNodesAdmitNone
high_none table range node t high = (
  λ s a. omega (arith, between table node s t a.member, a.in_range.no_more, high),
  λ mix x.
      let m : ℕ = migrated_of (smallest_member node) table in
      let one = mul-le mix.alpha m mix.alpha (migrated_of (holds mix.first) table) (omega arith) (between table node (holds mix.first) t x.first).0 in
      let two = mul-le mix.beta m mix.beta (migrated_of (holds mix.second) table) (omega arith) (between table node (holds mix.second) t x.second).0 in
      let less = mul-le (range.high + 1) (weight_of mix) m (weight_of mix) (omega (arith, high)) (omega arith) in
      omega (arith, one, two, less, x.no_more, x.weighed),
)

-- the flags of a set with one file more
put_true : (flags : List Bool) (f g : ℕ) → g < length flags → g ≡ f → holds (set flags f true) g ≡ true
put_true flags f g lt e = rw e (get_or-set_same flags f true false (omega (arith, e, lt)))

-- who is in the set with a file more is that file or was in it
put_cases : (flags : List Bool) (f g : ℕ) → holds (set flags f true) g ≡ true → (g ≡ f) ⊎ (holds flags g ≡ true)
put_cases flags f g h = elim (cases_eq g f) [ inl e ↦ inl e | inr ne ↦ inr (sym (get_or-set_other flags f g true false ne) ∙ h) ]

-- who was in it still is
put_keeps : (flags : List Bool) (f g : ℕ) → f < length flags → holds flags g ≡ true → holds (set flags f true) g ≡ true
put_keeps flags f g lt h = elim (cases_eq g f) [ inl e ↦ put_true flags f g (omega (arith, e, lt)) e | inr ne ↦ get_or-set_other flags f g true false ne ∙ h ]

pub free_files_split : FreeFilesSplit
free_files_split files node f n free =
    let parts = and_parts (not (holds node.inside f)) (not (holds node.outside f)) free in
    let not_in = not-true (holds node.inside f) parts.0 in
    let not_out = not-true (holds node.outside f) parts.1 in (
      record {
        inside = length-set node.inside f true ∙ n.inside;
        outside = n.outside;
        apart = λ g lt h. elim (put_cases node.inside f g h) [ inl e ↦ rw e not_out | inr was ↦ n.apart g lt was ];
      },
      record {
        inside = n.inside;
        outside = length-set node.outside f true ∙ n.outside;
        apart = λ g lt h. elim (cases_eq g f) [ inl e ↦ let k = rw e at h in cc | inr ne ↦ get_or-set_other node.outside f g true false ne ∙ n.apart g lt h ];
      },
    )

pub members_go_down : MembersGoDown
members_go_down files node f s m = elim (cases_Bool (s f)) as (λ _. MatchBool (s f) (IsMember files (put_inside f node) s) (IsMember files (put_outside f node) s)) [
  | inl t ↦ rw t (record { has = λ g lt h. elim (put_cases node.inside f g h) [ inl e ↦ rw e t | inr was ↦ m.has g lt was ]; lacks = m.lacks })
  | inr e ↦ rw e (record { has = m.has; lacks = λ g lt h. elim (put_cases node.outside f g h) [ inl same ↦ rw same e | inr was ↦ m.lacks g lt was ] })
]

pub members_go_up : MembersGoUp
members_go_up files node f s n lt = (
  λ m. record { has = λ g l h. m.has g l (put_keeps node.inside f g (omega (arith, lt, n.inside)) h); lacks = m.lacks },
  λ m. record { has = m.has; lacks = λ g l h. m.lacks g l (put_keeps node.outside f g (omega (arith, lt, n.outside)) h) },
)

none_there : (files f : ℕ) → f < files → holds (replicate files false) f ≡ true → ⊥
none_there files f lt h = let e = get_or-replicate files f false false lt in cc

pub undecided_admits : UndecidedAdmitsAll
undecided_admits files = (
  record { inside = length-replicate files false; outside = length-replicate files false; apart = λ f lt h. get_or-replicate files f false false lt },
  λ s. record { has = λ f lt h. absurd (none_there files f lt h); lacks = λ f lt h. absurd (none_there files f lt h) },
)
