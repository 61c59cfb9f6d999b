-- What six images say.
use Rattle.std.proofs.Common.{◌≡◌, ℕ, List, Option, Some, None, refl, ◌∙◌, ap, arith}
use Rattle.std.specs.Prelude.{◌↔◌}
use Rattle.std.specs.Option.{option_and_then, option_map}
use Rattle.site_forms.specs.declared.phase.Phase.{Phase}
use Rattle.site_forms.specs.Halves.{records_at, SameRecords}
use Rattle.site_forms.specs.Phases.{phase_of}
use Rattle.site_forms.specs.Sites.{volume_at, phase_at, state_of, IsFolded}
use Rattle.site_forms.specs.Views.{State}
use Rattle.site_forms.specs.Volumes.{Volume, volume_of}

-- what comes behind another that there is
pub and_then_some : {X Y : Type 0} (f : X → Option Y) (o : Option X) (y : Y) → option_and_then f o ≡ Some y → (x : X) × (o ≡ Some x) × (f x ≡ Some y)
and_then_some f None y is = let no : ⊥ = cc in absurd no
and_then_some f (Some x) y is = (x, refl, is)

map_some : {X Y : Type 0} (f : X → Y) (o : Option X) (y : Y) → option_map f o ≡ Some y → (x : X) × (o ≡ Some x) × (f x ≡ y)
map_some f None y is = let no : ⊥ = cc in absurd no
map_some f (Some x) y is = let same : f x ≡ y = cc in (x, refl, same)

abbrev with_phase : Volume → Volume → Phase → State
with_phase a b phase = record { a = a; b = b; phase = phase }

abbrev of_three : Option Volume → Option Volume → Option Phase → Option State
of_three a b phase = option_and_then (λ x. option_and_then (λ y. option_map (with_phase x y) phase) b) a

-- the state that the three places say
three_said : (a b : Option Volume) (phase : Option Phase) (s : State) → a ≡ Some s.a → b ≡ Some s.b → phase ≡ Some s.phase → of_three a b phase ≡ Some s
three_said a b phase s is_a is_b is_phase = λ i. of_three (is_a i) (is_b i) (is_phase i)

three_parts : (a b : Option Volume) (phase : Option Phase) (s : State) → of_three a b phase ≡ Some s → (a ≡ Some s.a) × (b ≡ Some s.b) × (phase ≡ Some s.phase)
three_parts a b phase s is =
    let one = and_then_some (λ x. option_and_then (λ y. option_map (with_phase x y) phase) b) a s is in
    let two = and_then_some (λ y. option_map (with_phase one.0 y) phase) b s one.2 in
    let three = map_some (with_phase one.0 two.0) phase s two.2 in
    (one.1 ∙ ap (λ (t : State). Some t.a) three.2, two.1 ∙ ap (λ (t : State). Some t.b) three.2, three.1 ∙ ap (λ (t : State). Some t.phase) three.2)

pub state_parts : (c : ℕ → List ℕ) (s : State) → (state_of c ≡ Some s) ↔ ((volume_at c 0 ≡ Some s.a) × (volume_at c 1 ≡ Some s.b) × (phase_at c ≡ Some s.phase))
state_parts c s = (three_parts (volume_at c 0) (volume_at c 1) (phase_at c) s, λ parts. three_said (volume_at c 0) (volume_at c 1) (phase_at c) s parts.0 parts.1 parts.2)

-- with the same records at every place
abbrev of_records : Option (List (List ℕ)) → Option (List (List ℕ)) → Option (List (List ℕ)) → Option State
of_records a b j = of_three (option_and_then volume_of a) (option_and_then volume_of b) (option_and_then phase_of j)

pub same_state : (b c : ℕ → List ℕ) → SameRecords b c → state_of c ≡ state_of b
same_state b c same =
    let a = same 0 (omega arith) in
    let beside = same 1 (omega arith) in
    let j = same 2 (omega arith) in
    λ i. of_records (a i) (beside i) (j i)

-- the records that it folds from
pub state_folded : (c : ℕ → List ℕ) (s : State) → state_of c ≡ Some s → IsFolded s
state_folded c s is =
    let parts = (state_parts c s).0 is in
    let a = and_then_some volume_of (records_at c 0) s.a parts.0 in
    let b = and_then_some volume_of (records_at c 1) s.b parts.1 in
    let j = and_then_some phase_of (records_at c 2) s.phase parts.2 in
    record { records_a = a.0; records_b = b.0; records_j = j.0; a = a.2; b = b.2; phase = j.2 }
