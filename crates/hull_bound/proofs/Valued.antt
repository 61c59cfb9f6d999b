-- The mix of the search rule has the value of its node, which the multipliers prove.
use Rattle.std.proofs.Common.{inl, inr, ◌≡◌, ◌⊎◌, ℕ, zero, suc, ◌+◌, ◌-◌, ◌*◌, ◌^◌, ◌≤◌, ◌<◌, Bool, true, false, cond, leb, refl, sym, ◌∙◌, ap, length, arith}
use Rattle.std.specs.Int.{IsGcd}
use Rattle.std.proofs.lemmas.Nat.{mul-le}
use Rattle.std.proofs.lemmas.Bool.{cases_lt, cases_eq, eq-eqb, ne_eqb}
use Rattle.seed_model.specs.declared.node.Node.{Node}
use Rattle.seed_model.specs.declared.node.Mix.{Mix}
use Rattle.seed_model.specs.declared.range.Range.{Range}
use Rattle.seed_model.specs.Files.{holds}
use Rattle.seed_model.specs.Ranges.{IsRange}
use Rattle.seed_model.specs.Tables.{TableValue, IsTable}
use Rattle.seed_model.specs.Sums.{migrated_of, touched_of, replicated_of}
use Rattle.seed_model.specs.Nodes.{IsMix, weight_of, mixed_replicated}
use Rattle.seed_model.proofs.ClassSums.{splits}
use Rattle.bound_cert.specs.declared.multipliers.Multipliers.{Multipliers}
use Rattle.bound_cert.specs.Multipliers.{won, lost, turning_point}
use Rattle.bound_cert.proofs.Duality.{weak_duality}
use Rattle.bound_cert.proofs.Soundness.{bounds_mixes}
use Rattle.hull_bound.specs.Forms.{AreMultipliersAt}
use Rattle.hull_bound.specs.Minima.{IsMinimum}
use Rattle.hull_bound.specs.Relaxations.{IsSearchMix, AreOfOneValue, IsRelaxation}
use Rattle.hull_bound.proofs.Exchange.{one_value, least_value}

-- what is attained by one member is attained by each minimum
pub minimum_attains : (table : TableValue) (node : Node) (m : Multipliers) (set : ℕ → Bool) → AreMultipliersAt table node m.p m.q m → IsMinimum table m.p m.q node set
    → won table.files node m.gives + m.p * migrated_of set table ≡ lost table.files node m.gives + m.q * touched_of set table
minimum_attains table node m set at minimum =
    let bound = weak_duality table node set m at.multipliers minimum.member in
    let least = minimum.least at.attained.set at.attained.member in
    omega (arith, bound, least, at.attained.attained)

-- weights by the distances to a number have it as their mean
mean : (mp mq aim a b : ℕ) → aim ≡ mp + b → mq ≡ aim + a → a * mp + b * mq ≡ aim * (a + b)
mean mp mq aim a b low high =
    let e1 = ap (λ (n : ℕ). a * n) low in
    let e2 = ap (λ (n : ℕ). b * n) high in
    let e3 = ap (λ (n : ℕ). b * n) low in
    omega (arith, e1, e2, e3)

module _ (table : TableValue) (range : Range) (node : Node) (p q : ℕ) (mix : Mix) (lawful : IsTable table) (fits : IsRange range) (s : IsSearchMix table range node p q mix) where
  abbrev mp : ℕ
  mp = migrated_of (holds mix.first) table

  abbrev mq : ℕ
  mq = migrated_of (holds mix.second) table

  abbrev Weighed : Type 0
  Weighed = (mix.alpha * mp + mix.beta * mq ≡ s.aim * (mix.alpha + mix.beta)) × (0 < mix.alpha + mix.beta)

  weighed : Weighed
  weighed = elim (cases_eq mp mq) as (λ _. Weighed) [
    | inl e ↦
        let alpha : mix.alpha ≡ 1 = s.alpha ∙ ap (λ (b : Bool). cond b 1 (mq - s.aim)) (eq-eqb mp mq e) in
        let beta : mix.beta ≡ 0 = omega (arith, s.beta, s.below, s.above, e) in
        let e1 = ap (λ (n : ℕ). n * mp) alpha in
        let e2 = ap (λ (n : ℕ). n * mq) beta in
        let e3 = ap (λ (n : ℕ). s.aim * n) alpha in
        let e4 = ap (λ (n : ℕ). s.aim * n) beta in
        (omega (arith, e1, e2, e3, e4, e, s.below, s.above), omega (arith, alpha))
    | inr n ↦
        let alpha : mix.alpha ≡ mq - s.aim = s.alpha ∙ ap (λ (b : Bool). cond b 1 (mq - s.aim)) (ne_eqb mp mq n) in
        (mean mp mq s.aim mix.alpha mix.beta (omega (arith, s.beta, s.below)) (omega (arith, alpha, s.above)), apart n alpha)
  ]
    where
      apart : (mp ≡ mq → ⊥) → mix.alpha ≡ mq - s.aim → 0 < mix.alpha + mix.beta
      apart n alpha = elim (cases_eq (mix.alpha + mix.beta) 0) as (λ _. 0 < mix.alpha + mix.beta) [
        | inl none ↦ absurd (n (omega (arith, none, alpha, s.beta, s.below, s.above)))
        | inr some ↦ positive (mix.alpha + mix.beta) some
      ]
        where
          positive : (n : ℕ) → (n ≡ 0 → ⊥) → 0 < n
          positive zero h = absurd (h refl)
          positive (suc n) h = omega arith

  in_range : (range.low ≤ s.aim) × (s.aim ≤ range.high)
  in_range = elim s.is_aim.where_ as (λ _. (range.low ≤ s.aim) × (s.aim ≤ range.high)) [
    | inl meets ↦ (omega (arith, meets), omega (arith, meets, fits.ordered))
    | inr (inl short) ↦ (omega (arith, short), omega (arith, short, fits.ordered))
    | inr (inr past) ↦ (omega (arith, past, fits.ordered), omega (arith, past))
  ]

  pub is_mix : length mix.first ≡ table.files → length mix.second ≡ table.files → IsMix table range node mix
  is_mix first second =
      let low = mul-le range.low (weight_of mix) s.aim (weight_of mix) in_range.0 (omega arith) in
      let high = mul-le s.aim (weight_of mix) range.high (weight_of mix) in_range.1 (omega arith) in
      record {
        first_files = first;
        second_files = second;
        first = s.minima.first_is.member;
        second = s.minima.last_is.member;
        weighed = weighed.1;
        enough = omega (arith, low, weighed.0);
        no_more = omega (arith, high, weighed.0);
      }

  -- The bound is taken at the aim: it is taken at the end of the range on whose side the slope is, or wherever where that is 1.
  module _ (m : Multipliers) (at : AreMultipliersAt table node m.p m.q m) (same_p : m.p ≡ p) (same_q : m.q ≡ q) (turns : (s.aim ≡ turning_point range p q) ⊎ (p ≡ q)) where
    at_aim : (won table.files node m.gives + p * s.aim) * weight_of mix ≡ (lost table.files node m.gives + q * s.aim) * weight_of mix + q * mixed_replicated table mix
    at_aim =
        let w : ℕ = won table.files node m.gives in
        let l : ℕ = lost table.files node m.gives in
        let here : AreMultipliersAt table node m.p m.q m = at in
        let one = minimum_at (holds mix.first) s.minima.first_is in
        let two = minimum_at (holds mix.second) s.minima.last_is in
        let e1 = ap (λ (n : ℕ). q * n) (splits table (holds mix.first) lawful) in
        let e2 = ap (λ (n : ℕ). q * n) (splits table (holds mix.second) lawful) in
        one_value w l p q mp mq (replicated_of (holds mix.first) table) (replicated_of (holds mix.second) table) mix.alpha mix.beta s.aim
        (omega (arith, one, e1)) (omega (arith, two, e2)) weighed.0
      where
        minimum_at : (set : ℕ → Bool) → IsMinimum table p q node set → won table.files node m.gives + p * migrated_of set table ≡ lost table.files node m.gives + q * touched_of set table
        minimum_at set minimum =
            let there : IsMinimum table m.p m.q node set = rw (same_p, same_q) minimum in
            rw (← same_p, ← same_q) (minimum_attains table node m set at there)

    one_value_here : AreOfOneValue table range node m mix
    one_value_here =
        let w : ℕ = won table.files node m.gives in
        let l : ℕ = lost table.files node m.gives in
        let k : ℕ = turning_point range p q in
        let c : ℕ = weight_of mix in
        rw (same_p, same_q)
        (elim turns as (λ _. (w + p * k) * c ≡ (l + q * k) * c + q * mixed_replicated table mix) [
          | inl e ↦ rw (← e) at_aim
          | inr e ↦
              let e1 = ap (λ (n : ℕ). n * (k * c)) e in
              let e2 = ap (λ (n : ℕ). n * (s.aim * c)) e in
              omega (arith, at_aim, e1, e2)
        ])

    pub relaxed : length mix.first ≡ table.files → length mix.second ≡ table.files → IsGcd m.p m.q 1 → IsSearchMix table range node m.p m.q mix → mix.alpha < 2 ^ 51 → mix.beta < 2 ^ 51 → IsRelaxation table range node m mix
    relaxed first second lowest search alpha_fits beta_fits = record {
      multipliers = at;
      lowest = lowest;
      search = search;
      one_value = one_value_here;
      alpha_fits = alpha_fits;
      beta_fits = beta_fits;
      value = record {
        is_mix = is_mix first second;
        least = λ other its.
            let k : ℕ = turning_point range m.p m.q in
            let up : ℕ = won table.files node m.gives + m.p * k in
            let down : ℕ = lost table.files node m.gives + m.q * k in
            least_value up down m.q (mixed_replicated table mix) (weight_of mix) (mixed_replicated table other) (weight_of other) at.multipliers.positive one_value_here
            (bounds_mixes table range node other m lawful at.multipliers its);
      };
    }

-- a slope on the side of the aim takes the bound there, or is 1
pub turns_at : (range : Range) (p q aim : ℕ) (short : Bool) → aim ≡ cond short range.low range.high → (short ≡ true → q ≤ p) → (short ≡ false → p ≤ q)
    → (aim ≡ turning_point range p q) ⊎ (p ≡ q)
turns_at range p q aim true e steep flat =
    let le = steep refl in
    let at : leb q p ≡ true = grind (arith, le) in
    inl (e ∙ sym (ap (λ (b : Bool). cond b range.low range.high) at))
turns_at range p q aim false e steep flat = elim (cases_lt p q) as (λ _. (aim ≡ turning_point range p q) ⊎ (p ≡ q)) [
  | inl l ↦
      let at : leb q p ≡ false = grind (arith, l) in
      inl (e ∙ sym (ap (λ (b : Bool). cond b range.low range.high) at))
  | inr g ↦ let le = flat refl in inr (omega (arith, g, le))
]
