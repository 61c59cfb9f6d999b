-- Lines that stand where they may, by the nodes that are waiting.
use Rattle.std.proofs.Common.{◌≡◌, ℕ, suc, ◌+◌, ◌-◌, List, ◌∷◌, true, false, Option, Some, None, refl, sym, ◌∙◌, ap, arith, eqb, inl, inr, if◌then◌else◌}
use Rattle.std.proofs.lemmas.Bool.{cases_Bool, ne_eqb}
use Rattle.bound_cert.specs.declared.place.Place.{Place}
use Rattle.bound_cert.specs.declared.place.Place.TheVariants.{AtNode, AtGive, Past}
use Rattle.bound_cert.specs.Lines.{Entry, Branch, Give, IsLine}
use Rattle.bound_cert.specs.Grammar.{LeadsOn, after, after_all, after_node, after_give, at_gives, is_above}
use Rattle.bound_cert.proofs.Places.{two_steps}

pub some_same : {X : Type 0} {x y : X} → Some x ≡ Some y → x ≡ y
some_same e = cc

-- lines that lead on do so behind the first
pub leads_next : (place next : Place) (e : Entry) (es : List Entry) → after place e ≡ Some next → LeadsOn place (e ∷ es) → IsLine e × LeadsOn next es
leads_next place next e es a h =
    let s = two_steps (λ n. after_all n es) (after place e) Past h.placed in
    let same : s.0 ≡ next = some_same (sym s.1 ∙ a) in
    (h.lawful.0, record { lawful = h.lawful.1; placed = ap (λ (n : Place). after_all n es) (sym same) ∙ s.2 })

pub not_zero : (n : ℕ) → eqb (suc n) 0 ≡ false
not_zero n = ne_eqb (suc n) 0 (λ e. omega (arith, e))

-- at a node that so many others follow
pub at_node : (n : ℕ) (e : Entry) → after (AtNode (suc n)) e ≡ after_node n e
at_node n e = let m : suc n - 1 ≡ n = omega arith in rw (not_zero n, m) refl

pub at_branch : (n f : ℕ) (p q : List ℕ) (a b : ℕ) → after (AtNode (suc n)) (Branch f p q a b) ≡ Some (AtNode (suc (suc n)))
at_branch n f p q a b = at_node n (Branch f p q a b) ∙ (let m : n + 2 ≡ suc (suc n) = omega arith in ap (λ (k : ℕ). Some (AtNode k)) m)

-- at a give that others of its leaf follow
pub at_give : (n k : ℕ) (last : Option (ℕ × ℕ)) (c f a b : ℕ) (next : Place) → after (AtGive n (suc k) last) (Give c f a b) ≡ Some next
    → (is_above c f last ≡ true) × (next ≡ at_gives n k (Some (c, f)))
at_give n k last c f a b next h =
    let m : suc k - 1 ≡ k = omega arith in
    let g : (if is_above c f last then Some (at_gives n k (Some (c, f))) else None) ≡ Some next = sym (rw (not_zero k, m) refl) ∙ h in
    elim (cases_Bool (is_above c f last)) [ inl t ↦ (t, some_same (sym (rw t at g))) | inr e ↦ absurd (cc (rw e at g)) ]

-- an entry at a place gives it
pub give_after : (n k : ℕ) (last : Option (ℕ × ℕ)) (c f a b : ℕ) → is_above c f last ≡ true → after (AtGive n (suc k) last) (Give c f a b) ≡ Some (at_gives n k (Some (c, f)))
give_after n k last c f a b t = let m : suc k - 1 ≡ k = omega arith in rw (not_zero k, m, t) refl

pub at_give_line : (n k : ℕ) (last : Option (ℕ × ℕ)) (e : Entry) → after (AtGive n (suc k) last) e ≡ after_give n k last e
at_give_line n k last e = let m : suc k - 1 ≡ k = omega arith in rw (not_zero k, m) refl
