-- The steps of building a net.
use Rattle.std.proofs.Common.{◌≡◌, ℕ, suc, ◌+◌, ◌^◌, ◌≤◌, ◌<◌, Bool, true, get_or, length, drop, List, [], ◌∷◌, ◌++◌, refl, sym, ◌∙◌, ap, arith, length-append, append_assoc}
use Rattle.std.specs.Prelude.{map}
use Rattle.std.proofs.lemmas.List.{length-map}
use Rattle.std.proofs.Math.Seq.{drop-cons}
use Rattle.flow_net.specs.declared.pipes.Pipe.{Pipe}
use Rattle.hull_bound.specs.Slots.{Slot, pipe_of, slots_from, reward_slots, charge_slots, reward_spokes, charge_spokes}
use Rattle.seed_model.specs.Keys.{class_at, no_class}
use Rattle.seed_model.specs.declared.table.Class.{Class}
use Rattle.seed_model.specs.Tables.{TableValue, IsTable}
use Rattle.hull_bound.proofs.Lawful.{slots_few}
use Rattle.seed_model.specs.declared.node.Node.{Node}

-- where the next user is free, a pipe more is to come
pub rewards_come : (free : ℕ → Bool) (k z : ℕ) (us : List ℕ) (i : ℕ) → i < length us → free (get_or us i 0) ≡ true → 0 < length (reward_spokes free k z (drop i us))
rewards_come free k z us i h f = rw (drop-cons us i 0, f) (omega arith)

pub few_left : (n p q : ℕ) (now old : List Pipe) (some all : List Slot) → now ++ map (pipe_of n p q) some ≡ old ++ map (pipe_of n p q) all
    → length old + length all ≤ 2 ^ 24 → 0 < length some → length now < 2 ^ 24
few_left n p q now old some all e few more =
    let sums = ap (λ (ps : List Pipe). length ps) e in
    omega (arith, sums, length-append now (map (pipe_of n p q) some), length-append old (map (pipe_of n p q) all), length-map some (pipe_of n p q), length-map all (pipe_of n p q))

pub charges_come : (free : ℕ → Bool) (k z : ℕ) (us : List ℕ) (i : ℕ) → i < length us → free (get_or us i 0) ≡ true → 0 < length (charge_spokes free k z (drop i us))
charges_come free k z us i h f = rw (drop-cons us i 0, f) (omega arith)

map_append : (f : Slot → Pipe) (xs ys : List Slot) → map f (xs ++ ys) ≡ map f xs ++ map f ys
map_append f [] ys = refl
map_append f (x ∷ xs) ys = ap (λ (ps : List Pipe). f x ∷ ps) (map_append f xs ys)

-- the slots of a class are the next
pub slots_next : (node : Node) (cs : List Class) (k : ℕ) → k < length cs
    → slots_from node k (drop k cs) ≡ reward_slots node k (class_at cs k) ++ (charge_slots node k (class_at cs k) ++ slots_from node (k + 1) (drop (k + 1) cs))
slots_next node cs k h =
    let next : suc k ≡ k + 1 = omega arith in
    rw (drop-cons cs k no_class) (ap (λ (m : ℕ). reward_slots node k (class_at cs k) ++ (charge_slots node k (class_at cs k) ++ slots_from node m (drop m cs))) next)

module _ (table : TableValue) (f : Slot → Pipe) (node : Node) (now : List Pipe) (k : ℕ) (lawful : IsTable table) (h : k < length table.classes)
    (left : now ++ map f (slots_from node k (drop k table.classes)) ≡ map f (slots_from node 0 table.classes)) where
  abbrev rs : List Slot
  rs = reward_slots node k (class_at table.classes k)

  abbrev hs : List Slot
  hs = charge_slots node k (class_at table.classes k)

  abbrev rest : List Slot
  rest = slots_from node (k + 1) (drop (k + 1) table.classes)

  spread : now ++ (map f rs ++ (map f hs ++ map f rest)) ≡ map f (slots_from node 0 table.classes)
  spread =
      let e1 = ap (map f) (slots_next node table.classes k h) in
      let e2 = map_append f rs (hs ++ rest) ∙ ap (λ (ps : List Pipe). map f rs ++ ps) (map_append f hs rest) in
      ap (λ (ps : List Pipe). now ++ ps) (sym (e1 ∙ e2)) ∙ left

  lengths : length now + (length rs + (length hs + length rest)) ≤ 2 ^ 24
  lengths =
      let e = ap (λ (ps : List Pipe). length ps) spread in
      omega (
        arith,
        e,
        length-append now (map f rs ++ (map f hs ++ map f rest)),
        length-append (map f rs) (map f hs ++ map f rest),
        length-append (map f hs) (map f rest),
        length-map rs f,
        length-map hs f,
        length-map rest f,
        length-map (slots_from node 0 table.classes) f,
        slots_few node 0 table.classes,
        lawful.classes,
        lawful.pairs,
      )

  pub few_rewards : length now + length rs ≤ 2 ^ 24
  few_rewards = omega (arith, lengths)

  pub few_charges : (next : List Pipe) → next ≡ now ++ map f rs → length next + length hs ≤ 2 ^ 24
  few_charges next e =
      let sums = ap (λ (ps : List Pipe). length ps) e in
      omega (arith, lengths, sums, length-append now (map f rs), length-map rs f)

  pub left_next : (next last : List Pipe) → next ≡ now ++ map f rs → last ≡ next ++ map f hs → last ++ map f rest ≡ map f (slots_from node 0 table.classes)
  left_next next last e1 e2 = rw (e2, e1) (simp append_assoc spread)
