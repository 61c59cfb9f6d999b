-- What the amounts on a node's net give.
use Rattle.std.specs.Prelude.{ℕ, suc, ◌+◌, ◌-◌, ◌*◌, ◌<◌, ◌^◌, ◌||◌, not, Bool, List, [], ◌∷◌, ◌++◌, length, map, drop, slice_index_or, if◌then◌else◌}
use Rattle.std.specs.List.{filter, list_any}
use Rattle.seed_model.specs.declared.node.Node.{Node}
use Rattle.seed_model.specs.declared.table.Class.{Class}
use Rattle.seed_model.specs.Files.{holds}
use Rattle.seed_model.specs.Nodes.{is_free}
use Rattle.seed_model.specs.Tables.{TableValue}
use Rattle.bound_cert.specs.declared.multipliers.Give.{Give}
use Rattle.bound_cert.specs.declared.multipliers.Multipliers.{Multipliers}
use Rattle.hull_bound.specs.Forms.{is_some_give}
use Rattle.hull_bound.specs.Slots.{Slot, fill, drain, reward, charge, barred, forced, reward_slots, charge_slots}

-- what an amount on the slot's pipe gives
abbrev pub give_of : ℕ → Slot → ℕ → Give
give_of p (fill k f z) x = record { class = k; file = f; charge = 0; reward = p * z - x }
give_of p (drain k f z) x = record { class = k; file = f; charge = 0; reward = 0 }
give_of p (reward k f z) x = record { class = k; file = f; charge = 0; reward = x }
give_of p (charge k f z) x = record { class = k; file = f; charge = x; reward = 0 }
give_of p (barred k f z) x = record { class = k; file = f; charge = 0; reward = p * z }
give_of p (forced k f z) x = record { class = k; file = f; charge = x; reward = 0 }

-- a slot and the amount on its pipe
pub record Load : Type 0 where
  pub slot : Slot
  pub amount : ℕ

abbrev pub loads_of : List Slot → List ℕ → List Load
loads_of [] xs = []
loads_of (s ∷ ss) [] = []
loads_of (s ∷ ss) (x ∷ xs) = record { slot = s; amount = x } ∷ loads_of ss xs

abbrev pub given : ℕ → Load → Give
given p l = give_of p l.slot l.amount

abbrev pub gives_of : ℕ → List Slot → List ℕ → List Give
gives_of p ss xs = map (given p) (loads_of ss xs)

abbrev pub multipliers_of : ℕ → ℕ → List Give → Multipliers
multipliers_of p q gives = record { p = p; q = q; gives = gives }

-- the next amount, for a free user
abbrev pub taken : Bool → List ℕ → ℕ
taken free xs = if free then slice_index_or xs 0 0 else 0

abbrev pub left_over : Bool → List ℕ → List ℕ
left_over free xs = if free then drop 1 xs else xs

-- One give to each user of a class, in one walk along them. Each free user takes the next amount of each half. The first
-- user that passes a test takes the rest of the rewards, and the first that passes another what all must pay.
abbrev pub walk : (ℕ → Bool) → (ℕ → Bool) → (ℕ → Bool) → ℕ → List ℕ → ℕ → ℕ → List ℕ → List ℕ → List Give
walk free lead payer k [] rest due xs ys = []
walk free lead payer k (u ∷ us) rest due xs ys =
    record {
      class = k;
      file = u;
      charge = (if payer u then due else 0) + taken (free u) ys;
      reward = (if lead u then rest else 0) + taken (free u) xs;
    } ∷ walk free lead payer k us (if lead u then 0 else rest) (if payer u then 0 else due) (left_over (free u) xs) (left_over (free u) ys)

-- the amounts of a class begin with those of its rewards
abbrev pub charge_amounts : Node → ℕ → Class → List ℕ → List ℕ
charge_amounts node k c xs = drop (length (reward_slots node k c)) xs

-- who takes the rest of a class's rewards: a user outside, or else any user
abbrev pub asked : Node → Bool → ℕ → Bool
asked node b u = not b || holds node.outside u

abbrev pub class_gives : ℕ → Node → ℕ → Class → List ℕ → List Give
class_gives p node k c xs =
    walk (is_free node) (asked node (list_any (holds node.outside) c.users)) (holds node.inside) k c.users
    (if list_any (holds node.outside) c.users then p * c.size else p * c.size - slice_index_or xs 0 0)
    (if list_any (holds node.inside) c.users then slice_index_or (charge_amounts node k c xs) 0 0 else 0)
    (if list_any (holds node.outside) c.users then [] else drop 1 xs)
    (if list_any (holds node.inside) c.users then [] else drop 1 (charge_amounts node k c xs))

-- one give to each user of each class, in order
abbrev pub walked_from : ℕ → Node → ℕ → List Class → List ℕ → List Give
walked_from p node k [] xs = []
walked_from p node k (c ∷ cs) xs = class_gives p node k c xs ++ walked_from p node (suc k) cs (drop (length (reward_slots node k c ++ charge_slots node k c)) xs)

-- and those of nothing left out
abbrev pub node_gives : ℕ → TableValue → Node → List ℕ → List Give
node_gives p table node amounts = filter is_some_give (walked_from p node 0 table.classes amounts)

-- no amount is too large to be added to another
abbrev pub AreSmall : List ℕ → Type 0
AreSmall amounts = (i : ℕ) → slice_index_or amounts i 0 < 2 ^ 104
