-- The net of a node: what each pipe is for.
use Rattle.std.specs.Prelude.{ℕ, suc, ◌+◌, ◌-◌, ◌*◌, ◌/◌, ◌%◌, ◌==◌, nat_lt, Bool, true, not, ◌&&◌, ◌||◌, List, [], ◌∷◌, ◌++◌, length, map, if◌then◌else◌}
use Rattle.std.specs.List.{list_any, list_all}
use Rattle.seed_model.specs.declared.node.Node.{Node}
use Rattle.seed_model.specs.declared.table.Class.{Class}
use Rattle.seed_model.specs.Files.{holds}
use Rattle.seed_model.specs.Keys.{class_at}
use Rattle.seed_model.specs.Nodes.{is_free}
use Rattle.seed_model.specs.Tables.{TableValue}
use Rattle.flow_net.specs.declared.pipes.Pipe.{Pipe}
use Rattle.flow_net.specs.Nets.{NetValue}

-- A slot is a pipe of a class: of its number, of a user, and of its size. The class is filled from the source and drained
-- to the sink, and each free user has a pipe for what it is rewarded and one for what it is charged. A class with a user
-- inside is touched by every member, and one with a user outside is migrated by none: one pipe from source to sink stands
-- for that half of it.
pub data Slot : Type 0 where
  fill : ℕ → ℕ → ℕ → Slot
  drain : ℕ → ℕ → ℕ → Slot
  reward : ℕ → ℕ → ℕ → Slot
  charge : ℕ → ℕ → ℕ → Slot
  barred : ℕ → ℕ → ℕ → Slot
  forced : ℕ → ℕ → ℕ → Slot

-- the nodes: source 0, sink 1, the files, and two for each class
abbrev pub file_node : ℕ → ℕ
file_node f = 2 + f

abbrev pub charge_node : ℕ → ℕ → ℕ
charge_node n k = 2 + n + 2 * k

abbrev pub reward_node : ℕ → ℕ → ℕ
reward_node n k = 3 + n + 2 * k

abbrev pub pipe_of : ℕ → ℕ → ℕ → Slot → Pipe
pipe_of n p q (fill k f z) = record { from = 0; to = reward_node n k; room = p * z }
pipe_of n p q (drain k f z) = record { from = charge_node n k; to = 1; room = q * z }
pipe_of n p q (reward k f z) = record { from = reward_node n k; to = file_node f; room = p * z }
pipe_of n p q (charge k f z) = record { from = file_node f; to = charge_node n k; room = q * z }
pipe_of n p q (barred k f z) = record { from = 0; to = 1; room = p * z }
pipe_of n p q (forced k f z) = record { from = 0; to = 1; room = q * z }

-- the first file that passes a test
abbrev pub first_of : (ℕ → Bool) → List ℕ → ℕ
first_of test [] = 0
first_of test (u ∷ us) = if test u then u else first_of test us

abbrev pub reward_spokes : (ℕ → Bool) → ℕ → ℕ → List ℕ → List Slot
reward_spokes free k z [] = []
reward_spokes free k z (u ∷ us) = if free u then reward k u z ∷ reward_spokes free k z us else reward_spokes free k z us

abbrev pub charge_spokes : (ℕ → Bool) → ℕ → ℕ → List ℕ → List Slot
charge_spokes free k z [] = []
charge_spokes free k z (u ∷ us) = if free u then charge k u z ∷ charge_spokes free k z us else charge_spokes free k z us

abbrev pub reward_slots : Node → ℕ → Class → List Slot
reward_slots node k c =
    if list_any (holds node.outside) c.users then barred k (first_of (holds node.outside) c.users) c.size ∷ []
    else fill k (first_of (λ _. true) c.users) c.size ∷ reward_spokes (is_free node) k c.size c.users

abbrev pub charge_slots : Node → ℕ → Class → List Slot
charge_slots node k c =
    if list_any (holds node.inside) c.users then forced k (first_of (holds node.inside) c.users) c.size ∷ []
    else drain k (first_of (λ _. true) c.users) c.size ∷ charge_spokes (is_free node) k c.size c.users

-- the slots of the classes from number k on
abbrev pub slots_from : Node → ℕ → List Class → List Slot
slots_from node k [] = []
slots_from node k (c ∷ cs) = reward_slots node k c ++ (charge_slots node k c ++ slots_from node (suc k) cs)

-- the net of a node for the slope p/q
abbrev pub net_of : TableValue → ℕ → ℕ → Node → NetValue
net_of table p q node =
    record {
      nodes = 2 + table.files + 2 * length table.classes;
      pipes = map (pipe_of table.files p q) (slots_from node 0 table.classes);
    }

-- the set of files that a side has
abbrev pub set_of : Node → (ℕ → Bool) → ℕ → Bool
set_of node side f = holds node.inside f || (not (holds node.outside f) && side (file_node f))

-- the side that a set of files has: with the files, the charges of the classes touched and the rewards of those within
abbrev pub side_of : TableValue → (ℕ → Bool) → ℕ → Bool
side_of table set v =
    if nat_lt v 2 then v == 0
    else if nat_lt v (2 + table.files) then set (v - 2)
    else if (v - 2 - table.files) % 2 == 0 then list_any set (class_at table.classes ((v - 2 - table.files) / 2)).users
    else list_all set (class_at table.classes ((v - 2 - table.files) / 2)).users
