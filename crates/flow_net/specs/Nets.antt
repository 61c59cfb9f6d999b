use Rattle.std.specs.Prelude.{◌≢◌, ℕ, ◌^◌, ◌<◌, ◌≤◌, List, length, slice_index_or}
use Rattle.flow_net.specs.declared.pipes.Pipe.{Pipe}

-- what a net is seen as
pub record NetValue : Type 0 where
  pub nodes : ℕ
  pub pipes : List Pipe

-- what a filling is seen as: the amount on each pipe of its net, and how many pushes were made on it
pub record FillingValue : Type 0 where
  pub amounts : List ℕ
  pub pushes : ℕ

abbrev pub no_pipe : Pipe
no_pipe = record { from = 0; to = 0; room = 0 }

-- the pipe of a number
abbrev pub pipe_at : List Pipe → ℕ → Pipe
pipe_at pipes i = slice_index_or pipes i no_pipe

-- a pipe between two nodes that differ
pub record IsPipe (nodes : ℕ) (pipe : Pipe) : Type 0 where
  pub from_is_node : pipe.from < nodes
  pub to_is_node : pipe.to < nodes
  pub apart : pipe.from ≢ pipe.to
  pub small : pipe.room < 2 ^ 104

-- the limits of a net
pub record IsNet (net : NetValue) : Type 0 where
  pub few_nodes : net.nodes ≤ 2 ^ 22
  pub few_pipes : length net.pipes ≤ 2 ^ 24
  pub pipes : (i : ℕ) → i < length net.pipes → IsPipe net.nodes (pipe_at net.pipes i)
