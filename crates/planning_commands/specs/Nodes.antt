-- Nodes of a search, as two words spell them.
use Rattle.std.specs.Prelude.{◌≡◌, ◌⊎◌, ℕ, ◌+◌, List, Bool}
use Rattle.seed_model.specs.declared.node.Node.{Node}
use Rattle.seed_model.specs.Differences.{AreApart}
use Rattle.seed_model.specs.Files.{holds}
use Rattle.seed_model.specs.Nodes.{IsNode}
use Rattle.command_texts.specs.declared.status.Status.{Status}
use Rattle.command_texts.specs.Refusals.{Refuses, bad_word}
use Rattle.planning_commands.specs.Weigh.{IsNoSet, SpellsSet}

-- two words spell a node of so many files: the set of the files inside and the set of those outside, which have no file in
-- common
pub record SpellsNode (files : ℕ) (word other : List ℕ) (node : Node) : Type 0 where
  pub inside : SpellsSet files word node.inside
  pub outside : SpellsSet files other node.outside
  pub apart : IsNode files node

-- both words spell sets of so many files, which have a file in common
pub record SpellsMeeting (files : ℕ) (word other : List ℕ) : Type 0 where
  pub first : List Bool
  pub second : List Bool
  pub inside : SpellsSet files word first
  pub outside : SpellsSet files other second
  pub meet : ¬ AreApart files (holds first) (holds second)

-- the first word spells a set of so many files, and the second none
pub record SpellsOneSet (files : ℕ) (word other : List ℕ) : Type 0 where
  pub first : List Bool
  pub inside : SpellsSet files word first
  pub none : IsNoSet files other

-- Two words spell no node of so many files, and the word at this place is bad: the first one, which stands at a place, where
-- it is no set; else the second, behind it, where it is no set or has a file of the first.
abbrev pub IsBadNode : ℕ → List ℕ → List ℕ → ℕ → ℕ → Type 0
IsBadNode files inside outside place bad =
    ((bad ≡ place) × IsNoSet files inside) ⊎ ((bad ≡ place + 1) × (SpellsOneSet files inside outside ⊎ SpellsMeeting files inside outside))

-- two words spell no node, and the command is refused for the bad one
pub record RefusesNode (files : ℕ) (inside outside : List ℕ) (place : ℕ) (status : Status) (text : List ℕ) : Type 0 where
  pub bad : ℕ
  pub fault : IsBadNode files inside outside place bad
  pub refuses : Refuses (bad_word bad) status text
