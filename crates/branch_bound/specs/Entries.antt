-- The nodes of a search as they are kept: by number, in the order in which they were made.
use Rattle.std.specs.Prelude.{◌≡◌, ℕ, ◌+◌, ◌<◌, List, [], ◌∷◌, ◌++◌, length, Bool, true, false, Option, Some, None, slice_index_or, slice_set}
use Rattle.seed_model.specs.declared.node.Node.{Node}
use Rattle.seed_model.specs.Nodes.{put_inside, put_outside}
use Rattle.branch_bound.specs.declared.entry.Origin.{Origin}
use Rattle.branch_bound.specs.declared.entry.Finding.{Finding}
use Rattle.branch_bound.specs.declared.entry.Finding.TheVariants.{Low}
use Rattle.branch_bound.specs.declared.entry.Entry.{Entry}

-- past the end stands a node at which nothing was found
abbrev pub no_entry : Entry
no_entry = record { origin = None; finding = Low; file = None; next = None }

abbrev pub entry_at : List Entry → ℕ → Entry
entry_at es number = slice_index_or es number no_entry

-- a search begins with its root alone
abbrev pub root_entry : Finding → Entry
root_entry finding = record { origin = None; finding = finding; file = None; next = None }

-- the child of a node with a file put on one side
abbrev pub child_entry : ℕ → ℕ → Bool → Finding → Option ℕ → Entry
child_entry parent file inside finding next =
    record { origin = Some (record { parent = parent; file = file; inside = inside }); finding = finding; file = None; next = next }

-- a node that is branched on a file: behind it come its two children, first the one with the file outside
abbrev pub branched_entry : Entry → ℕ → ℕ → Entry
branched_entry e file next = record e { file = Some file; next = Some next }

-- a node is branched; its children are the last two made
abbrev pub branched : List Entry → ℕ → ℕ → Finding → Finding → List Entry
branched es number file out inn =
    slice_set es number (branched_entry (entry_at es number) file (length es))
    ++ (child_entry number file false out (Some (length es + 1)) ∷ child_entry number file true inn (entry_at es number).next ∷ [])

-- a parent is made before its children, and a file of it is put on one side
abbrev pub IsOrigin : ℕ → ℕ → Option Origin → Type 0
IsOrigin files number None = Unit {0}
IsOrigin files number (Some origin) = (origin.parent < number) × (origin.file < files)

abbrev pub AreOrigins : ℕ → List Entry → Type 0
AreOrigins files es = (number : ℕ) → number < length es → IsOrigin files number (entry_at es number).origin

-- the node with a file put on one side
abbrev pub child_node : Bool → ℕ → Node → Node
child_node true file node = put_inside file node
child_node false file node = put_outside file node

-- a node is the root, or that of its parent with the file put on its side
abbrev pub node_by : Node → (ℕ → Node) → Option Origin → Node
node_by root nodes None = root
node_by root nodes (Some origin) = child_node origin.inside origin.file (nodes origin.parent)

-- the nodes of the entries, by number
abbrev pub AreNodes : Node → List Entry → (ℕ → Node) → Type 0
AreNodes root es nodes = (number : ℕ) → number < length es → nodes number ≡ node_by root nodes (entry_at es number).origin
