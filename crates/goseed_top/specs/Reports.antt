-- How an order ends, and what it leaves, whatever words ask for it.
use Rattle.std.specs.Prelude.{◌≡◌, ◌⊎◌, ℕ, List, Bool}
use Rattle.seed_io.specs.Shelf.{Told}
use Rattle.volume_disk.specs.Disk.{Disk}
use Rattle.goseed_words.specs.declared.order.Order.{Order}
use Rattle.goseed_words.specs.Asked.{Asks, IsCreated}
use Rattle.goseed_words.specs.Orders.{asked_of}
use Rattle.command_texts.specs.declared.status.Status.{Status}
use Rattle.command_endings.specs.Worlds.{Seen, seen, EndsOver}
use Rattle.goseed_top.specs.Endings.{AskedEnds, Hears, LeavesPart}

-- how it ends over a shelf and a rack: as what they hold determines it, where the shelf tells its bytes
abbrev pub OrderAnswers : Seen → Seen → Order → Status → List ℕ → Type 0
OrderAnswers old new order status text =
    EndsOver old new (AskedEnds (asked_of order)) status text ⊎ ((words : List (List ℕ)) → Asks words (asked_of order) → Hears old words status text)

-- what it left, stopped or not
abbrev pub OrderLeaves : Seen → Told → Order → Type 0
OrderLeaves old new order = (words : List (List ℕ)) → Asks words (asked_of order) → LeavesPart old new words

-- where it creates no name, nothing has changed
abbrev pub OrderKeeps : Told → Told → Order → Type 0
OrderKeeps old new order = (words : List (List ℕ)) → Asks words (asked_of order) → ((name : List ℕ) → ¬ IsCreated words name) → new ≡ old

-- how an order ends that leaves the rack alone, and what it left: so over every rack
abbrev pub ShelfAnswers : Bool → Told → Told → Order → Status → List ℕ → Type 0
ShelfAnswers tells old new order status text = (honest : Bool) (disk : Disk) → OrderAnswers (seen tells old honest disk) (seen tells new honest disk) order status text

abbrev pub ShelfLeaves : Bool → Told → Told → Order → Type 0
ShelfLeaves tells old new order = (honest : Bool) (disk : Disk) → OrderLeaves (seen tells old honest disk) new order
