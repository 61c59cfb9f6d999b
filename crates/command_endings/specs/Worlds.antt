-- What a command finds outside, and what it leaves there.
use Rattle.std.specs.Prelude.{◌≡◌, ℕ, ◌≤◌, List, Option, Bool, true}
use Rattle.seed_io.specs.Shelf.{Told, OthersStay}
use Rattle.volume_disk.specs.Disk.{Disk, Images}
use Rattle.command_texts.specs.declared.status.Status.{Status}
use Rattle.command_texts.specs.declared.status.Status.TheVariants.{Refused}

-- the byte strings by name, and the images of the devices
pub record World : Type 0 where
  pub files : Told
  pub devices : Images

-- how a command ends: what it finds, its status, what it prints, and what it leaves
abbrev pub Ending : Type 1
Ending = World → Status → List ℕ → World → Type 0

-- the same of the byte strings alone
abbrev pub ShelfEnding : Type 1
ShelfEnding = Told → Status → List ℕ → Told → Type 0

-- a command that ends so over what it finds, and changes nothing
pub record Reading (Ends : Told → Status → List ℕ → Type 0) (found : Told) (status : Status) (text : List ℕ) (left : Told) : Type 0 where
  pub ends : Ends found status text
  pub same : (name : List ℕ) → left name ≡ found name

-- a command that creates a name, ends so, and leaves that behind the name; refused, it changes nothing
pub record Creating (name : List ℕ) (Ends : Told → Status → List ℕ → Option (List ℕ) → Type 0) (found : Told) (status : Status) (text : List ℕ) (left : Told) : Type 0 where
  pub ends : Ends found status text (left name)
  pub others : OthersStay found left name
  pub refused : (number : ℕ) → status ≡ Refused number → left name ≡ found name

-- a command that leaves the devices alone
pub record OnShelf (Ends : ShelfEnding) (found : World) (status : Status) (text : List ℕ) (left : World) : Type 0 where
  pub ends : Ends found.files status text left.files
  pub same : (dev : ℕ) → dev ≤ 5 → left.devices dev ≡ found.devices dev

-- it holds of some byte strings by name, which are the shelf's where it tells them
pub record Over (tells : Bool) (map : Told) (Holds : Told → Type 0) : Type 0 where
  pub given : Told
  pub told : tells ≡ true → (name : List ℕ) → given name ≡ map name
  pub holds : Holds given

-- it holds of some images, which are the devices' where the rack is honest
pub record OverDevices (honest : Bool) (disk : Disk) (Holds : Images → Type 0) : Type 0 where
  pub given : Images
  pub told : honest ≡ true → (dev : ℕ) → dev ≤ 5 → given dev ≡ (disk dev).image
  pub holds : Holds given

-- a shelf and a rack, as far as they tell
pub record Seen : Type 0 where
  pub tells : Bool
  pub map : Told
  pub honest : Bool
  pub disk : Disk

abbrev pub seen : Bool → Told → Bool → Disk → Seen
seen tells map honest disk = record { tells = tells; map = map; honest = honest; disk = disk }

-- it holds of some world, which is that of the shelf where it tells and of the rack where it is honest
abbrev pub OverWorld : Seen → (World → Type 0) → Type 0
OverWorld seen Holds = Over seen.tells seen.map (λ files. OverDevices seen.honest seen.disk (λ devices. Holds (record { files = files; devices = devices })))

-- it ends so over what shelf and rack held, and leaves what they hold
abbrev pub EndsOver : Seen → Seen → Ending → Status → List ℕ → Type 0
EndsOver old new Ends status text = OverWorld old (λ found. OverWorld new (λ left. Ends found status text left))

-- the same of the shelf alone
abbrev pub ShelfEnds : Bool → Told → Told → ShelfEnding → Status → List ℕ → Type 0
ShelfEnds tells old new Ends status text = Over tells old (λ found. Over tells new (λ left. Ends found status text left))
