-- Reading what has a name, whatever it is read as.
use Rattle.std.specs.Prelude.{◌≡◌, ℕ, ◌<◌, ◌≤◌, List, length, Some, None}
use Rattle.seed_io.specs.Shelf.{Told}
use Rattle.goseed_words.specs.Commands.{Form, Recipe, Certificate}
use Rattle.goseed_words.specs.Asked.{AsksToRead}
use Rattle.command_texts.specs.declared.status.Status.{Status}
use Rattle.command_texts.specs.Refusals.{Refuses, not_there, too_long}
use Rattle.command_endings.specs.declared.limits.TheConstants.{MOST_RECIPE_BYTES, MOST_CERTIFICATE_BYTES}

-- how many bytes are read at most
abbrev pub most_bytes : Form → ℕ
most_bytes Recipe = MOST_RECIPE_BYTES
most_bytes Certificate = MOST_CERTIFICATE_BYTES

-- the name has these bytes, and they are read
pub record Reads (given : Told) (name : List ℕ) (form : Form) (bytes : List ℕ) : Type 0 where
  pub held : given name ≡ Some bytes
  pub short : length bytes ≤ most_bytes form

-- no bytes have the name, and the command is refused
pub record LacksName (given : Told) (name : List ℕ) (status : Status) (text : List ℕ) : Type 0 where
  pub lacks : given name ≡ None
  pub refuses : Refuses (not_there name) status text

-- the bytes of the name are more than are read, and the command is refused
pub record HoldsTooMuch (given : Told) (name : List ℕ) (form : Form) (status : Status) (text : List ℕ) : Type 0 where
  pub bytes : List ℕ
  pub held : given name ≡ Some bytes
  pub long : most_bytes form < length bytes
  pub refuses : Refuses (too_long name) status text

-- the words ask to read what has a name that no byte string has
pub record AsksForNone (given : Told) (words : List (List ℕ)) : Type 0 where
  pub form : Form
  pub name : List ℕ
  pub asks : AsksToRead words form name
  pub lacks : given name ≡ None

-- the words ask to read these bytes as this
pub record AsksForBytes (given : Told) (words : List (List ℕ)) (form : Form) (bytes : List ℕ) : Type 0 where
  pub name : List ℕ
  pub asks : AsksToRead words form name
  pub held : given name ≡ Some bytes

-- they ask to read more bytes than are read
pub record AsksForMore (given : Told) (words : List (List ℕ)) : Type 0 where
  pub form : Form
  pub bytes : List ℕ
  pub asks : AsksForBytes given words form bytes
  pub long : most_bytes form < length bytes
