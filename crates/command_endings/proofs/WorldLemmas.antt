-- What holds over a shelf and a rack, from what holds over the shelf.
use Rattle.std.proofs.Common.{◌≡◌, ◌≢◌, ◌∙◌, ℕ, List, Bool, true, false, refl, sym, ap, inl, inr}
use Rattle.std.specs.Prelude.{◌⊎◌, bytes_eq}
use Rattle.std.specs.Cmp.Lexicographic.{same_text, other_text}
use Rattle.seed_io.specs.Shelf.{Told}
use Rattle.volume_disk.specs.Disk.{Disk, Images}
use Rattle.command_texts.specs.declared.status.Status.{Status}
use Rattle.command_endings.specs.Worlds.{World, ShelfEnding, Reading, OnShelf, Over, Seen, seen, OverWorld, EndsOver, ShelfEnds}

-- a command that changes nothing
pub reads : (tells : Bool) (old new : Told) (P : Told → Status → List ℕ → Type 0) (status : Status) (text : List ℕ) → new ≡ old → Over tells old (λ given. P given status text)
    → ShelfEnds tells old new (Reading P) status text
reads tells old new P status text same over = record {
  given = over.given;
  told = over.told;
  holds = record {
    given = over.given;
    told = λ told name. over.told told name ∙ ap (λ (m : Told). m name) (sym same);
    holds = record { ends = over.holds; same = λ name. refl };
  };
}

-- the images of the devices
pub images : Disk → Images
images disk dev = (disk dev).image

-- what holds over the shelf holds over shelf and rack, whatever the devices hold
pub over_devices : (old : Seen) (P : Told → Type 0) (Q : World → Type 0) → ((files : Told) → P files → Q (record { files = files; devices = images old.disk })) → Over old.tells old.map P
    → OverWorld old Q
unfolding images
over_devices old P Q more over = record { given = over.given; told = over.told; holds = record { given = images old.disk; told = λ honest dev in_range. refl; holds = more over.given over.holds } }

-- a command of the shelf
pub on_shelf : (tells honest : Bool) (old new : Told) (disk : Disk) (E : ShelfEnding) (status : Status) (text : List ℕ) → ShelfEnds tells old new E status text
    → EndsOver (seen tells old honest disk) (seen tells new honest disk) (OnShelf E) status text
on_shelf tells honest old new disk E status text over =
    over_devices (seen tells old honest disk) (λ found. Over tells new (λ left. E found status text left))
    (λ found. OverWorld (seen tells new honest disk) (λ left. OnShelf E found status text left))
    (λ found more. over_devices (seen tells new honest disk) (λ left. E found status text left)
    (λ left. OnShelf E (record { files = found; devices = images disk }) status text left) (λ left ends. record { ends = ends; same = λ dev in_range. refl }) more) over

-- what is weaker holds too
pub over_weaker : (old : Seen) (P Q : World → Type 0) → ((world : World) → P world → Q world) → OverWorld old P → OverWorld old Q
over_weaker old P Q weaker over = record {
  given = over.given;
  told = over.told;
  holds = record { given = over.holds.given; told = over.holds.told; holds = weaker (record { files = over.given; devices = over.holds.given }) over.holds.holds };
}

-- two names are one or two
pub same_name : (a b : List ℕ) → (a ≡ b) ⊎ (a ≢ b)
same_name a b = by_test (bytes_eq a b) refl
  where
    by_test : (test : Bool) → test ≡ bytes_eq a b → (a ≡ b) ⊎ (a ≢ b)
    by_test true e = inl (same_text a b e)
    by_test false e = inr (other_text a b e)
