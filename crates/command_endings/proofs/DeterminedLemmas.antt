-- What a command finds determines how it ends, from what its bytes determine.
use Rattle.std.proofs.Common.{◌≡◌, ◌∙◌, ℕ, List, sym}
use Rattle.seed_io.specs.Shelf.{Told}
use Rattle.command_texts.specs.declared.status.Status.{Status}
use Rattle.command_texts.specs.Refusals.{Refuses, Refusal}
use Rattle.command_endings.specs.Laws.{IsDetermined, IsSameEndWith, IsOneText}
use Rattle.command_endings.specs.Worlds.{ShelfEnding, Reading, OnShelf}

-- one status, and texts that have this in common
abbrev pub IsSameWith : (List ℕ → List ℕ → Type 0) → Status → Status → List ℕ → List ℕ → Type 0
IsSameWith SameText one other text told = (one ≡ other) × SameText text told

-- one status and one text
abbrev pub IsSame : Status → Status → List ℕ → List ℕ → Type 0
IsSame = IsSameWith IsOneText

-- one refusal
pub record IsRefused (one other : Status) (text told : List ℕ) : Type 0 where
  pub refusal : Refusal
  pub first : Refuses refusal one text
  pub second : Refuses refusal other told

pub refused : (refusal : Refusal) (one other : Status) (text told : List ℕ) → Refuses refusal one text → Refuses refusal other told → IsRefused one other text told
refused refusal one other text told p q = record { refusal = refusal; first = p; second = q }

pub same_refused : (one other : Status) (text told : List ℕ) → IsRefused one other text told → IsSame one other text told
same_refused one other text told r = (r.first.answers ∙ sym r.second.answers, r.first.prints ∙ sym r.second.prints)

pub same_refusal : (refusal : Refusal) (one other : Status) (text told : List ℕ) → Refuses refusal one text → Refuses refusal other told → IsSame one other text told
same_refusal refusal one other text told p q = (p.answers ∙ sym q.answers, p.prints ∙ sym q.prints)

-- one status, texts that have this in common, and one thing left behind each name
pub record IsSameLeft (SameText : List ℕ → List ℕ → Type 0) (one other : Status) (text told : List ℕ) (left kept : Told) : Type 0 where
  pub statuses : one ≡ other
  pub texts : SameText text told
  pub files : (name : List ℕ) → left name ≡ kept name

abbrev pub IsDeterminedOn : (List ℕ → List ℕ → Type 0) → ShelfEnding → Type 0
IsDeterminedOn SameText Ends = (found : Told) (one other : Status) (text told : List ℕ) (left kept : Told) → Ends found one text left → Ends found other told kept
    → IsSameLeft SameText one other text told left kept

-- a command of the shelf
pub on_shelf_determined : (SameText : List ℕ → List ℕ → Type 0) (Ends : ShelfEnding) → IsDeterminedOn SameText Ends → IsDetermined (IsSameEndWith SameText) (OnShelf Ends)
on_shelf_determined SameText Ends same found one other text told left kept p q =
    let is = same found.files one other text told left.files kept.files p.ends q.ends in
    record { statuses = is.statuses; texts = is.texts; files = is.files; devices = λ dev within. p.same dev within ∙ sym (q.same dev within) }

-- a command that changes nothing
pub reading_determined : (SameText : List ℕ → List ℕ → Type 0) (P : Told → Status → List ℕ → Type 0)
    → ((given : Told) (one other : Status) (text told : List ℕ) → P given one text → P given other told → IsSameWith SameText one other text told) → IsDeterminedOn SameText (Reading P)
reading_determined SameText P same found one other text told left kept p q =
    let is = same found one other text told p.ends q.ends in
    record { statuses = is.0; texts = is.1; files = λ name. p.same name ∙ sym (q.same name) }
