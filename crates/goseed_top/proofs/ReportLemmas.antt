-- How an order ends over every rack, from how its command ends over the shelf.
use Rattle.std.proofs.Common.{◌≡◌, ℕ, List, Bool, inl, inr}
use Rattle.std.specs.Prelude.{◌⊎◌, Result, IfOk}
use Rattle.std.proofs.lemmas.Result.{IfOk-weaker}
use Rattle.seed_io.specs.Shelf.{Told}
use Rattle.volume_disk.specs.Disk.{Disk}
use Rattle.goseed_words.specs.declared.order.Order.{Order}
use Rattle.goseed_words.specs.Asked.{Asks}
use Rattle.goseed_words.specs.Orders.{asked_of}
use Rattle.command_texts.specs.declared.report.Halt.{Halt}
use Rattle.command_texts.specs.declared.report.Report.{Report}
use Rattle.command_texts.specs.declared.status.Status.{Status}
use Rattle.command_endings.specs.Worlds.{World, ShelfEnding, Reading, OnShelf, Over, OverWorld, EndsOver, ShelfEnds, seen}
use Rattle.command_endings.proofs.WorldLemmas.{over_weaker, on_shelf, reads}
use Rattle.goseed_top.specs.Endings.{AskedEnds, Hears}
use Rattle.goseed_top.specs.Reports.{ShelfAnswers}

-- the order ends as a command of the shelf does
abbrev pub EndsAs : Order → ShelfEnding → Type 0
EndsAs order E = (found left : World) (status : Status) (text : List ℕ) → OnShelf E found status text left → AskedEnds (asked_of order) found status text left

-- words that ask for the order may hear this of a shelf that does not tell its bytes
abbrev pub HearsAs : Bool → Told → Order → (Status → List ℕ → Type 0) → Type 0
HearsAs tells old order H =
    (honest : Bool) (disk : Disk) (words : List (List ℕ)) (status : Status) (text : List ℕ) → Asks words (asked_of order) → H status text → Hears (seen tells old honest disk) words status text

module _ (tells : Bool) (old new : Told) (order : Order) where
  -- it ends over shelf and rack as it does over the shelf
  shelf_ends : (E : ShelfEnding) (status : Status) (text : List ℕ) → EndsAs order E → ShelfEnds tells old new E status text → (honest : Bool) (disk : Disk)
      → EndsOver (seen tells old honest disk) (seen tells new honest disk) (AskedEnds (asked_of order)) status text
  shelf_ends E status text is over honest disk =
      let left_over : World → Type 0 = λ found. OverWorld (seen tells new honest disk) (λ left. OnShelf E found status text left) in
      let asked_over : World → Type 0 = λ found. OverWorld (seen tells new honest disk) (λ left. AskedEnds (asked_of order) found status text left) in
      over_weaker (seen tells old honest disk) left_over asked_over
      (λ found more. over_weaker (seen tells new honest disk) (λ left. OnShelf E found status text left) (λ left. AskedEnds (asked_of order) found status text left)
      (λ left ends. is found left status text ends) more) (on_shelf tells honest old new disk E status text over)

  -- a command of the shelf
  pub ends_so : (E : ShelfEnding) (result : Result Report Halt) → EndsAs order E → IfOk result (λ report. ShelfEnds tells old new E report.status report.text.items)
      → IfOk result (λ report. ShelfAnswers tells old new order report.status report.text.items)
  ends_so E result is ended =
      IfOk-weaker result (λ report. ShelfEnds tells old new E report.status report.text.items) (λ report. ShelfAnswers tells old new order report.status report.text.items)
      (λ report over honest disk. inl (shelf_ends E report.status report.text.items is over honest disk)) ended

  -- one that may hear what a shelf gives that does not tell its bytes
  pub ends_or_hears : (E : ShelfEnding) (H : Status → List ℕ → Type 0) (result : Result Report Halt) → EndsAs order E → HearsAs tells old order H
      → IfOk result (λ report. ShelfEnds tells old new E report.status report.text.items ⊎ H report.status report.text.items)
      → IfOk result (λ report. ShelfAnswers tells old new order report.status report.text.items)
  ends_or_hears E H result is heard ended =
      IfOk-weaker result (λ report. ShelfEnds tells old new E report.status report.text.items ⊎ H report.status report.text.items)
      (λ report. ShelfAnswers tells old new order report.status report.text.items)
      (λ report ends honest disk. elim ends [
        | inl over ↦ inl (shelf_ends E report.status report.text.items is over honest disk)
        | inr hears ↦ inr (λ words asks. heard honest disk words report.status report.text.items asks hears)
      ]) ended

  -- the same of commands that change nothing
  pub reads_so : (E : Told → Status → List ℕ → Type 0) (result : Result Report Halt) → EndsAs order (Reading E) → new ≡ old
      → IfOk result (λ report. Over tells old (λ given. E given report.status report.text.items)) → IfOk result (λ report. ShelfAnswers tells old new order report.status report.text.items)
  reads_so E result is same ended =
      ends_so (Reading E) result is
      (IfOk-weaker result (λ report. Over tells old (λ given. E given report.status report.text.items)) (λ report. ShelfEnds tells old new (Reading E) report.status report.text.items)
      (λ report over. reads tells old new E report.status report.text.items same over) ended)

  pub reads_or_hears : (E : Told → Status → List ℕ → Type 0) (H : Status → List ℕ → Type 0) (result : Result Report Halt) → EndsAs order (Reading E) → HearsAs tells old order H → new ≡ old
      → IfOk result (λ report. Over tells old (λ given. E given report.status report.text.items) ⊎ H report.status report.text.items)
      → IfOk result (λ report. ShelfAnswers tells old new order report.status report.text.items)
  reads_or_hears E H result is heard same ended =
      ends_or_hears (Reading E) H result is heard
      (IfOk-weaker result (λ report. Over tells old (λ given. E given report.status report.text.items) ⊎ H report.status report.text.items)
      (λ report. ShelfEnds tells old new (Reading E) report.status report.text.items ⊎ H report.status report.text.items)
      (λ report ends. elim ends [ inl over ↦ inl (reads tells old new E report.status report.text.items same over) | inr hears ↦ inr hears ]) ended)
