-- How commands end and what they leave, from what their words mean.
use Rattle.std.proofs.Common.{◌≡◌, ◌∙◌, ℕ, List, ◌++◌, Bool, true, false, refl, sym, ap, inl, inr, take, arith}
use Rattle.std.specs.Prelude.{◌⊎◌, Result, Ok, Err, option_map}
use Rattle.seed_io.specs.Shelf.{Told}
use Rattle.volume_disk.specs.Disk.{Disk}
use Rattle.goseed_words.specs.declared.order.Order.{Order}
use Rattle.goseed_words.specs.declared.order.WordError.{WordError}
use Rattle.goseed_words.specs.Asked.{Asks, IsCreated, UsesSite, asking}
use Rattle.goseed_words.specs.Commands.{Gen, row}
use Rattle.goseed_words.specs.Orders.{Means, MeansNoOrder, OneMeaning, asked_of}
use Rattle.command_texts.specs.declared.status.Status.{Status}
use Rattle.command_texts.specs.Refusals.{Refuses}
use Rattle.command_endings.specs.Creating.{LeavesOthers}
use Rattle.command_endings.specs.Worlds.{World, ShelfEnding, Reading, OnShelf, Seen, seen, OverWorld, EndsOver}
use Rattle.command_endings.proofs.WorldLemmas.{images, over_devices, over_weaker, on_shelf, reads, same_name}
use Rattle.goseed_top.specs.Endings.{Answers, AskedEnds, Ends, Hears, MayEnd, MeaningEnds, CreatesDrawn, CreatesFront, LeavesPart, PrintsPart, no_order}
use Rattle.goseed_top.specs.Reports.{OrderAnswers}
use Rattle.trial_commands.specs.Gen.{GenEnds, HoldsDrawnFront, LeavesDrawn, document_name, recipe_name}
use Rattle.trial_commands.proofs.GenLemmas.{both_here, ends_with_both, with_both}

-- how words end, from how their meaning ends
pub means : (old new : Seen) (words : List (List ℕ)) (meaning : Result Order WordError) (status : Status) (text : List ℕ) → Means words meaning
    → EndsOver old new (MeaningEnds meaning) status text → EndsOver old new (Ends words) status text
means old new words meaning status text mean over =
    over_weaker old (λ found. OverWorld new (λ left. MeaningEnds meaning found status text left)) (λ found. OverWorld new (λ left. Ends words found status text left))
    (λ found more. over_weaker new (λ left. MeaningEnds meaning found status text left) (λ left. Ends words found status text left) (λ left ends. record { meaning = meaning; means = mean; ends = ends }) more) over

-- how words end that mean no order
pub ends_error : (tells honest : Bool) (map : Told) (disk : Disk) (words : List (List ℕ)) (error : WordError) (status : Status) (text : List ℕ) → Means words (Err error)
    → Refuses (no_order error) status text → EndsOver (seen tells map honest disk) (seen tells map honest disk) (Ends words) status text
ends_error tells honest map disk words error status text mean refuses =
    means (seen tells map honest disk) (seen tells map honest disk) words (Err error) status text mean
    (on_shelf tells honest map map disk (Reading (λ given. Refuses (no_order error))) status text
    (reads tells map map (λ given. Refuses (no_order error)) status text refl (record { given = map; told = λ told name. refl; holds = refuses })))

-- the same of how an order ends
pub means_order : (old new : Seen) (words : List (List ℕ)) (order : Order) (status : Status) (text : List ℕ) → Asks words (asked_of order)
    → OrderAnswers old new order status text → Answers old new words status text
means_order old new words order status text asks (inl over) = inl (means old new words (Ok order) status text asks over)
means_order old new words order status text asks (inr hears) = inr (hears words asks)

-- what a command printed that was stopped while it printed
pub front_printed : (old new : Seen) (words : List (List ℕ)) (status : Status) (text before after : List ℕ) → Answers old new words status text
    → (count : ℕ) × (after ≡ before ++ take count text) → PrintsPart old words before after
front_printed old new words status text before after answers front =
    inr (record { status = status; text = text; ends = may_end answers; count = front.0; taken = front.1 })
  where
    may_end : Answers old new words status text → MayEnd old words status text ⊎ Hears old words status text
    may_end (inl over) =
        let left = over.holds.holds in
        inl (record {
          left = record { files = left.given; devices = left.holds.given };
          ends = record { given = over.given; told = over.told; holds = record { given = over.holds.given; told = over.holds.told; holds = left.holds.holds } };
        })
    may_end (inr hears) = inr hears

-- what a command leaves that changed nothing
pub leaves_same : (old : Seen) (new : Told) (words : List (List ℕ)) → new ≡ old.map → LeavesPart old new words
leaves_same old new words same name = inl (ap (λ (m : Told). m name) same)

-- what a command of the shelf leaves that creates a name
pub leaves_created : (old : Seen) (new : Told) (words : List (List ℕ)) (name : List ℕ) (order : Order) (E : ShelfEnding) → Asks words (asked_of order) → IsCreated words name
    → ((found left : World) (status : Status) (text : List ℕ) → OnShelf E found status text left → AskedEnds (asked_of order) found status text left)
    → LeavesOthers old.tells old.map new name E → LeavesPart old new words
leaves_created old new words name order E asks created is leaves other = elim (same_name other name) [
  | inl same ↦ rw same
      (elim leaves.part as (λ _. (new name ≡ old.map name) ⊎ (CreatesFront old words name (new name) ⊎ CreatesDrawn words name (new name))) [
        | inl before ↦ inl before
        | inr front ↦ inr (inl
            (record {
              created = created;
              status = front.status;
              text = front.text;
              left = record { files = front.left; devices = images old.disk };
              ends = over_devices old (λ found. E found front.status front.text front.left)
                  (λ found. Ends words found front.status front.text (record { files = front.left; devices = images old.disk })) (λ found ends. record {
                    meaning = Ok order;
                    means = asks;
                    ends = is (record { files = found; devices = images old.disk }) (record { files = front.left; devices = images old.disk }) front.status front.text
                        (record { ends = ends; same = λ dev in_range. refl });
                  }) front.ends;
              count = front.count;
              front = front.front;
            }))
      ])
  | inr apart ↦ inl (leaves.others other apart)
]

-- the names that `gen` creates
pub created_drawn : (words : List (List ℕ)) (name : List ℕ) (number files : ℕ) → Asks words (asking Gen number files) → (name ≡ recipe_name) ⊎ (name ≡ document_name) → IsCreated words name
created_drawn words name number files asks (inl is) = record { command = Gen; fits = asks.fits; created = inr (0, omega arith, sym is) }
created_drawn words name number files asks (inr is) = record { command = Gen; fits = asks.fits; created = inr (1, omega arith, sym is) }

-- what `gen` leaves
pub leaves_names : (old : Seen) (new : Told) (words : List (List ℕ)) (number files : ℕ) (order : Order) → Asks words (asked_of order) → Asks words (asking Gen number files)
    → ((found left : World) (status : Status) (text : List ℕ) → OnShelf (GenEnds number files) found status text left → AskedEnds (asked_of order) found status text left)
    → LeavesDrawn number files old.map new → LeavesPart old new words
leaves_names old new words number files order asked asks is leaves name = elim (same_name name recipe_name) [
  | inl at ↦ rw at
      (elim leaves.recipe as (λ _. (new recipe_name ≡ old.map recipe_name) ⊎ (CreatesFront old words recipe_name (new recipe_name) ⊎ CreatesDrawn words recipe_name (new recipe_name))) [
        | inl before ↦ inl before
        | inr some ↦ inr (inr (record { number = number; files = files; asks = asks; is = refl; count = some.0; front = some.1 }))
      ])
  | inr apart ↦ elim (same_name name document_name) [
    | inl at ↦ rw at
        (elim leaves.document as (λ _. (new document_name ≡ old.map document_name) ⊎ (CreatesFront old words document_name (new document_name) ⊎ CreatesDrawn words document_name (new document_name))) [
          | inl before ↦ inl before
          | inr front ↦ inr (inl (front_left front))
        ])
    | inr from ↦ inl (leaves.others name apart from)
  ]
]
  where
    front_left : HoldsDrawnFront number files (new document_name) → CreatesFront old words document_name (new document_name)
    front_left front =
        let holds = front.holds in
        let left : Told = with_both number files old.map holds.whole in
        record {
          created = created_drawn words document_name number files asks (inr refl);
          status = holds.status;
          text = holds.text;
          left = record { files = left; devices = images old.disk };
          ends = over_devices old (λ found. GenEnds number files found holds.status holds.text left)
              (λ found. Ends words found holds.status holds.text (record { files = left; devices = images old.disk })) (λ found ends. record {
                meaning = Ok order;
                means = asked;
                ends = is (record { files = found; devices = images old.disk }) (record { files = left; devices = images old.disk }) holds.status holds.text
                    (record { ends = ends; same = λ dev in_range. refl });
              })
              (record {
                given = old.map;
                told = λ told other. refl;
                holds = ends_with_both number files old.map holds.status holds.text holds.whole (record { recipe = front.recipe; drawn = front.drawn; printed = holds.printed });
              });
          count = holds.count;
          front = holds.front ∙ ap (option_map (take holds.count)) (sym (both_here number files old.map holds.whole));
        }

-- a name that is not created stays
pub leaves_others : (old : Seen) (new : Told) (words : List (List ℕ)) → LeavesPart old new words → (name : List ℕ) → ¬ IsCreated words name → new name ≡ old.map name
leaves_others old new words leaves name none = elim (leaves name) [
  | inl same ↦ same
  | inr part ↦ elim part [ inl front ↦ absurd (none front.created) | inr drawn ↦ absurd (none (created_drawn words name drawn.number drawn.files drawn.asks (inl drawn.is))) ]
]

-- words mean no order, or ask for one
pub asked_or_none : OneMeaning → (words : List (List ℕ)) (order : Order) → Means words (Ok order) → MeansNoOrder words → ⊥
asked_or_none one words order mean none = one words (Ok order) (Err none.0) mean none.1

-- an order whose words ask for no command that uses the site
pub off_site : (words : List (List ℕ)) (order : Order) → Asks words (asked_of order) → ¬ UsesSite words → (row (asked_of order).command).uses_site ≡ false
off_site words order asks none = by_use (row (asked_of order).command).uses_site refl
  where
    by_use : (uses : Bool) → (row (asked_of order).command).uses_site ≡ uses → (row (asked_of order).command).uses_site ≡ false
    by_use true is = absurd (none (record { command = (asked_of order).command; fits = asks.fits; uses = is }))
    by_use false is = is
