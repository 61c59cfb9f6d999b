-- Each command is lawful, and so are words: one ending, and a cause for it.
use Rattle.std.proofs.Common.{◌≡◌, ℕ, List, Bool, refl, sym, subst, inl, inr}
use Rattle.std.specs.Prelude.{◌⊎◌, Result, Ok, Err}
use Rattle.seed_io.specs.Shelf.{Told}
use Rattle.recipe_reader.specs.Recipes.{RecipeValue}
use Rattle.goseed_words.specs.declared.order.Order.{Order}
use Rattle.goseed_words.specs.declared.order.WordError.{WordError}
use Rattle.goseed_words.specs.declared.order.WordError.TheVariants as word
use Rattle.goseed_words.specs.Asked.{Asked}
use Rattle.goseed_words.specs.Commands.{Command, Best, Weigh, Check, Relax, Plan, Pinned, Gen, Greedy, Gap, Sort, Carry}
use Rattle.goseed_words.specs.Orders.{Means, asked_of, IsSameMeaning, OneMeaning}
use Rattle.command_texts.specs.declared.status.Status.{Status}
use Rattle.command_texts.specs.declared.status.Status.TheVariants.{Done, No, Refused, Outside, Memory}
use Rattle.command_texts.specs.Refusals.{Refuses, no_recipe}
use Rattle.command_endings.specs.Laws.{IsDetermined, IsLawfulCommand, IsOneText}
use Rattle.command_endings.specs.Worlds.{World, Seen, OverWorld, EndsOver}
use Rattle.command_endings.proofs.DeterminedLemmas.{same_refusal, on_shelf_determined, reading_determined}
use Rattle.command_endings.proofs.WorldLemmas.{over_weaker}
use Rattle.order_commands.specs.Carry.{HearsCarry, HearsPlan}
use Rattle.order_commands.specs.Causes.{OrderCause}
use Rattle.order_commands.specs.Endings.{carry_common, carry_ends, sort_common, sort_ends}
use Rattle.planning_commands.specs.Causes.{PlanningCause}
use Rattle.planning_commands.specs.Check.{HearsCheck}
use Rattle.planning_commands.specs.Endings.{best_common, best_ends, weigh_common, weigh_ends, check_common, check_ends, relax_common, relax_ends, plan_common, plan_ends, pinned_common, pinned_ends}
use Rattle.planning_commands.specs.Reading.{LacksRecipe}
use Rattle.trial_commands.specs.Causes.{TrialCause}
use Rattle.trial_commands.specs.Endings.{gen_common, gen_ends, greedy_common, greedy_ends, gap_common, gap_ends}
use Rattle.trial_commands.specs.Gap.{HearsGap}
use Rattle.trial_commands.specs.Gen.{HearsDrawn}
use Rattle.goseed_top.specs.Causes.{Cause, CauseOver, Words, Planning, Trying, Ordering, WordCause, Usage, BadWord}
use Rattle.goseed_top.specs.Determined.{OneEnding, MeaningCommon, command_common}
use Rattle.goseed_top.specs.Endings.{Answers, AskedEnds, Ends, Hears, Carrying, Checking, Gapping, Drawing, MeaningEnds, command_ends, no_order}
use Rattle.goseed_top.specs.Laws.{AllLawful}

-- a command of the crate of plans
planning : (command : Command) → IsLawfulCommand PlanningCause command (command_ends command) (command_common command) → IsLawfulCommand Cause command (command_ends command) (command_common command)
planning command law = record {
  determined = law.determined;
  caused = λ words values asks found left status text ends. Planning (law.caused words values asks found left status text ends);
}

-- and one of the crate of trials
trying : (command : Command) → IsLawfulCommand TrialCause command (command_ends command) (command_common command) → IsLawfulCommand Cause command (command_ends command) (command_common command)
trying command law = record {
  determined = law.determined;
  caused = λ words values asks found left status text ends. Trying (law.caused words values asks found left status text ends);
}

-- and one of the crate of orders
ordering : (command : Command) → IsLawfulCommand OrderCause command (command_ends command) (command_common command) → IsLawfulCommand Cause command (command_ends command) (command_common command)
ordering command law = record {
  determined = law.determined;
  caused = λ words values asks found left status text ends. Ordering (law.caused words values asks found left status text ends);
}

-- each command
module _ (best : IsLawfulCommand PlanningCause Best best_ends best_common) (weigh : IsLawfulCommand PlanningCause Weigh weigh_ends weigh_common)
    (check : IsLawfulCommand PlanningCause Check check_ends check_common) (relax : IsLawfulCommand PlanningCause Relax relax_ends relax_common)
    (plan : IsLawfulCommand PlanningCause Plan plan_ends plan_common) (pinned : IsLawfulCommand PlanningCause Pinned pinned_ends pinned_common)
    (gen : IsLawfulCommand TrialCause Gen gen_ends gen_common) (greedy : IsLawfulCommand TrialCause Greedy greedy_ends greedy_common)
    (gap : IsLawfulCommand TrialCause Gap gap_ends gap_common) (sort : IsLawfulCommand OrderCause Sort sort_ends sort_common)
    (carry : IsLawfulCommand OrderCause Carry carry_ends carry_common) where
  pub all_lawful : AllLawful
  all_lawful Best = planning Best best
  all_lawful Weigh = planning Weigh weigh
  all_lawful Check = planning Check check
  all_lawful Relax = planning Relax relax
  all_lawful Plan = planning Plan plan
  all_lawful Pinned = planning Pinned pinned
  all_lawful Gen = trying Gen gen
  all_lawful Greedy = trying Greedy greedy
  all_lawful Gap = trying Gap gap
  all_lawful Sort = ordering Sort sort
  all_lawful Carry = ordering Carry carry

-- words that mean no order are refused
was_refused : (words : List (List ℕ)) (status : Status) → WordCause words status → (number : ℕ) × (status ≡ Refused number)
was_refused words status (Usage fault) = (1, refl)
was_refused words status (BadWord place fault) = (10, refl)

-- no cause is that of a command that was stopped
no_stop : (found : World) (words : List (List ℕ)) (status : Status) → Cause found words status → (status ≡ Outside) ⊎ (status ≡ Memory) → ⊥
no_stop found words status (Words cause) (inl is) = let refused = was_refused words status cause in cc (refused.1, is)
no_stop found words status (Words cause) (inr is) = let refused = was_refused words status cause in cc (refused.1, is)
no_stop found words status (Planning cause) (inl is) = subst (PlanningCause found words) is cause
no_stop found words status (Planning cause) (inr is) = subst (PlanningCause found words) is cause
no_stop found words status (Trying cause) (inl is) = subst (TrialCause found words) is cause
no_stop found words status (Trying cause) (inr is) = subst (TrialCause found words) is cause
no_stop found words status (Ordering cause) (inl is) = subst (OrderCause found words) is cause
no_stop found words status (Ordering cause) (inr is) = subst (OrderCause found words) is cause

-- nor was one that heard a certificate
ended_goes : (one : Status) → (one ≡ Done) ⊎ ((one ≡ No) ⊎ ((number : ℕ) × (one ≡ Refused number))) → (one ≡ Outside) ⊎ (one ≡ Memory) → ⊥
ended_goes one (inl is) (inl stop) = cc (is, stop)
ended_goes one (inl is) (inr stop) = cc (is, stop)
ended_goes one (inr (inl is)) (inl stop) = cc (is, stop)
ended_goes one (inr (inl is)) (inr stop) = cc (is, stop)
ended_goes one (inr (inr is)) (inl stop) = cc (is.1, stop)
ended_goes one (inr (inr is)) (inr stop) = cc (is.1, stop)

heard_ends : (tells : Bool) (map : Told) (recipe name : List ℕ) (status : Status) (text : List ℕ) → HearsCheck tells map recipe name status text
    → (status ≡ Done) ⊎ ((status ≡ No) ⊎ ((number : ℕ) × (status ≡ Refused number)))
heard_ends tells map recipe name status text heard = elim heard.rest [
  | inl lacks ↦ inr (inr (2, lacks.answers))
  | inr more ↦ elim more [
    | inl long ↦ inr (inr (3, long.answers))
    | inr shown ↦ elim shown [ inl fails ↦ inr (inl fails.answers) | inr valid ↦ inl valid.answers ]
  ]
]

gap_ends_so : (tells : Bool) (map : Told) (recipe name : List ℕ) (status : Status) (text : List ℕ) → HearsGap tells map recipe name status text
    → (status ≡ Done) ⊎ ((status ≡ No) ⊎ ((number : ℕ) × (status ≡ Refused number)))
gap_ends_so tells map recipe name status text heard = elim heard.rest [
  | inl lacks ↦ inr (inr (2, lacks.answers))
  | inr more ↦ elim more [
    | inl long ↦ inr (inr (3, long.answers))
    | inr shown ↦ elim shown [ inl fails ↦ inr (inl fails.answers) | inr bound ↦ elim bound.beside [ inl between ↦ inl between.answers | inr none ↦ inr (inl none.answers) ] ]
  ]
]

drawn_ends_so : (tells : Bool) (number files : ℕ) (status : Status) (text : List ℕ) → HearsDrawn tells number files status text
    → (status ≡ Done) ⊎ ((status ≡ No) ⊎ ((number : ℕ) × (status ≡ Refused number)))
drawn_ends_so tells number files status text heard = elim heard.hears.rest [
  | inl failed ↦ inr (inl failed.answers)
  | inr refused ↦ elim refused [ inl lacks ↦ inr (inr (2, lacks.answers)) | inr long ↦ inr (inr (3, long.answers)) ]
]

lacking_ends : (given : Told) (name : List ℕ) (status : Status) (text : List ℕ) → LacksRecipe given name status text → (number : ℕ) × (status ≡ Refused number)
lacking_ends given name status text (inl lacks) = (2, lacks.refuses.answers)
lacking_ends given name status text (inr (inl long)) = (3, long.refuses.answers)
lacking_ends given name status text (inr (inr none)) = ((no_recipe none.refused.error).number, none.refused.refuses.answers)

carried_ends : (tells : Bool) (map : Told) (other : List ℕ) (first : RecipeValue) (status : Status) (text : List ℕ) → HearsPlan tells map other first status text
    → (status ≡ Done) ⊎ ((status ≡ No) ⊎ ((number : ℕ) × (status ≡ Refused number)))
carried_ends tells map other first status text heard = elim heard.rest.holds [
  | inl lacks ↦ inr (inr (lacking_ends heard.rest.given other status text lacks))
  | inr second ↦ elim second.rest [ inl apart ↦ inr (inr (27, apart.refuses.answers)) | inr carried ↦ inl carried.printed.answers ]
]

carry_ends_so : (tells : Bool) (map : Told) (recipe name other : List ℕ) (status : Status) (text : List ℕ) → HearsCarry tells map recipe name other status text
    → (status ≡ Done) ⊎ ((status ≡ No) ⊎ ((number : ℕ) × (status ≡ Refused number)))
carry_ends_so tells map recipe name other status text heard = elim heard.rest [
  | inl lacks ↦ inr (inr (2, lacks.answers))
  | inr more ↦ elim more [
    | inl long ↦ inr (inr (3, long.answers))
    | inr shown ↦ elim shown [
      | inl fails ↦ inr (inl fails.answers)
      | inr valid ↦ elim valid [ inl none ↦ inr (inr (18, none.answers)) | inr plan ↦ carried_ends tells map other heard.first status text plan ]
    ]
  ]
]

hears_ends : (old : Seen) (words : List (List ℕ)) (status : Status) (text : List ℕ) → Hears old words status text → (status ≡ Done) ⊎ ((status ≡ No) ⊎ ((number : ℕ) × (status ≡ Refused number)))
hears_ends old words status text (Checking recipe certificate asks heard) = heard_ends old.tells old.map recipe certificate status text heard
hears_ends old words status text (Gapping recipe certificate asks heard) = gap_ends_so old.tells old.map recipe certificate status text heard
hears_ends old words status text (Drawing number files asks heard) = drawn_ends_so old.tells number files status text heard
hears_ends old words status text (Carrying recipe document other out asks heard) = carry_ends_so old.tells old.map recipe document other status text heard

module _ (lawful : AllLawful) where
  -- how words end by one meaning, they end by each
  same_ends : (a b : Result Order WordError) → IsSameMeaning a b → (found : World) (status : Status) (text : List ℕ) (left : World) → MeaningEnds a found status text left → MeaningEnds b found status text left
  same_ends (Ok a) (Ok b) same found status text left e = subst (λ (asked : Asked). AskedEnds asked found status text left) same e
  same_ends (Err a) (Err b) same found status text left e = subst (λ (error : WordError). MeaningEnds (Err error) found status text left) same e
  same_ends (Ok a) (Err b) same found status text left e = absurd same
  same_ends (Err a) (Ok b) same found status text left e = absurd same

  meaning_determined : (meaning : Result Order WordError) → IsDetermined (MeaningCommon meaning) (MeaningEnds meaning)
  meaning_determined (Ok order) = (lawful (asked_of order).command).determined (asked_of order).values
  meaning_determined (Err error) =
      on_shelf_determined IsOneText _ (reading_determined IsOneText (λ given. Refuses (no_order error)) (λ given o t x y c d. same_refusal (no_order error) o t x y c d))

  pub one_ending : OneMeaning → OneEnding
  one_ending one_meaning words meaning means found one other text told left kept p q =
      meaning_determined meaning found one other text told left kept (same_ends p.meaning meaning (one_meaning words p.meaning meaning p.means means) found one text left p.ends)
      (same_ends q.meaning meaning (one_meaning words q.meaning meaning q.means means) found other told kept q.ends)

  by_meaning : (words : List (List ℕ)) (found left : World) (status : Status) (text : List ℕ) (meaning : Result Order WordError) → Means words meaning
      → MeaningEnds meaning found status text left → Cause found words status
  by_meaning words found left status text (Ok order) means e = (lawful (asked_of order).command).caused words (asked_of order).values means found left status text e
  by_meaning words found left status text (Err word.Usage) means e = subst (Cause found words) (sym e.ends.ends.answers) (Words (Usage means))
  by_meaning words found left status text (Err (word.BadWord place)) means e = subst (Cause found words) (sym e.ends.ends.answers) (Words (BadWord place means))

  -- the cause holds over the world that was found
  over_cause : (old new : Seen) (words : List (List ℕ)) (status : Status) (text : List ℕ) → EndsOver old new (Ends words) status text
      → OverWorld old (λ found. Cause found words status)
  over_cause old new words status text over =
      over_weaker old (λ found. OverWorld new (λ left. Ends words found status text left)) (λ found. Cause found words status)
      (λ found more. let ends = more.holds.holds in
      by_meaning words found (record { files = more.given; devices = more.holds.given }) status text ends.meaning ends.means ends.ends) over

  pub answers_cause : (old new : Seen) (words : List (List ℕ)) (status : Status) (text : List ℕ) → Answers old new words status text → CauseOver old words status
  answers_cause old new words status text (inl over) = inl (over_cause old new words status text over)
  answers_cause old new words status text (inr hears) = inr (text, hears)

  -- a command that ends was not stopped
  pub not_stopped : (old new : Seen) (words : List (List ℕ)) (status : Status) (text : List ℕ) → Answers old new words status text → (status ≡ Outside) ⊎ (status ≡ Memory) → ⊥
  not_stopped old new words status text (inl over) stopped =
      let cause = over_cause old new words status text over in
      no_stop (record { files = cause.given; devices = cause.holds.given }) words status cause.holds.holds stopped
  not_stopped old new words status text (inr hears) stopped = ended_goes status (hears_ends old words status text hears) stopped
