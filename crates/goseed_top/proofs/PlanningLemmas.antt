-- How a search ends that words ask for.
use Rattle.std.proofs.Common.{◌≡◌, ◌∙◌, ◌++◌, ℕ, List, Bool, true, Option, Some, None, length, refl, sym, subst, inl, inr}
use Rattle.std.specs.Prelude.{Result, Ok, Err}
use Rattle.seed_io.specs.Shelf.{Told, OthersStay}
use Rattle.seed_model.specs.declared.node.Node.{Node}
use Rattle.seed_model.specs.declared.range.Range.{Range}
use Rattle.bound_cert.specs.Documents.{document_text}
use Rattle.recipe_reader.specs.Recipes.{RecipeValue}
use Rattle.goseed_words.specs.declared.amount.Amount.{Amount}
use Rattle.goseed_words.specs.declared.order.Order.{Order}
use Rattle.goseed_words.specs.declared.order.WordError.{WordError}
use Rattle.goseed_words.specs.Asked.{Asked, Asks, asking}
use Rattle.goseed_words.specs.Commands.{Plan, Pinned, Gen}
use Rattle.goseed_words.specs.Orders.{Means, asked_of}
use Rattle.goseed_words.proofs.MeaningLemmas.{one_asked, asked_no_fault}
use Rattle.command_texts.specs.declared.status.Status.{Status}
use Rattle.command_endings.specs.Worlds.{Seen, World}
use Rattle.planning_commands.specs.Best.{range_in}
use Rattle.planning_commands.specs.Plan.{AsksSearch, PinnedOf, PlanOf, PrintsSearched}
use Rattle.planning_commands.specs.Nodes.{SpellsNode}
use Rattle.planning_commands.specs.Reading.{HoldsRecipe, RecipeEnds}
use Rattle.planning_commands.specs.Laws.{GiveOne}
use Rattle.goseed_top.specs.Endings.{Answers, AskedEnds, Carrying, Checking, Drawing, Ends, Gapping, Hears, MeaningEnds, Prints}
use Rattle.trial_commands.specs.Gen.{GenEnds, PrintsDrawn, document_name, recipe_name}
use Rattle.goseed_top.specs.Planning.{Draws, HasDrawn, HasPlanned, Plans}

-- where the words ask for this, they end as this does
asked_ends : (words : List (List ℕ)) (asked : Asked) (meaning : Result Order WordError) (found : World) (status : Status) (text : List ℕ) (left : World) → Asks words asked → Means words meaning
    → MeaningEnds meaning found status text left → AskedEnds asked found status text left
asked_ends words asked (Ok order) found status text left asks means ends =
    subst (λ (a : Asked). AskedEnds a found status text left) (one_asked words (asked_of order) asked means asks) ends
asked_ends words asked (Err error) found status text left asks means ends = absurd (asked_no_fault words asked error asks means)

-- over a shelf that tells its bytes nothing else is given back
none_heard : (old : Seen) (words : List (List ℕ)) (status : Status) (text : List ℕ) → old.tells ≡ true → Hears old words status text → ⊥
none_heard old words status text told (Checking recipe certificate asks heard) = cc (told, heard.silent)
none_heard old words status text told (Gapping recipe certificate asks heard) = cc (told, heard.silent)
none_heard old words status text told (Drawing number files asks heard) = cc (told, heard.hears.silent)
none_heard old words status text told (Carrying recipe document other out asks heard) = cc (told, heard.silent)

-- `gen`
drawn_left : (number files : ℕ) (old new found left : Told) (status : Status) (text : List ℕ) (sink_tells : Bool) (before after : List ℕ) → ((name : List ℕ) → found name ≡ old name)
    → ((name : List ℕ) → left name ≡ new name) → (sink_tells ≡ true → after ≡ before ++ text) → GenEnds number files found status text left → HasDrawn number files old new status sink_tells before after
drawn_left number files old new found left status text sink_tells before after was is printed e =
    let ends = subst (PrintsDrawn number files status text) (is document_name) e.ends in
    let outcome = ends.printed.searched in
    record {
      text = text;
      ended = record { written = sym (is recipe_name) ∙ e.written; ends = ends; others = λ name apart from. sym (is name) ∙ (e.others name apart from ∙ was name) };
      printed = printed;
      heading = outcome.heading;
      nodes = outcome.nodes;
      checked = record {
        heading = outcome.heading;
        nodes = outcome.nodes;
        held = record {
          bytes = document_text outcome.heading outcome.nodes;
          reads = record { held = outcome.held; short = outcome.short };
          document = outcome.document;
          text_is = refl;
          valid = outcome.searched.valid;
        };
        answers = refl;
        prints = refl;
      };
    }

pub draws : (old new : Seen) (words : List (List ℕ)) (status : Status) (sink_tells : Bool) (before after : List ℕ) → old.tells ≡ true → new.tells ≡ true
    → Prints old new words status sink_tells before after → Draws old.map new.map words status sink_tells before after
draws old new words status sink_tells before after told kept p number files asks = by_answer p.ends
  where
    by_answer : Answers old new words status p.text → HasDrawn number files old.map new.map status sink_tells before after
    by_answer (inl over) =
        let rest = over.holds.holds in
        let ends = rest.holds.holds in
        let found : World = record { files = over.given; devices = over.holds.given } in
        let left : World = record { files = rest.given; devices = rest.holds.given } in
        let ended = asked_ends words (asking Gen number files) ends.meaning found status p.text left asks ends.means ends.ends in
        drawn_left number files old.map new.map over.given rest.given status p.text sink_tells before after (over.told told) (rest.told kept) p.taken ended.ends
    by_answer (inr hears) = absurd (none_heard old words status p.text told hears)

module _ (one : GiveOne) where
  -- a command that reads a recipe ends as its rest does over the recipe that the name gives
  of_recipe : (given : Told) (name : List ℕ) (recipe : RecipeValue) (status : Status) (text : List ℕ) (Rest : RecipeValue → Type 0) → HoldsRecipe given name recipe → RecipeEnds given name status text Rest
      → Rest recipe
  of_recipe given name recipe status text Rest held (inl lacks) = absurd (one.lacking given name recipe status text held lacks)
  of_recipe given name recipe status text Rest held (inr p) = subst Rest (one.recipe given name p.recipe recipe p.held held) p.rest

  -- what a name gives is what the shelf holds there
  same_held : (given map : Told) (name : List ℕ) (recipe : RecipeValue) → given name ≡ map name → HoldsRecipe map name recipe → HoldsRecipe given name recipe
  same_held given map name recipe is held =
      record { bytes = held.bytes; reads = record { held = is ∙ held.reads.held; short = held.reads.short }; lawful = held.lawful }

  -- a search over pins that the words spell
  of_pins : (recipe : RecipeValue) (target slack : Amount) (budget : ℕ) (go stay : List ℕ) (pins : Node) (status : Status) (text : List ℕ) (now : Option (List ℕ)) → SpellsNode (length recipe.files) go stay pins
      → PinnedOf target slack budget go stay status text now recipe → PrintsSearched recipe (range_in recipe target slack) (Some pins) budget status text now
  of_pins recipe target slack budget go stay pins status text now spells (inl p) = absurd (one.bad (length recipe.files) go stay 7 p.bad pins spells p.fault)
  of_pins recipe target slack budget go stay pins status text now spells (inr p) =
      subst (λ (n : Node). PrintsSearched recipe (range_in recipe target slack) (Some n) budget status text now) (one.node (length recipe.files) go stay p.pins pins p.spells spells) p.searched

  -- the words ask for a search, and the shelf tells its bytes
  module _ (old new : Told) (words : List (List ℕ)) (status : Status) (text : List ℕ) (sink_tells : Bool) (before after : List ℕ) (found left : World)
      (was : (name : List ℕ) → found.files name ≡ old name) (is : (name : List ℕ) → left.files name ≡ new name) (printed : sink_tells ≡ true → after ≡ before ++ text) (ends : Ends words found status text left) where
    planned : (recipe : RecipeValue) (range given : Range) (pins : Option Node) (budget : ℕ) (document : List ℕ) → OthersStay found.files left.files document → given ≡ range
        → PrintsSearched recipe given pins budget status text (left.files document) → HasPlanned recipe range pins budget document old new status sink_tells before after
    planned recipe range given pins budget document others ranges searched =
        let outcome = subst (PrintsSearched recipe range pins budget status text) (is document)
        (subst (λ (r : Range). PrintsSearched recipe r pins budget status text (left.files document)) ranges searched) in
        record {
          text = text;
          outcome = outcome;
          printed = printed;
          others = λ name apart. sym (is name) ∙ (others name apart ∙ was name);
          checked = record {
            heading = outcome.heading;
            nodes = outcome.nodes;
            held = record {
              bytes = document_text outcome.heading outcome.nodes;
              reads = record { held = outcome.held; short = outcome.short };
              document = outcome.document;
              text_is = refl;
              valid = outcome.searched.valid;
            };
            answers = refl;
            prints = refl;
          };
        }

    search_planned : (recipe : RecipeValue) (range : Range) (pins : Option Node) (budget : ℕ) (document : List ℕ) → AsksSearch old words recipe range pins budget document
        → HasPlanned recipe range pins budget document old new status sink_tells before after
    search_planned recipe range None budget document asks =
        let ended = asked_ends words (asking Plan asks.name document asks.target asks.slack budget) ends.meaning found status text left asks.asks ends.means ends.ends in
        let searched = of_recipe found.files asks.name recipe status text (PlanOf asks.target asks.slack budget status text (left.files document))
        (same_held found.files old asks.name recipe (was asks.name) asks.held) ended.ends.ends in
        planned recipe range (range_in recipe asks.target asks.slack) None budget document ended.ends.others (sym asks.range_is) searched
    search_planned recipe range (Some pins) budget document asks =
        let ended = asked_ends words (asking Pinned asks.name document asks.target asks.slack budget asks.go asks.stay) ends.meaning found status text left asks.asks ends.means ends.ends in
        let rest = of_recipe found.files asks.name recipe status text (PinnedOf asks.target asks.slack budget asks.go asks.stay status text (left.files document))
        (same_held found.files old asks.name recipe (was asks.name) asks.held) ended.ends.ends in
        planned recipe range (range_in recipe asks.target asks.slack) (Some pins) budget document ended.ends.others (sym asks.range_is)
        (of_pins recipe asks.target asks.slack budget asks.go asks.stay pins status text (left.files document) asks.spells rest)

  -- over a shelf that tells its bytes what a search prints, answers and leaves is its outcome
  pub plans : (old new : Seen) (words : List (List ℕ)) (status : Status) (sink_tells : Bool) (before after : List ℕ) → old.tells ≡ true → new.tells ≡ true
      → Prints old new words status sink_tells before after → Plans old.map new.map words status sink_tells before after
  plans old new words status sink_tells before after told kept p recipe range pins budget document asks = by_answer p.ends
    where
      by_answer : Answers old new words status p.text → HasPlanned recipe range pins budget document old.map new.map status sink_tells before after
      by_answer (inl over) =
          let rest = over.holds.holds in
          search_planned old.map new.map words status p.text sink_tells before after (record { files = over.given; devices = over.holds.given }) (record { files = rest.given; devices = rest.holds.given })
          (over.told told) (rest.told kept) p.taken rest.holds.holds recipe range pins budget document asks
      by_answer (inr hears) = absurd (none_heard old words status p.text told hears)
