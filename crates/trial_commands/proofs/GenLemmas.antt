-- `gen`: what is drawn, searched over, judged and left.
use Rattle.std.proofs.Common.{◌≡◌, ◌≢◌, ◌∙◌, ◌*◌, ◌<◌, ◌≤◌, arith, ℕ, List, Bool, true, false, Option, Some, None, length, refl, sym, ap, subst, inl, inr}
use Rattle.std.specs.Prelude.{◌⊎◌, codes, Result, Ok, Err, IfOk}
use Rattle.std.specs.Cmp.Lexicographic.{other_text}
use Rattle.seed_io.specs.Shelf.{Told, OthersStay}
use Rattle.bound_cert.specs.Documents.{document_text}
use Rattle.bound_cert.specs.Laws.{FailureIsNotValid}
use Rattle.cert_check.specs.declared.judged.Checked.{Checked}
use Rattle.cert_check.specs.declared.judged.Verdict.{Verdict}
use Rattle.cert_check.specs.declared.judged.Verdict.TheVariants.{Yes, No}
use Rattle.cert_check.specs.Checking.{IsChecked, IsCheckedBy}
use Rattle.csv_rows.specs.Rows.{rows_of, rows_text}
use Rattle.recipe_reader.specs.Reading.{Leads}
use Rattle.recipe_reader.specs.Recipes.{RecipeValue, empty_recipe}
use Rattle.recipe_reader.specs.Same.{IsSameRecipe, ReadsBack}
use Rattle.recipe_reader.specs.WrittenRows.{rows_of_recipe}
use Rattle.load_gen.specs.Draws.{recipe_drawn}
use Rattle.command_texts.specs.declared.status.Status.{Status}
use Rattle.command_endings.specs.declared.limits.TheConstants.{MOST_CERTIFICATE_BYTES}
use Rattle.command_endings.specs.Creating.{HoldsFront}
use Rattle.command_endings.proofs.CreatingLemmas.{with_name, with_here, with_elsewhere}
use Rattle.command_endings.proofs.WorldLemmas.{same_name}
use Rattle.planning_commands.specs.Check.{judged_table}
use Rattle.planning_commands.specs.Plan.{HasSearched, LeavesSearched}
use Rattle.trial_commands.specs.declared.drawing.Drawn.{Drawn}
use Rattle.trial_commands.specs.Gen.{DrawnBy, GenEnds, GenOver, GivesBoth, HoldsValid, IsPassed, JudgesDrawn, LeavesBoth, LeavesDocument, LeavesDrawn, PrintsDrawn, PrintsOf, SearchedOver, SearchesDrawn, document_name, drawn_range, drawn_text, judged_lines, judged_status, recipe_name}
use Rattle.trial_commands.specs.Texts.{gen_text, yes_line}

-- the two names are two
pub names_apart : recipe_name ≢ document_name
names_apart = other_text recipe_name document_name refl

-- what was drawn, written and read again
pub drawn_by : (number files : ℕ) (made : RecipeValue) (drawn : Drawn) → ((rows : List (List (List ℕ))) (a b : RecipeValue) → Leads empty_recipe rows a → Leads empty_recipe rows b → a ≡ b)
    → made ≡ recipe_drawn number files (4 * files) → drawn.text.items ≡ rows_text (rows_of_recipe made) → ReadsBack (rows_of drawn.text.items) made
    → Leads empty_recipe (rows_of drawn.text.items) drawn.recipe → DrawnBy number files drawn
drawn_by number files made drawn one is written back reads =
    let text_is : drawn.text.items ≡ drawn_text number files = written ∙ ap (λ (r : RecipeValue). rows_text (rows_of_recipe r)) is in
    let recipes = one (rows_of drawn.text.items) back.back drawn.recipe back.leads reads in
    record {
      text_is = text_is;
      recipe_is = record {
        reads = subst (λ (t : List ℕ). Leads empty_recipe (rows_of t) drawn.recipe) text_is reads;
        same = subst (λ (r : RecipeValue). IsSameRecipe r drawn.recipe) is (subst (IsSameRecipe made) recipes back.same);
      };
    }

-- a search whose certificate passed is printed so
passed : (recipe : RecipeValue) (planned status : Status) (lines text : List ℕ) (now : Option (List ℕ)) → SearchesDrawn recipe planned lines now → IsPassed recipe planned lines status text
    → PrintsOf recipe status text now
passed recipe planned status lines text now searched p =
    record { lines = lines; searched = subst (λ (s : Status). SearchesDrawn recipe s lines now) (sym p.answers) searched; prints = p.prints }

-- a valid certificate passes
pub told_passed : FailureIsNotValid → (given : Told) (recipe : RecipeValue) (planned : Status) (lines : List ℕ) (checked : Checked) (status : Status) (text : List ℕ) (valid : HoldsValid given recipe)
    → IsChecked (judged_table recipe) MOST_CERTIFICATE_BYTES valid.bytes checked → status ≡ judged_status checked.verdict planned → text ≡ gen_text recipe lines (judged_lines checked.verdict)
    → IsPassed recipe planned lines status text
told_passed failed given recipe planned lines checked status text valid is answers prints = by checked.verdict is answers prints
  where
    by : (verdict : Verdict) → IsCheckedBy verdict (judged_table recipe) MOST_CERTIFICATE_BYTES valid.bytes checked → status ≡ judged_status verdict planned
        → text ≡ gen_text recipe lines (judged_lines verdict) → IsPassed recipe planned lines status text
    by Yes c answers prints = record { answers = answers; prints = prints }
    by (No line rule) c answers prints = absurd (failed (judged_table recipe) valid.bytes line rule c.0.failure valid.valid)

-- a name with a valid certificate does not lack bytes, nor has it too many
pub lacks_valid : (given : Told) (recipe : RecipeValue) → HoldsValid given recipe → given document_name ≡ None → ⊥
lacks_valid given recipe valid none = cc (valid.held, none)

pub long_valid : (given : Told) (recipe : RecipeValue) (valid : HoldsValid given recipe) (bytes : List ℕ) → given document_name ≡ Some bytes → MOST_CERTIFICATE_BYTES < length bytes → ⊥
long_valid given recipe valid bytes held long =
    let same : valid.bytes ≡ bytes = cc (sym valid.held ∙ held) in
    let lengths = ap (λ (t : List ℕ). length t) same in
    let short = valid.short in
    omega (arith, lengths, short, long)

-- two things hold of what was made
pub ok_two : {T E : Type 0} (P Q : T → Type 0) (result : Result T E) → IfOk result P → IfOk result Q → IfOk result (λ value. P value × Q value)
ok_two P Q (Ok value) p q = (p, q)
ok_two P Q (Err error) p q = tt

-- whatever is given back passes or fails
pub heard_judged : (recipe : RecipeValue) (planned : Status) (lines : List ℕ) (verdict : Verdict) (status : Status) (text : List ℕ) → status ≡ judged_status verdict planned
    → text ≡ gen_text recipe lines (judged_lines verdict) → JudgesDrawn recipe planned lines status text
heard_judged recipe planned lines Yes status text answers prints = inl (record { answers = answers; prints = prints })
heard_judged recipe planned lines (No line rule) status text answers prints = inr (inl (record { line = line; rule = rule; answers = answers; prints = prints }))

-- the certificate of a search is valid, where the shelf holds it
pub held_valid : (recipe : RecipeValue) (planned : Status) (lines : List ℕ) (given : Told) (tells : Bool) → HasSearched tells recipe (drawn_range recipe) None 200 planned lines (given document_name)
    → tells ≡ true → HoldsValid given recipe
held_valid recipe planned lines given tells has told =
    let p = has.searched in
    let is : has.whole ≡ document_text p.heading p.nodes = cc p.held in
    record {
      bytes = has.whole;
      held = has.held told;
      short = subst (λ (t : List ℕ). length t ≤ MOST_CERTIFICATE_BYTES) (sym is) p.short;
      valid = record { heading = p.heading; nodes = p.nodes; document = p.document; text_is = is; valid = p.searched.valid };
    }

-- how a search ends that was judged
pub searched_over : (tells : Bool) (recipe : RecipeValue) (planned status : Status) (lines text : List ℕ) (mid new : Told) → new ≡ mid
    → HasSearched tells recipe (drawn_range recipe) None 200 planned lines (mid document_name) → (tells ≡ true → IsPassed recipe planned lines status text) → JudgesDrawn recipe planned lines status text
    → SearchedOver tells recipe status text (new document_name)
searched_over true recipe planned status lines text mid new same has told heard =
    inl (record {
      whole = has.whole;
      printed = passed recipe planned status lines text (Some has.whole) has.searched (told refl);
      held = λ t. ap (λ (m : Told). m document_name) same ∙ has.held t;
    })
searched_over false recipe planned status lines text mid new same has told (inl p) =
    inl (record { whole = has.whole; printed = passed recipe planned status lines text (Some has.whole) has.searched p; held = λ t. cc t })
searched_over false recipe planned status lines text mid new same has told (inr other) =
    inr (record { silent = refl; planned = planned; lines = lines; whole = has.whole; searched = has.searched; rest = other })

-- what it leaves
pub leaves_document : (recipe : RecipeValue) (old now : Option (List ℕ)) → LeavesSearched recipe (drawn_range recipe) None 200 old now → LeavesDocument recipe old now
leaves_document recipe old now (inl same) = inl same
leaves_document recipe old now (inr f) =
    inr (record {
      status = f.status;
      text = gen_text recipe f.text yes_line;
      whole = f.whole;
      printed = record { lines = f.text; searched = f.searched; prints = refl };
      count = f.count;
      front = f.front;
    })

-- the recipe's text was written before
module _ (bytes : List ℕ) (recipe : RecipeValue) (old mid new : Told) (other_names : OthersStay mid new document_name) (others : OthersStay old mid recipe_name) where
  elsewhere : (name : List ℕ) → name ≢ recipe_name → name ≢ document_name → new name ≡ old name
  elsewhere name apart from = other_names name from ∙ others name apart

  pub leaves_both : HoldsFront old mid recipe_name bytes → LeavesDocument recipe (mid document_name) (new document_name) → LeavesBoth bytes recipe old new
  leaves_both front document = record {
    front = elim front [
      | inl same ↦ inl (other_names recipe_name names_apart ∙ same)
      | inr some ↦ inr (some.0, other_names recipe_name names_apart ∙ some.1)
    ];
    document = elim document [ inl same ↦ inl (same ∙ others document_name (λ is. names_apart (sym is))) | inr part ↦ inr part ];
    others = elsewhere;
  }

pub gives_both : (tells : Bool) (bytes : List ℕ) (recipe : RecipeValue) (old mid new : Told) (status : Status) (text : List ℕ) → (tells ≡ true → OthersStay mid new document_name)
    → (tells ≡ true → OthersStay old mid recipe_name) → (tells ≡ true → mid recipe_name ≡ Some bytes) → SearchedOver tells recipe status text (new document_name)
    → GivesBoth tells bytes recipe old new status text
gives_both tells bytes recipe old mid new status text later first whole searched = record {
  written = λ told. later told recipe_name names_apart ∙ whole told;
  searched = searched;
  others = λ told name apart from. later told name from ∙ first told name apart;
}

-- only the recipe's text was to be written
pub leaves_first : (bytes : List ℕ) (recipe : RecipeValue) (old new : Told) → OthersStay old new recipe_name → HoldsFront old new recipe_name bytes → LeavesBoth bytes recipe old new
leaves_first bytes recipe old new others front =
    record { front = front; document = inl (others document_name (λ is. names_apart (sym is))); others = λ name apart from. others name apart }

pub leaves_none : (bytes : List ℕ) (recipe : RecipeValue) (map : Told) → LeavesBoth bytes recipe map map
leaves_none bytes recipe map = record { front = inl refl; document = inl refl; others = λ name apart from. refl }

-- what the command leaves
module _ (number files : ℕ) (old : Told) where
  pub with_both : List ℕ → Told
  with_both whole = with_name (with_name old recipe_name (drawn_text number files)) document_name whole

  pub both_here : (whole : List ℕ) → with_both whole document_name ≡ Some whole
  unfolding with_both
  both_here whole = with_here (with_name old recipe_name (drawn_text number files)) document_name whole document_name refl

  both_there : (whole : List ℕ) → with_both whole recipe_name ≡ Some (drawn_text number files)
  unfolding with_both
  both_there whole =
      with_elsewhere (with_name old recipe_name (drawn_text number files)) document_name whole recipe_name names_apart ∙ with_here old recipe_name (drawn_text number files) recipe_name refl

  both_elsewhere : (whole name : List ℕ) → name ≢ recipe_name → name ≢ document_name → with_both whole name ≡ old name
  unfolding with_both
  both_elsewhere whole name apart from =
      with_elsewhere (with_name old recipe_name (drawn_text number files)) document_name whole name from ∙ with_elsewhere old recipe_name (drawn_text number files) name apart

  pub ends_with_both : (status : Status) (text whole : List ℕ) → PrintsDrawn number files status text (Some whole) → GenEnds number files old status text (with_both whole)
  ends_with_both status text whole printed = record {
    written = both_there whole;
    ends = subst (PrintsDrawn number files status text) (sym (both_here whole)) printed;
    others = both_elsewhere whole;
  }

  is_both : (new : Told) (whole : List ℕ) → new document_name ≡ Some whole → new recipe_name ≡ Some (drawn_text number files)
      → ((name : List ℕ) → name ≢ recipe_name → name ≢ document_name → new name ≡ old name) → (name : List ℕ) → with_both whole name ≡ new name
  is_both new whole held written others name = elim (same_name name document_name) [
    | inl at ↦ subst (λ (n : List ℕ). with_both whole n ≡ new n) (sym at) (both_here whole ∙ sym held)
    | inr from ↦ elim (same_name name recipe_name) [
      | inl at ↦ subst (λ (n : List ℕ). with_both whole n ≡ new n) (sym at) (both_there whole ∙ sym written)
      | inr apart ↦ both_elsewhere whole name apart from ∙ sym (others name apart from)
    ]
  ]

  -- the same by the numbers that the recipe is drawn from
  pub gen_over : (drawn : Drawn) → DrawnBy number files drawn → (tells : Bool) (new : Told) (status : Status) (text : List ℕ) → GivesBoth tells drawn.text.items drawn.recipe old new status text
      → GenOver tells old new number files status text
  gen_over drawn by tells new status text gives = elim gives.searched [
    | inl has ↦ inl
        (record {
          given = old;
          told = λ told name. refl;
          holds = record {
            given = with_both has.whole;
            told = λ told. is_both new has.whole (has.held told) (gives.written told ∙ ap Some by.text_is) (gives.others told);
            holds = ends_with_both status text has.whole (record { recipe = drawn.recipe; drawn = by.recipe_is; printed = has.printed });
          };
        })
    | inr hears ↦ inr (record { recipe = drawn.recipe; drawn = by.recipe_is; hears = hears })
  ]

pub leaves_drawn : (number files : ℕ) (drawn : Drawn) → DrawnBy number files drawn → (old new : Told) → LeavesBoth drawn.text.items drawn.recipe old new → LeavesDrawn number files old new
leaves_drawn number files drawn by old new leaves = record {
  recipe = subst (HoldsFront old new recipe_name) by.text_is leaves.front;
  document = elim leaves.document [ inl same ↦ inl same | inr part ↦ inr (record { recipe = drawn.recipe; drawn = by.recipe_is; holds = part }) ];
  others = leaves.others;
}

pub leaves_nothing : (number files : ℕ) (old : Told) → LeavesDrawn number files old old
leaves_nothing number files old = record { recipe = inl refl; document = inl refl; others = λ name apart from. refl }
