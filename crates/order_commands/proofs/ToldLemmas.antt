-- `carry`: what it ends with over a shelf that tells its bytes, and what is heard of any other.
use Rattle.std.proofs.Common.{◌≡◌, ◌∙◌, arith, ℕ, List, Bool, true, false, Option, Some, None, refl, sym, ap, subst, inl, inr, length}
use Rattle.std.specs.Prelude.{IfOk, IfSome, IsSome, Result, Ok, Err}
use Rattle.std.specs.List.{list_all}
use Rattle.seed_io.specs.Shelf.{Told, OthersStay}
use Rattle.seed_model.specs.declared.range.Range.{Range}
use Rattle.seed_model.specs.Files.{holds}
use Rattle.seed_model.specs.Ranges.{InRange}
use Rattle.bound_cert.specs.declared.heading.Claimed.{Claimed}
use Rattle.bound_cert.specs.declared.heading.Heading.{Heading}
use Rattle.bound_cert.specs.declared.node_line.NodeLine.{NodeLine}
use Rattle.bound_cert.specs.Laws.{plan_named}
use Rattle.bound_cert.specs.Sets.{root_of}
use Rattle.bound_cert.specs.Valid.{IsClaim, IsValid}
use Rattle.cert_check.specs.declared.judged.Checked.{Checked}
use Rattle.cert_check.specs.declared.judged.Verdict.{Verdict}
use Rattle.cert_check.specs.declared.judged.Verdict.TheVariants.{Yes, No}
use Rattle.cert_check.specs.Checking.{IsChecked, IsCheckedBy, IsPlan, IsSound}
use Rattle.chunk_merge.specs.Merged.{KeepsSums}
use Rattle.recipe_reader.specs.Recipes.{RecipeValue, table_of}
use Rattle.command_texts.specs.declared.report.Halt.{Halt}
use Rattle.command_texts.specs.declared.report.Report.{Report}
use Rattle.command_texts.specs.declared.status.Status.{Status}
use Rattle.command_texts.specs.declared.status.Status.TheVariants as ended
use Rattle.command_endings.specs.declared.limits.TheConstants.{MOST_CERTIFICATE_BYTES}
use Rattle.command_endings.specs.Creating.{LeavesOthers}
use Rattle.command_endings.specs.Worlds.{Creating, Over, ShelfEnds}
use Rattle.command_endings.proofs.CreatingLemmas.{leaves_creating, not_refused, over_refused}
use Rattle.planning_commands.specs.Check.{HoldsCertificate, judged_table}
use Rattle.planning_commands.specs.Reading.{HoldsRecipe, LacksRecipe, RecipeEnds}
use Rattle.planning_commands.proofs.CheckLemmas.{by_chunks}
use Rattle.order_commands.specs.Carry.{CarriedBy, CarriedOver, CarriedTo, CarryBy, CarryEnds, CarryOf, CarryOver, CarryTo, HeardCarry, HeardTo, HoldsOtherFront, IsUnchanged, IsWithin, LeavesCarried, LeavesCarry, LeavesChecked, LeavesTo, PrintsCarried, ReportsCarried, ShowsPlan}

-- what a name gave is what it has of a shelf that tells
pub told_recipe : (map : Told) (name : List ℕ) (recipe : RecipeValue) → Over true map (λ given. HoldsRecipe given name recipe) → HoldsRecipe map name recipe
told_recipe map name recipe over = record {
  bytes = over.holds.bytes;
  reads = record { held = sym (over.told refl name) ∙ over.holds.reads.held; short = over.holds.reads.short };
  lawful = over.holds.lawful;
}

pub told_lacking : (map : Told) (name : List ℕ) (status : Status) (text : List ℕ) → Over true map (λ given. LacksRecipe given name status text) → LacksRecipe map name status text
told_lacking map name status text over = by over.holds
  where
    by : LacksRecipe over.given name status text → LacksRecipe map name status text
    by (inl lacks) = inl (record { lacks = sym (over.told refl name) ∙ lacks.lacks; refuses = lacks.refuses })
    by (inr (inl long)) = inr (inl (record { bytes = long.bytes; held = sym (over.told refl name) ∙ long.held; long = long.long; refuses = long.refuses }))
    by (inr (inr none)) = inr (inr (record {
      bytes = none.bytes;
      reads = record { held = sym (over.told refl name) ∙ none.reads.held; short = none.reads.short };
      refused = none.refused;
    }))

-- how it ends over its second recipe
module _ (map : Told) (other : List ℕ) (first : RecipeValue) (range : Range) (plan : List Bool) (status : Status) (text : List ℕ) (now : Option (List ℕ)) where
  told_to : (second : RecipeValue) → CarriedTo true first range plan status text now second → CarryTo first range plan status text now second
  told_to second (inl apart) = inl apart
  told_to second (inr has) = inr (subst (λ (n : Option (List ℕ)). PrintsCarried first second range plan status text n) (sym (has.held refl)) has.printed)

  pub told_over : CarriedOver true map other first range plan status text now → RecipeEnds map other status text (CarryTo first range plan status text now)
  told_over over = by over.holds
    where
      by : RecipeEnds over.given other status text (CarriedTo true first range plan status text now) → RecipeEnds map other status text (CarryTo first range plan status text now)
      by (inl lacks) = inl (told_lacking map other status text (record { given = over.given; told = over.told; holds = lacks }))
      by (inr of) = inr (record {
        recipe = of.recipe;
        held = told_recipe map other of.recipe (record { given = over.given; told = over.told; holds = of.held });
        rest = told_to of.recipe of.rest;
      })

  heard_to : (tells : Bool) (second : RecipeValue) → CarriedTo tells first range plan status text now second → HeardTo first range plan status text second
  heard_to tells second (inl apart) = inl apart
  heard_to tells second (inr has) = inr (record { whole = has.whole; printed = has.printed })

  pub heard_over : (tells : Bool) → CarriedOver tells map other first range plan status text now → Over tells map (λ given. RecipeEnds given other status text (HeardTo first range plan status text))
  heard_over tells over = record { given = over.given; told = over.told; holds = by over.holds }
    where
      by : RecipeEnds over.given other status text (CarriedTo tells first range plan status text now) → RecipeEnds over.given other status text (HeardTo first range plan status text)
      by (inl lacks) = inl lacks
      by (inr of) = inr (record { recipe = of.recipe; held = of.held; rest = heard_to tells of.recipe of.rest })

-- a plan of a valid certificate is in its range
claimed_within : KeepsSums → (first : RecipeValue) (heading : Heading) (nodes : List NodeLine) → IsValid (judged_table first) heading nodes → (plan : Option Claimed)
    → IfSome plan (IsClaim (judged_table first) heading.range (root_of (length first.files) heading.pins)) → (set : List Bool) → plan_named (length first.files) plan ≡ Some set
    → ShowsPlan first heading.range (plan_named (length first.files) plan)
claimed_within sums first heading nodes valid None claim set is = cc is
claimed_within sums first heading nodes valid (Some claimed) claim set is =
    (by_chunks sums (table_of first) heading.range (root_of (length first.files) heading.pins) _ claim.admitted).in_range

-- how it ends by what a valid certificate shows
told_plan : KeepsSums → (map : Told) (other : List ℕ) (first : RecipeValue) (heading : Heading) (nodes : List NodeLine) → IsValid (judged_table first) heading nodes → (plan : Option (List Bool))
    → plan ≡ plan_named (length first.files) heading.plan → (status : Status) (text : List ℕ) (now : Option (List ℕ)) → CarriedBy true map other first heading.range plan status text now
    → CarryBy map other first heading.range plan status text now
told_plan sums map other first heading nodes valid None is status text now (inl lacks) = lacks.refuses
told_plan sums map other first heading nodes valid (Some plan) is status text now (inl lacks) =
    absurd (lacks.none (subst (ShowsPlan first heading.range) (sym is) (claimed_within sums first heading nodes valid heading.plan valid.plan plan (sym is))))
told_plan sums map other first heading nodes valid None is status text now (inr has) = cc has.is
told_plan sums map other first heading nodes valid (Some plan) is status text now (inr has) =
    let same : has.set ≡ plan = cc has.is in
    told_over map other first heading.range plan status text now (subst (λ (p : List Bool). CarriedOver true map other first heading.range p status text now) same has.carried)

-- and by a checked one
pub told_checked : KeepsSums → (map new : Told) (document other out bytes : List ℕ) (first : RecipeValue) (checked : Checked) (status : Status) (text : List ℕ) → map document ≡ Some bytes
    → IsChecked (judged_table first) MOST_CERTIFICATE_BYTES bytes checked → IsUnchanged map new status → ReportsCarried checked.verdict true map other first checked status text (new out)
    → CarryOf map document other out status text (new out) first
told_checked sums map new document other out bytes first checked status text held is unchanged reports = by checked.verdict is reports
  where
    by : (verdict : Verdict) → IsCheckedBy verdict (judged_table first) MOST_CERTIFICATE_BYTES bytes checked → ReportsCarried verdict true map other first checked status text (new out)
        → CarryOf map document other out status text (new out) first
    by Yes c report =
        let shows = c.1 in
        let plan = ap (λ (k : Checked). k.plan) shows.shown in
        let range = ap (λ (k : Checked). k.range) shows.shown in
        let second = subst (λ (r : Range). CarriedBy true map other first r checked.plan status text (new out)) range report in
        let third = subst (λ (p : Option (List Bool)). CarriedBy true map other first shows.heading.range p status text (new out)) plan second in
        inr (inr (inr (record {
          heading = shows.heading;
          nodes = shows.nodes;
          held = record { bytes = bytes; reads = record { held = held; short = c.0 }; document = shows.document; text_is = shows.text_is; valid = shows.valid };
          rest = told_plan sums map other first shows.heading shows.nodes shows.valid (plan_named (length first.files) shows.heading.plan) refl status text (new out) third;
        })))
    by (No line rule) c report = inr (inr (inl (record {
      failure = record { line = line; rule = rule; held = record { bytes = bytes; held = held; fails = c.0 }; answers = report.0; prints = report.1 };
      same = kept unchanged report.0;
    })))
      where
        kept : IsUnchanged map new status → status ≡ ended.No → new out ≡ map out
        kept (inl done) failed = cc (done, failed)
        kept (inr same) failed = ap (λ (m : Told). m out) same

-- what is heard of it
pub heard_checked : (tells : Bool) (map : Told) (document other : List ℕ) (first : RecipeValue) (checked : Checked) (status : Status) (text : List ℕ) (now : Option (List ℕ))
    → ReportsCarried checked.verdict tells map other first checked status text now → HeardCarry tells map document other status text first
heard_checked tells map document other first checked status text now reports = by checked.verdict reports
  where
    by : (verdict : Verdict) → ReportsCarried verdict tells map other first checked status text now → HeardCarry tells map document other status text first
    by Yes (inl lacks) = inr (inr (inr (inl lacks.refuses)))
    by Yes (inr has) = inr (inr (inr (inr (record {
      range = checked.range;
      plan = has.set;
      within = has.within;
      rest = heard_over map other first checked.range has.set status text now tells has.carried;
    }))))
    by (No line rule) report = inr (inr (inl (record { line = line; rule = rule; answers = report.0; prints = report.1 })))

-- what is left by it
pub left_checked : (map : Told) (document other bytes : List ℕ) (first : RecipeValue) (checked : Checked) (old now : Option (List ℕ)) → map document ≡ Some bytes
    → IsChecked (judged_table first) MOST_CERTIFICATE_BYTES bytes checked → LeavesChecked map other first checked old now → LeavesCarry map document other first old now
left_checked map document other bytes first checked old now held is (inl same) = inl same
left_checked map document other bytes first checked old now held is (inr front) =
    let c = subst (λ (v : Verdict). IsCheckedBy v (judged_table first) MOST_CERTIFICATE_BYTES bytes checked) front.valid is in
    let shows = c.1 in
    let plan = ap (λ (k : Checked). k.plan) shows.shown in
    let range = ap (λ (k : Checked). k.range) shows.shown in
    inr (record {
      heading = shows.heading;
      nodes = shows.nodes;
      held = record { bytes = bytes; reads = record { held = held; short = c.0 }; document = shows.document; text_is = shows.text_is; valid = shows.valid };
      plan = front.plan;
      is = sym plan ∙ front.is;
      front = subst (λ (r : Range). HoldsOtherFront map other first r front.plan now) range front.front;
    })

-- the command
module _ (name document other out : List ℕ) (old mid new : Told) (same : mid ≡ old) (first : RecipeValue) where
  ends_told : (status : Status) (text : List ℕ) → Over true old (λ given. HoldsRecipe given name first) → OthersStay mid new out → IsUnchanged mid new status
      → CarryOf mid document other out status text (new out) first → ShelfEnds true old new (Creating out (CarryEnds name document other out)) status text
  ends_told status text over others unchanged is = record {
    given = old;
    told = λ tells n. refl;
    holds = record {
      given = new;
      told = λ tells n. refl;
      holds = record {
        ends = inr (record { recipe = first; held = told_recipe old name first over; rest = subst (λ (m : Told). CarryOf m document other out status text (new out) first) same is });
        others = λ n apart. others n apart ∙ ap (λ (m : Told). m n) same;
        refused = λ number is. kept number is unchanged;
      };
    };
  }
    where
      kept : (number : ℕ) → status ≡ ended.Refused number → IsUnchanged mid new status → new out ≡ old out
      kept number refused (inl done) = cc (refused, done)
      kept number refused (inr unchanged) = ap (λ (m : Told). m out) (unchanged ∙ same)

  pub carry_over : (tells : Bool) (status : Status) (text : List ℕ) → Over tells old (λ given. HoldsRecipe given name first) → (tells ≡ true → OthersStay mid new out) → IsUnchanged mid new status
      → (tells ≡ true → CarryOf mid document other out status text (new out) first) → HeardCarry tells mid document other status text first
      → CarryOver tells old new name document other out status text
  carry_over true status text over others unchanged told heard = inl (ends_told status text over (others refl) unchanged (told refl))
  carry_over false status text over others unchanged told heard =
      inr (record { silent = refl; first = first; held = over; rest = subst (λ (m : Told). HeardCarry false m document other status text first) same heard })

  pub carry_left : Over true old (λ given. HoldsRecipe given name first) → OthersStay mid new out → LeavesCarry mid document other first (mid out) (new out)
      → LeavesOthers true old new out (Creating out (CarryEnds name document other out))
  carry_left over others (inl is) = record { others = λ n apart. others n apart ∙ ap (λ (m : Told). m n) same; part = inl (is ∙ ap (λ (m : Told). m out) same) }
  carry_left over others (inr v) =
      let to = v.front in
      let front = to.front in
      let valid = subst (λ (m : Told). HoldsCertificate m document first v.heading v.nodes) same v.held in
      let second = subst (λ (m : Told). HoldsRecipe m other to.second) same to.held in
      let by : CarryBy old other first v.heading.range (plan_named (length first.files) v.heading.plan) front.status front.text (Some front.whole) =
      subst (λ (p : Option (List Bool)). CarryBy old other first v.heading.range p front.status front.text (Some front.whole)) (sym v.is) (inr (record { recipe = to.second; held = second; rest = inr front.printed })) in
      leaves_creating (CarryEnds name document other out) true old mid new out front.whole front.status front.text same others (inr (front.count, front.front)) (not_refused front.status front.printed.answers)
      (record {
        given = old;
        told = λ tells n. refl;
        holds = inr (record { recipe = first; held = told_recipe old name first over; rest = inr (inr (inr (record { heading = v.heading; nodes = v.nodes; held = valid; rest = by }))) });
      })

-- how it ends over the recipe of a name
pub carried_over : (tells : Bool) (map : Told) (other : List ℕ) (first : RecipeValue) (range : Range) (plan : List Bool) (status : Status) (text : List ℕ) (second : RecipeValue) (now : Option (List ℕ))
    → Over tells map (λ given. HoldsRecipe given other second) → CarriedTo tells first range plan status text now second → CarriedOver tells map other first range plan status text now
carried_over tells map other first range plan status text second now over has =
    record { given = over.given; told = over.told; holds = inr (record { recipe = second; held = over.holds; rest = has }) }

pub carried_refused : (tells : Bool) (map : Told) (other : List ℕ) (first : RecipeValue) (range : Range) (plan : List Bool) (status : Status) (text : List ℕ) (now : Option (List ℕ))
    → Over tells map (λ given. LacksRecipe given other status text) → CarriedOver tells map other first range plan status text now
carried_refused tells map other first range plan status text now over = record { given = over.given; told = over.told; holds = inl over.holds }

pub left_to : (map : Told) (other : List ℕ) (first : RecipeValue) (range : Range) (plan : List Bool) (second : RecipeValue) (old now : Option (List ℕ)) → Over true map (λ given. HoldsRecipe given other second)
    → LeavesCarried first second range plan old now → LeavesTo map other first range plan old now
left_to map other first range plan second old now over (inl same) = inl same
left_to map other first range plan second old now over (inr front) = inr (record { second = second; held = told_recipe map other second over; front = front })

-- a plan of a sound certificate, where its sums are in the range
pub plan_shown : KeepsSums → (first : RecipeValue) (checked : Checked) (plan : List Bool) → IsSound (judged_table first) checked → checked.plan ≡ Some plan → IsWithin checked.range checked.migrated
    → (length plan ≡ length first.files) × InRange (table_of first) checked.range (holds plan)
plan_shown sums first checked plan sound is within =
    let p = subst (λ (shown : Option (List Bool)). IfSome shown (IsPlan (judged_table first) checked.migrated checked.replicated)) is sound.plan in
    let migrated = p.migrated_is ∙ sums (table_of first) (list_all (holds plan)) in
    let enough = within.enough in
    let no_more = within.no_more in
    (p.files, record { enough = omega (arith, migrated, enough); no_more = omega (arith, migrated, no_more) })

-- and where they are not
pub plan_lacking : KeepsSums → (first : RecipeValue) (checked : Checked) → IsSound (judged_table first) checked → (IsSome checked.plan → ¬ IsWithin checked.range checked.migrated)
    → ¬ ShowsPlan first checked.range checked.plan
plan_lacking sums first checked sound none = by checked.plan refl
  where
    by : (plan : Option (List Bool)) → checked.plan ≡ plan → ¬ ShowsPlan first checked.range plan
    by None is = λ shows. shows
    by (Some plan) is = λ shows.
        let p = subst (λ (shown : Option (List Bool)). IfSome shown (IsPlan (judged_table first) checked.migrated checked.replicated)) is sound.plan in
        let migrated = p.migrated_is ∙ sums (table_of first) (list_all (holds plan)) in
        let enough = shows.enough in
        let no_more = shows.no_more in
        none (subst IsSome (sym is) refl) (record { enough = omega (arith, migrated, enough); no_more = omega (arith, migrated, no_more) })

-- what is left by a plan that a valid certificate shows
pub left_plan : (map : Told) (other : List ℕ) (first : RecipeValue) (checked : Checked) (plan : List Bool) (old now : Option (List ℕ)) → checked.verdict ≡ Yes → checked.plan ≡ Some plan
    → LeavesTo map other first checked.range plan old now → LeavesChecked map other first checked old now
left_plan map other first checked plan old now valid is (inl same) = inl same
left_plan map other first checked plan old now valid is (inr front) = inr (record { valid = valid; plan = plan; is = is; front = front })

-- the report of a command that got its first recipe
pub carry_report : (name document other out : List ℕ) (old mid new : Told) (same : mid ≡ old) (first : RecipeValue) (tells : Bool) (result : Result Report Halt) → Over tells old (λ given. HoldsRecipe given name first)
    → (tells ≡ true → OthersStay mid new out) → IfOk result (λ report. IsUnchanged mid new report.status)
    → (tells ≡ true → IfOk result (λ report. CarryOf mid document other out report.status report.text.items (new out) first))
    → IfOk result (λ report. HeardCarry tells mid document other report.status report.text.items first)
    → IfOk result (λ report. CarryOver tells old new name document other out report.status report.text.items)
carry_report name document other out old mid new same first tells (Ok report) over others unchanged told heard =
    carry_over name document other out old mid new same first tells report.status report.text.items over others unchanged told heard
carry_report name document other out old mid new same first tells (Err halt) over others unchanged told heard = tt

-- and of one that got none
pub carry_refused : (tells : Bool) (old new : Told) (name document other out : List ℕ) (status : Status) (text : List ℕ) → new ≡ old → Over tells old (λ given. LacksRecipe given name status text)
    → CarryOver tells old new name document other out status text
carry_refused tells old new name document other out status text same over =
    inl (over_refused (CarryEnds name document other out) tells old new out status text same (record { given = over.given; told = over.told; holds = inl over.holds }))
