-- What a command leads to: its opening, and the plan that it carries out on the site that stands then.
use Rattle.std.proofs.Common.{◌≡◌, ℕ, ◌≤◌, List, [], ◌++◌, Some, refl, sym, ◌∙◌, ap, subst, append-nil}
use Rattle.volume_disk.specs.Disk.{Disk, Images, Crash}
use Rattle.volume_disk.specs.Time.{Passes}
use Rattle.volume_disk.proofs.Moments.{chained, follows_on, weaker}
use Rattle.site_forms.specs.Halves.{SameRecords}
use Rattle.site_forms.specs.Sites.{IsSiteAt, state_of}
use Rattle.site_forms.specs.Views.{State}
use Rattle.site_core.specs.Events.{Append}
use Rattle.site_core.specs.Lasting.{IsFoldedSite}
use Rattle.site_core.specs.Plans.{Led, after_plan}
use Rattle.site_runs.specs.Leading.{AllMayBe, BothMay, IsSiteDisk, Leads}
use Rattle.site_runs.proofs.Fronts.{led_site, plan_joined}
use Rattle.site_runs.proofs.Opening.{same_state}
use Rattle.site_forms.proofs.States.{state_folded}

some_same : (s t : State) → Some s ≡ Some t → s ≡ t
some_same s t is = cc

-- the same records are led to by no append
pub leads_nowhere : (May : State → List Append → Type 0) (b c : Images) → ((s : State) → May s []) → IsSiteAt b → SameRecords b c → Leads May b c
leads_nowhere May b c none site same = record { from = site.0; told = site.1; led = record { plan = []; within = none site.0; now = same_state b c same ∙ site.1 } }

-- one command, and then another
pub leads_both : (May Next : State → List Append → Type 0) (b m c : Images) → Leads May b m → Leads Next m c → Leads (BothMay May Next) b c
leads_both May Next b m c first second =
    let same = some_same second.from (after_plan first.from first.led.plan) (sym second.told ∙ first.led.now) in
    let next : Next (after_plan first.from first.led.plan) second.led.plan = subst (λ (s : State). Next s second.led.plan) same second.led.within in
    record {
      from = first.from;
      told = first.told;
      led = record {
        plan = first.led.plan ++ second.led.plan;
        within = (first.led.plan, second.led.plan, first.led.within, next, refl);
        now = second.led.now ∙ ap (λ (s : State). Some (after_plan s second.led.plan)) same ∙ ap (λ (s : State). Some s) (sym (plan_joined first.from first.led.plan second.led.plan));
      };
    }

-- from a site allowed plans lead to a site
pub leads_site : (May : State → List Append → Type 0) (b c : Images) → AllMayBe May → IsSiteAt b → Leads May b c → IsSiteAt c
leads_site May b c allowed told leads =
    let same = some_same told.0 leads.from (sym told.1 ∙ leads.told) in
    let is : IsFoldedSite leads.from = subst IsFoldedSite same (record { folds = state_folded b told.0 told.1; site = told.2 }) in
    led_site (May leads.from) leads.from c is (λ plan may. allowed leads.from plan may) leads.led

module _ {D : Type 0} (moment : D → ℕ) (left_since : D → ℕ → Images → Type 0) (May : State → List Append → Type 0) where
  -- opening a disk that is a site
  pub opening_leads : (old mid : D) (d : Disk) → ((s : State) → May s []) → IsSiteDisk d → Passes moment left_since old mid (λ c. (b : Images) × Crash d b × SameRecords b c)
      → Passes moment left_since old mid (λ c. (b : Images) × Crash d b × Leads May b c)
  opening_leads old mid d none site opening =
      weaker moment left_since old mid (λ c. (b : Images) × Crash d b × SameRecords b c) (λ c. (b : Images) × Crash d b × Leads May b c) opening
      (λ c was. (was.0, was.1, leads_nowhere May was.0 c none (site was.0 was.1) was.2))

  -- and the plan of the call that follows, from the state that some image of the disk says
  pub call_leads : (old mid new : D) (d : Disk) (b : Images) (s : State) → Crash d b → state_of b ≡ Some s → Passes moment left_since old mid (λ c. (x : Images) × Crash d x × Leads May x c) → Passes moment left_since mid new (Led (May s) s)
      → Passes moment left_since old new (λ c. (x : Images) × Crash d x × Leads May x c)
  call_leads old mid new d b s crash told opening call =
      follows_on moment left_since old mid new (λ c. (x : Images) × Crash d x × Leads May x c) (Led (May s) s) opening call (λ c led. (b, crash, record { from = s; told = told; led = led }))

-- one command behind another
only_first : (May Next : State → List Append → Type 0) (b c : Images) → ((s : State) → Next s []) → Leads May b c → Leads (BothMay May Next) b c
only_first May Next b c none leads = record {
  from = leads.from;
  told = leads.told;
  led = record { plan = leads.led.plan; within = (leads.led.plan, [], leads.led.within, none (after_plan leads.from leads.led.plan), sym (append-nil leads.led.plan)); now = leads.led.now };
}

pub commands_lead : {D : Type 0} (moment : D → ℕ) (left_since : D → ℕ → Images → Type 0) (May Next : State → List Append → Type 0) (old mid new : D) (d e : Disk) → ((s : State) → Next s [])
    → ((t : ℕ) (c : Images) → t ≤ moment mid → Crash e c → left_since mid t c) → Passes moment left_since old mid (λ c. (b : Images) × Crash d b × Leads May b c) → Passes moment left_since mid new (λ c. (b : Images) × Crash e b × Leads Next b c)
    → Passes moment left_since old new (λ c. (b : Images) × Crash d b × Leads (BothMay May Next) b c)
commands_lead moment left_since May Next old mid new d e none counts first second =
    chained moment left_since old mid new (Crash d) (Crash e) (Leads May) (Leads Next) (Leads (BothMay May Next)) (λ c crash. counts (moment old) c first.later crash) first second
    (λ b c leads. only_first May Next b c none leads) (λ b m c one two. leads_both May Next b m c one two)
