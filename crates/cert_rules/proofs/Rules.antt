-- The rules on each kind of line.
use Rattle.std.proofs.Common.{◌≡◌, ◌∙◌, ◌<◌, ℕ, List, Bool, true, false, length, refl, sym, ap, subst, arith, Option, Some, None}
use Rattle.std.specs.Prelude.{◌↔◌, IfSome, IsTrue}
use Rattle.seed_model.specs.declared.node.Node.{Node}
use Rattle.seed_model.specs.declared.node.Mix.{Mix}
use Rattle.seed_model.specs.declared.range.Range.{Range}
use Rattle.seed_model.specs.Differences.{IsFirstDifference}
use Rattle.seed_model.specs.Files.{holds}
use Rattle.seed_model.specs.Tables.{TableValue}
use Rattle.seed_model.specs.Ranges.{InRange}
use Rattle.seed_model.specs.Sums.{migrated_of, replicated_of}
use Rattle.seed_model.specs.Nodes.{IsMember, IsMix, ReplicatesUpTo, is_free}
use Rattle.bound_cert.specs.declared.heading.Pins.{Pins}
use Rattle.bound_cert.specs.Lines.{Entry, Title, Span, Pinned, Answered, Planned, NoPlan, Bounded, NoBound, Branch, Low, High, Leaf, Give, End}
use Rattle.bound_cert.specs.Documents.{bound_entry}
use Rattle.bound_cert.specs.Judgements.{Told, Keeps, Rule, Width, Answering, Sums, InReach, Difference, Mixing, Closing, Using, Charging, Rewarding, Reaching, Apart, Pinning, HasWidth, HasSums, IsApart, IsDifference, IsInReach, IsMixed, IsPinning, number_of}
use Rattle.bound_cert.specs.Sets.{IsSetOf, mix_named, root_of, set_named}
use Rattle.bound_cert.specs.Valid.{Agrees}
use Rattle.cert_rules.specs.Judged.{Judges, UnruledKeepAll}

-- a fact of two values
pub both : {A B : Type 0} (P : A → B → Type 0) {a a' : A} {b b' : B} → a ≡ a' → b ≡ b' → P a b → P a' b'
both P {a} {a'} {b} {b'} e f p = subst (λ x. P x b') e (subst (λ y. P a y) f p)

-- what a test that fails says
pub fails : (b : Bool) (P : Type 0) → b ≡ false → IsTrue b ↔ P → ¬ P
fails b P f h = λ p. let t : b ≡ true = h.1 p in cc

small : (rule : Rule) → number_of rule < 15
small Width = omega arith
small Answering = omega arith
small Sums = omega arith
small InReach = omega arith
small Difference = omega arith
small Mixing = omega arith
small Closing = omega arith
small Using = omega arith
small Charging = omega arith
small Rewarding = omega arith
small Reaching = omega arith
small Apart = omega arith
small Pinning = omega arith

-- the rules with a smaller number are kept
abbrev KeepsBelow : TableValue → Told → Entry → ℕ → Type 0
KeepsBelow table told e n = (rule : Rule) → number_of rule < n → Keeps table told e rule

kept : (table : TableValue) (told : Told) (e : Entry) → KeepsBelow table told e 15 → Judges table told e None
kept table told e below = λ rule. below rule (small rule)

broken : (table : TableValue) (told : Told) (e : Entry) (rule : Rule) → ¬ Keeps table told e rule → KeepsBelow table told e (number_of rule) → Judges table told e (Some (number_of rule))
broken table told e rule breaks below = (rule, refl, record { breaks = breaks; before = below })

-- pins
pins_below : (table : TableValue) (told : Told) (go stay : List ℕ) (n : ℕ) → (2 < n → HasWidth table.files (Pinned go stay)) → (13 < n → IsApart table.files (Pinned go stay)) → KeepsBelow table told (Pinned go stay) n
pins_below table told go stay n width apart Width lt = width lt
pins_below table told go stay n width apart Apart lt = apart lt
pins_below table told go stay n width apart rule lt = tt

pub pins_pass : (table : TableValue) (told : Told) (go stay : List ℕ) → HasWidth table.files (Pinned go stay) → IsApart table.files (Pinned go stay) → Judges table told (Pinned go stay) None
pins_pass table told go stay width apart = kept table told (Pinned go stay) (pins_below table told go stay 15 (λ lt. width) (λ lt. apart))

pub pins_width : (table : TableValue) (told : Told) (go stay : List ℕ) → ¬ HasWidth table.files (Pinned go stay) → Judges table told (Pinned go stay) (Some 2)
pins_width table told go stay breaks = broken table told (Pinned go stay) Width breaks (pins_below table told go stay 2 (λ lt. absurd (omega arith)) (λ lt. absurd (omega arith)))

pub pins_apart : (table : TableValue) (told : Told) (go stay : List ℕ) → HasWidth table.files (Pinned go stay) → ¬ IsApart table.files (Pinned go stay) → Judges table told (Pinned go stay) (Some 13)
pins_apart table told go stay width breaks = broken table told (Pinned go stay) Apart breaks (pins_below table told go stay 13 (λ lt. width) (λ lt. absurd (omega arith)))

-- a plan
record PlanBelow (table : TableValue) (told : Told) (e : Entry) (n : ℕ) : Type 0 where
  width : 2 < n → Keeps table told e Width
  sums : 4 < n → Keeps table told e Sums
  reach : 5 < n → Keeps table told e InReach
  pinning : 14 < n → Keeps table told e Pinning

plan_below : (table : TableValue) (told : Told) (set : List ℕ) (m r n : ℕ) → PlanBelow table told (Planned set m r) n → KeepsBelow table told (Planned set m r) n
plan_below table told set m r n k Width lt = k.width lt
plan_below table told set m r n k Sums lt = k.sums lt
plan_below table told set m r n k InReach lt = k.reach lt
plan_below table told set m r n k Pinning lt = k.pinning lt
plan_below table told set m r n k rule lt = tt

pub plan_width : (table : TableValue) (told : Told) (set : List ℕ) (m r : ℕ) → ¬ Keeps table told (Planned set m r) Width → Judges table told (Planned set m r) (Some 2)
plan_width table told set m r breaks = broken table told (Planned set m r) Width breaks (plan_below table told set m r 2 (record {
  width = λ lt. absurd (omega arith);
  sums = λ lt. absurd (omega arith);
  reach = λ lt. absurd (omega arith);
  pinning = λ lt. absurd (omega arith);
}))

pub plan_sums : (table : TableValue) (told : Told) (set : List ℕ) (m r : ℕ) → Keeps table told (Planned set m r) Width → ¬ Keeps table told (Planned set m r) Sums → Judges table told (Planned set m r) (Some 4)
plan_sums table told set m r width breaks = broken table told (Planned set m r) Sums breaks (plan_below table told set m r 4 (record {
  width = λ lt. width;
  sums = λ lt. absurd (omega arith);
  reach = λ lt. absurd (omega arith);
  pinning = λ lt. absurd (omega arith);
}))

pub plan_reach : (table : TableValue) (told : Told) (set : List ℕ) (m r : ℕ) → Keeps table told (Planned set m r) Width → Keeps table told (Planned set m r) Sums → ¬ Keeps table told (Planned set m r) InReach
    → Judges table told (Planned set m r) (Some 5)
plan_reach table told set m r width sums breaks = broken table told (Planned set m r) InReach breaks (plan_below table told set m r 5 (record {
  width = λ lt. width;
  sums = λ lt. sums;
  reach = λ lt. absurd (omega arith);
  pinning = λ lt. absurd (omega arith);
}))

pub plan_pinning : (table : TableValue) (told : Told) (set : List ℕ) (m r : ℕ) → Keeps table told (Planned set m r) Width → Keeps table told (Planned set m r) Sums → Keeps table told (Planned set m r) InReach
    → ¬ Keeps table told (Planned set m r) Pinning → Judges table told (Planned set m r) (Some 14)
plan_pinning table told set m r width sums reach breaks = broken table told (Planned set m r) Pinning breaks (plan_below table told set m r 14 (record {
  width = λ lt. width;
  sums = λ lt. sums;
  reach = λ lt. reach;
  pinning = λ lt. absurd (omega arith);
}))

pub plan_pass : (table : TableValue) (told : Told) (set : List ℕ) (m r : ℕ) → Keeps table told (Planned set m r) Width → Keeps table told (Planned set m r) Sums → Keeps table told (Planned set m r) InReach
    → Keeps table told (Planned set m r) Pinning → Judges table told (Planned set m r) None
plan_pass table told set m r width sums reach pinning = kept table told (Planned set m r) (plan_below table told set m r 15 (record {
  width = λ lt. width;
  sums = λ lt. sums;
  reach = λ lt. reach;
  pinning = λ lt. pinning;
}))

-- a bound, or none
bound_below : (table : TableValue) (told : Told) (bound : Option ℕ) (n : ℕ) → (3 < n → Agrees told.answer told.plan bound) → KeepsBelow table told (bound_entry bound) n
bound_below table told None n agrees Answering lt = agrees lt
bound_below table told None n agrees rule lt = tt
bound_below table told (Some z) n agrees Answering lt = agrees lt
bound_below table told (Some z) n agrees rule lt = tt

pub bound_pass : (table : TableValue) (told : Told) (bound : Option ℕ) → Agrees told.answer told.plan bound → Judges table told (bound_entry bound) None
bound_pass table told bound agrees = kept table told (bound_entry bound) (bound_below table told bound 15 (λ lt. agrees))

pub bound_fails : (table : TableValue) (told : Told) (bound : Option ℕ) → ¬ Agrees told.answer told.plan bound → Judges table told (bound_entry bound) (Some 3)
bound_fails table told None breaks = broken table told NoBound Answering breaks (bound_below table told None 3 (λ lt. absurd (omega arith)))
bound_fails table told (Some z) breaks = broken table told (Bounded z) Answering breaks (bound_below table told (Some z) 3 (λ lt. absurd (omega arith)))

-- a branching
record BranchBelow (table : TableValue) (told : Told) (e : Entry) (n : ℕ) : Type 0 where
  width : 2 < n → Keeps table told e Width
  difference : 6 < n → Keeps table told e Difference
  mixing : 7 < n → Keeps table told e Mixing

branch_below : (table : TableValue) (told : Told) (f : ℕ) (p q : List ℕ) (a b n : ℕ) → BranchBelow table told (Branch f p q a b) n → KeepsBelow table told (Branch f p q a b) n
branch_below table told f p q a b n k Width lt = k.width lt
branch_below table told f p q a b n k Difference lt = k.difference lt
branch_below table told f p q a b n k Mixing lt = k.mixing lt
branch_below table told f p q a b n k rule lt = tt

pub branch_width : (table : TableValue) (told : Told) (f : ℕ) (p q : List ℕ) (a b : ℕ) → ¬ Keeps table told (Branch f p q a b) Width → Judges table told (Branch f p q a b) (Some 2)
branch_width table told f p q a b breaks = broken table told (Branch f p q a b) Width breaks (branch_below table told f p q a b 2 (record {
  width = λ lt. absurd (omega arith);
  difference = λ lt. absurd (omega arith);
  mixing = λ lt. absurd (omega arith);
}))

pub branch_difference : (table : TableValue) (told : Told) (f : ℕ) (p q : List ℕ) (a b : ℕ) → Keeps table told (Branch f p q a b) Width → ¬ Keeps table told (Branch f p q a b) Difference
    → Judges table told (Branch f p q a b) (Some 6)
branch_difference table told f p q a b width breaks = broken table told (Branch f p q a b) Difference breaks (branch_below table told f p q a b 6 (record {
  width = λ lt. width;
  difference = λ lt. absurd (omega arith);
  mixing = λ lt. absurd (omega arith);
}))

pub branch_mixing : (table : TableValue) (told : Told) (f : ℕ) (p q : List ℕ) (a b : ℕ) → Keeps table told (Branch f p q a b) Width → Keeps table told (Branch f p q a b) Difference
    → ¬ Keeps table told (Branch f p q a b) Mixing → Judges table told (Branch f p q a b) (Some 7)
branch_mixing table told f p q a b width difference breaks = broken table told (Branch f p q a b) Mixing breaks (branch_below table told f p q a b 7 (record {
  width = λ lt. width;
  difference = λ lt. difference;
  mixing = λ lt. absurd (omega arith);
}))

pub branch_pass : (table : TableValue) (told : Told) (f : ℕ) (p q : List ℕ) (a b : ℕ) → Keeps table told (Branch f p q a b) Width → Keeps table told (Branch f p q a b) Difference
    → Keeps table told (Branch f p q a b) Mixing → Judges table told (Branch f p q a b) None
branch_pass table told f p q a b width difference mixing = kept table told (Branch f p q a b) (branch_below table told f p q a b 15 (record {
  width = λ lt. width;
  difference = λ lt. difference;
  mixing = λ lt. mixing;
}))

-- a node closed as low or high
low_below : (table : TableValue) (told : Told) (n : ℕ) → (8 < n → Keeps table told Low Closing) → KeepsBelow table told Low n
low_below table told n closing Closing lt = closing lt
low_below table told n closing rule lt = tt

high_below : (table : TableValue) (told : Told) (n : ℕ) → (8 < n → Keeps table told High Closing) → KeepsBelow table told High n
high_below table told n closing Closing lt = closing lt
high_below table told n closing rule lt = tt

pub low_pass : (table : TableValue) (told : Told) → Keeps table told Low Closing → Judges table told Low None
low_pass table told closing = kept table told Low (low_below table told 15 (λ lt. closing))

pub low_fails : (table : TableValue) (told : Told) → ¬ Keeps table told Low Closing → Judges table told Low (Some 8)
low_fails table told breaks = broken table told Low Closing breaks (low_below table told 8 (λ lt. absurd (omega arith)))

pub high_pass : (table : TableValue) (told : Told) → Keeps table told High Closing → Judges table told High None
high_pass table told closing = kept table told High (high_below table told 15 (λ lt. closing))

pub high_fails : (table : TableValue) (told : Told) → ¬ Keeps table told High Closing → Judges table told High (Some 8)
high_fails table told breaks = broken table told High Closing breaks (high_below table told 8 (λ lt. absurd (omega arith)))

-- lines on which no rule is
pub unruled_keep_all : UnruledKeepAll
unruled_keep_all table told (Title v) h Width = tt
unruled_keep_all table told (Title v) h rule = tt
unruled_keep_all table told (Span low high) h Width = tt
unruled_keep_all table told (Span low high) h rule = tt
unruled_keep_all table told (Answered answer) h Width = tt
unruled_keep_all table told (Answered answer) h rule = tt
unruled_keep_all table told NoPlan h Width = tt
unruled_keep_all table told NoPlan h rule = tt
unruled_keep_all table told End h Width = tt
unruled_keep_all table told End h rule = tt
unruled_keep_all table told (Pinned go stay) h rule = absurd h
unruled_keep_all table told (Planned set m r) h rule = absurd h
unruled_keep_all table told (Bounded z) h rule = absurd h
unruled_keep_all table told NoBound h rule = absurd h
unruled_keep_all table told (Branch f p q a b) h rule = absurd h
unruled_keep_all table told Low h rule = absurd h
unruled_keep_all table told High h rule = absurd h
unruled_keep_all table told (Leaf p q k) h rule = absurd h
unruled_keep_all table told (Give c f a b) h rule = absurd h

-- what tests of sets say of their words
pub named_width : (b : Bool) (n files : ℕ) (word : List ℕ) → n ≡ files → IsTrue b ↔ IsSetOf n word → IsTrue b ↔ IsSetOf files word
named_width b n files word e h = subst (λ (m : ℕ). IsTrue b ↔ IsSetOf m word) e h

pub named_at : (s : List Bool) (n files : ℕ) (word : List ℕ) → n ≡ files → s ≡ set_named n word → s ≡ set_named files word
named_at s n files word e h = h ∙ ap (λ (m : ℕ). set_named m word) e

pub named_apart : (b : Bool) (s t : List Bool) (files : ℕ) (go stay : List ℕ) → length s ≡ files → s ≡ set_named files go → t ≡ set_named files stay
    → IsTrue b ↔ ((file : ℕ) → file < length s → IsTrue (holds s file) → holds t file ≡ false) → IsTrue b ↔ IsApart files (Pinned go stay)
named_apart b s t files go stay len e f h =
    let at : IsTrue b ↔ ((file : ℕ) → file < files → IsTrue (holds s file) → holds t file ≡ false) = subst (λ (n : ℕ). IsTrue b ↔ ((file : ℕ) → file < n → IsTrue (holds s file) → holds t file ≡ false)) len h in
    both (λ (x y : List Bool). IsTrue b ↔ ((file : ℕ) → file < files → IsTrue (holds x file) → holds y file ≡ false)) e f at

pub named_sums : (b : Bool) (table : TableValue) (s : List Bool) (word : List ℕ) (m r : ℕ) → s ≡ set_named table.files word
    → IsTrue b ↔ ((m ≡ migrated_of (holds s) table) × (r ≡ replicated_of (holds s) table)) → IsTrue b ↔ HasSums table (Planned word m r)
named_sums b table s word m r e h = subst (λ (x : List Bool). IsTrue b ↔ ((m ≡ migrated_of (holds x) table) × (r ≡ replicated_of (holds x) table))) e h

pub named_reach : (b : Bool) (table : TableValue) (range at : Range) (s : List Bool) (word : List ℕ) (m r : ℕ) → s ≡ set_named table.files word → at ≡ range
    → IsTrue b ↔ InRange table range (holds s) → IsTrue b ↔ IsInReach table at (Planned word m r)
named_reach b table range at s word m r e f h = both (λ (x : List Bool) (y : Range). IsTrue b ↔ InRange table y (holds x)) e (sym f) h

pub named_pinning : (b : Bool) (files : ℕ) (root : Node) (pins : Option Pins) (s : List Bool) (word : List ℕ) (m r : ℕ) → length s ≡ files → s ≡ set_named files word → root_of files pins ≡ root
    → IsTrue b ↔ IsMember (length s) root (holds s) → IsTrue b ↔ IsPinning files pins (Planned word m r)
named_pinning b files root pins s word m r len e f h =
    let at : IsTrue b ↔ IsMember files root (holds s) = subst (λ (n : ℕ). IsTrue b ↔ IsMember n root (holds s)) len h in
    both (λ (x : List Bool) (y : Node). IsTrue b ↔ IsMember files y (holds x)) e (sym f) at

pub named_difference : (b : Bool) (files : ℕ) (node at : Node) (mix : Mix) (f : ℕ) (p q : List ℕ) (x y : ℕ) → mix ≡ mix_named files p q x y → at ≡ node
    → IsTrue b ↔ ((is_free node f ≡ true) × IsFirstDifference mix.first mix.second f) → IsTrue b ↔ IsDifference files at (Branch f p q x y)
named_difference b files node at mix f p q x y e g h = both (λ (m : Mix) (n : Node). IsTrue b ↔ ((is_free n f ≡ true) × IsFirstDifference m.first m.second f)) e (sym g) h

pub named_mixing : (b : Bool) (table : TableValue) (range span : Range) (bound limit : Option ℕ) (node at : Node) (mix : Mix) (f : ℕ) (p q : List ℕ) (x y : ℕ) → mix ≡ mix_named table.files p q x y → at ≡ node → span ≡ range → limit ≡ bound
    → IsTrue b ↔ (IsMix table range node mix × IfSome bound (ReplicatesUpTo table mix)) → IsTrue b ↔ IsMixed table span limit at (Branch f p q x y)
named_mixing b table range span bound limit node at mix f p q x y e g k l h =
    let here : IsTrue b ↔ (IsMix table span node mix × IfSome limit (ReplicatesUpTo table mix)) = both (λ (r : Range) (z : Option ℕ). IsTrue b ↔ (IsMix table r node mix × IfSome z (ReplicatesUpTo table mix))) (sym k) (sym l) h in
    both (λ (m : Mix) (n : Node). IsTrue b ↔ (IsMix table span n m × IfSome limit (ReplicatesUpTo table m))) e (sym g) here
