-- The first rule that a line breaks.
use Rattle.std.specs.Prelude.{◌≡◌, ℕ, Option, Some, None}
use Rattle.seed_model.specs.Tables.{TableValue}
use Rattle.bound_cert.specs.Lines.{Entry, Title, Span, Answered, NoPlan, End}
use Rattle.bound_cert.specs.Judgements.{Told, Rule, Keeps, IsFirstBroken, number_of}

-- a line keeps every rule, or breaks the rule of this number and none of a smaller one
abbrev pub Judges : TableValue → Told → Entry → Option ℕ → Type 0
Judges table told e None = (rule : Rule) → Keeps table told e rule
Judges table told e (Some number) = (rule : Rule) × (number_of rule ≡ number) × IsFirstBroken table told e rule

-- a line on which no rule is
abbrev pub IsUnruled : Entry → Type 0
IsUnruled (Title version) = Unit {0}
IsUnruled (Span low high) = Unit {0}
IsUnruled (Answered answer) = Unit {0}
IsUnruled NoPlan = Unit {0}
IsUnruled End = Unit {0}
IsUnruled e = ⊥

-- such a line keeps them all
abbrev pub UnruledKeepAll : Type 0
UnruledKeepAll = (table : TableValue) (told : Told) (e : Entry) → IsUnruled e → Judges table told e None
