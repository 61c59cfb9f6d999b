-- Where a row ends, the machine of csv stands before the next one, and a byte at least is gone.
use Rattle.std.proofs.Common.{◌≡◌, ◌<◌, ◌≤◌, ◌++◌, ◌∷◌, [], ℕ, List, Bool, Some, None, refl, true, false, inl, inr, length, arith}
use Rattle.std.specs.Prelude.{◌==◌, ◌&&◌, if◌then◌else◌}
use Rattle.std.proofs.lemmas.Bool.{cases_Bool}
use Rattle.csv.specs.Machine.{next_record, step, ends_at_end, is_end, after_end, in_field, start_field, start_record, ends_with, is_byte, carriage_return, line_feed, fields_after, field_after, Read}
use Rattle.csv.specs.declared.parser.Config.{Config}
use Rattle.csv.specs.declared.parser.Terminator.{Terminator}
use Rattle.csv.specs.declared.parser.Terminator.TheVariants as term
use Rattle.csv.specs.declared.parser.State.{State}
use Rattle.csv.specs.declared.parser.State.TheVariants as st
use Rattle.csv.specs.declared.parser.Action.{Action}
use Rattle.csv.specs.declared.parser.Action.TheVariants as act

-- where a record ends, the machine stands before the next one
abbrev EndsWell : State × Action → Type 0
EndsWell p = is_end p.1 ≡ true → ends_at_end p.0 ≡ false

either-step : (b : Bool) (x y : State × Action) → EndsWell x → EndsWell y → EndsWell (if b then x else y)
either-step true x y f g = f
either-step false x y f g = g

after-ends : (t : Terminator) (c : ℕ) → ends_at_end (after_end t c) ≡ false
after-ends term.CRLF c = elim (c == carriage_return) as (λ b. ends_at_end (if b then st.AfterCr else st.StartRecord) ≡ false) [ true ↦ refl | false ↦ refl ]
after-ends (term.Any t) c = refl

in-field : (cfg : Config) (c : ℕ) → EndsWell (in_field cfg c)
in-field cfg c =
    either-step (c == cfg.delimiter) (st.StartField, act.EndField) (if ends_with cfg.terminator c then (after_end cfg.terminator c, act.EndRecord) else (st.InField, act.Copy)) (λ e. cc e)
    (either-step (ends_with cfg.terminator c) (after_end cfg.terminator c, act.EndRecord) (st.InField, act.Copy) (λ e. after-ends cfg.terminator c) (λ e. cc e))

start-field : (cfg : Config) (c : ℕ) → EndsWell (start_field cfg c)
start-field cfg c = either-step (cfg.quoting && (c == cfg.quote)) (st.InQuoted, act.Skip) (in_field cfg c) (λ e. cc e) (in-field cfg c)

start-record : (cfg : Config) (c : ℕ) → EndsWell (start_record cfg c)
start-record cfg c =
    either-step (ends_with cfg.terminator c) (st.StartRecord, act.Skip) (if is_byte cfg.comment c then (st.InComment, act.Skip) else start_field cfg c) (λ e. cc e)
    (either-step (is_byte cfg.comment c) (st.InComment, act.Skip) (start_field cfg c) (λ e. cc e) (start-field cfg c))

step-ends : (cfg : Config) (s : State) (c : ℕ) → EndsWell (step cfg s c)
step-ends cfg st.StartRecord c = start-record cfg c
step-ends cfg st.StartField c = start-field cfg c
step-ends cfg st.InField c = in-field cfg c
step-ends cfg st.InQuoted c =
    either-step (cfg.quoting && (c == cfg.quote)) (st.AfterQuote, act.Skip) (if cfg.quoting && is_byte cfg.escape c then (st.InEscape, act.Skip) else (st.InQuoted, act.Copy)) (λ e. cc e)
    (either-step (cfg.quoting && is_byte cfg.escape c) (st.InEscape, act.Skip) (st.InQuoted, act.Copy) (λ e. cc e) (λ e. cc e))
step-ends cfg st.InEscape c = λ e. cc e
step-ends cfg st.AfterQuote c = either-step (cfg.quoting && cfg.double_quote && (c == cfg.quote)) (st.InQuoted, act.Copy) (in_field cfg c) (λ e. cc e) (in-field cfg c)
step-ends cfg st.InComment c = either-step (c == line_feed) (st.StartRecord, act.Skip) (st.InComment, act.Skip) (λ e. cc e) (λ e. cc e)
step-ends cfg st.AfterCr c = either-step (c == line_feed) (st.StartRecord, act.Skip) (start_record cfg c) (λ e. cc e) (start-record cfg c)

-- what a record leaves of a text
pub record Leaves (s : State) (xs : List ℕ) (q : Read) : Type 0 where
  pub fewer : length q.2 ≤ length xs
  pub fewer_from_start : ends_at_end s ≡ false → length q.2 < length xs
  pub between : ends_at_end q.1 ≡ false

at-end : (b : Bool) (s : State) (f : List (List ℕ)) (q : Read) → ends_at_end s ≡ b → (if b then Some (f, st.StartRecord, []) else None) ≡ Some q → Leaves s [] q
at-end true s f q e h =
    let same : (f, st.StartRecord, []) ≡ q = cc h in
    rw (← same) record { fewer = omega arith; fewer_from_start = λ n. cc (e, n); between = refl }
at-end false s f q e h = cc h

pub next-leaves : (cfg : Config) (s : State) (f : List (List ℕ)) (p xs : List ℕ) (q : Read) → next_record cfg s f p xs ≡ Some q → Leaves s xs q
unfolding next_record
next-leaves cfg s f p [] q h = at-end (ends_at_end s) s (f ++ (p ∷ [])) q refl h
next-leaves cfg s f p (c ∷ rest) q h = elim (cases_Bool (is_end (step cfg s c).1)) [
  | inl e ↦
      let same : (fields_after (step cfg s c).1 f p, (step cfg s c).0, rest) ≡ q = cc (rw e at h) in
      rw (← same) record { fewer = omega arith; fewer_from_start = λ n. omega arith; between = step-ends cfg s c e }
  | inr e ↦
      let l = next-leaves cfg (step cfg s c).0 (fields_after (step cfg s c).1 f p) (field_after (step cfg s c).1 c p) rest q (rw e at h) in
      record { fewer = omega (arith, l.fewer); fewer_from_start = λ n. omega (arith, l.fewer); between = l.between }
]
