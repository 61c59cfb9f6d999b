-- What a command leaves that creates a name.
use Rattle.std.proofs.Common.{◌≡◌, ◌≢◌, ◌∙◌, ℕ, List, Bool, true, false, Option, Some, refl, sym, ap, subst, inl, inr, length, take, arith, if◌then◌else◌}
use Rattle.std.specs.Prelude.{bytes_eq, option_map}
use Rattle.std.specs.Cmp.Lexicographic.{same_text, other_text}
use Rattle.std.proofs.lemmas.List.{take_all}
use Rattle.seed_io.specs.Shelf.{Told, OthersStay}
use Rattle.command_texts.specs.declared.status.Status.{Status}
use Rattle.command_texts.specs.declared.status.Status.TheVariants.{Done, Refused}
use Rattle.command_endings.specs.Worlds.{Creating, Over, ShelfEnds}
use Rattle.command_endings.specs.Creating.{HoldsFront, LeavesOthers}
use Rattle.command_endings.proofs.WorldLemmas.{same_name}

-- all of the bytes are a front of them
pub all_of_them : (old new : Told) (name bytes : List ℕ) → new name ≡ Some bytes → HoldsFront old new name bytes
all_of_them old new name bytes whole = inr (length bytes, whole ∙ ap Some (sym (take_all (length bytes) bytes (omega arith))))

-- the byte strings, with these bytes behind a name
pub with_name : Told → List ℕ → List ℕ → Told
with_name given name bytes other = if bytes_eq other name then Some bytes else given other

pub with_here : (given : Told) (name bytes other : List ℕ) → other ≡ name → with_name given name bytes other ≡ Some bytes
unfolding with_name
with_here given name bytes other same = by_test (bytes_eq other name) refl
  where
    by_test : (test : Bool) → test ≡ bytes_eq other name → (if test then Some bytes else given other) ≡ Some bytes
    by_test true e = refl
    by_test false e = absurd (other_text other name e same)

pub with_elsewhere : (given : Told) (name bytes other : List ℕ) → other ≢ name → with_name given name bytes other ≡ given other
unfolding with_name
with_elsewhere given name bytes other apart = by_test (bytes_eq other name) refl
  where
    by_test : (test : Bool) → test ≡ bytes_eq other name → (if test then Some bytes else given other) ≡ given other
    by_test true e = absurd (apart (same_text other name e))
    by_test false e = refl

module _ (P : Told → Status → List ℕ → Option (List ℕ) → Type 0) (tells : Bool) (old mid new : Told) (name bytes : List ℕ) (status : Status) (text : List ℕ) where
  creates : (given : Told) → ((number : ℕ) → status ≢ Refused number) → P given status text (Some bytes)
      → Creating name P given status text (with_name given name bytes)
  creates given done holds = record {
    ends = subst (P given status text) (sym (with_here given name bytes name refl)) holds;
    others = λ other apart. with_elsewhere given name bytes other apart;
    refused = λ number is. absurd (done number is);
  }

  -- the name was created whole
  pub over_created : mid ≡ old → (tells ≡ true → OthersStay mid new name) → (tells ≡ true → new name ≡ Some bytes) → ((number : ℕ) → status ≢ Refused number)
      → Over tells old (λ given. P given status text (Some bytes)) → ShelfEnds tells old new (Creating name P) status text
  over_created same others whole done over = record {
    given = over.given;
    told = over.told;
    holds = record {
      given = with_name over.given name bytes;
      told = λ told other. elim (same_name other name) [
        | inl at ↦ with_here over.given name bytes other at ∙ sym (ap new at ∙ whole told)
        | inr apart ↦ with_elsewhere over.given name bytes other apart ∙ (over.told told other ∙ sym (others told other apart ∙ ap (λ (m : Told). m other) same))
      ];
      holds = creates over.given done over.holds;
    };
  }

  -- the name was created, or a call failed in that
  pub leaves_creating : mid ≡ old → OthersStay mid new name → HoldsFront mid new name bytes → ((number : ℕ) → status ≢ Refused number) → Over tells old (λ given. P given status text (Some bytes))
      → LeavesOthers tells old new name (Creating name P)
  leaves_creating same others front done over = record {
    others = λ other apart. others other apart ∙ ap (λ (m : Told). m other) same;
    part = elim front [
      | inl before ↦ inl (before ∙ ap (λ (m : Told). m name) same)
      | inr some ↦ inr
          (record {
            status = status;
            text = text;
            left = with_name over.given name bytes;
            ends = record { given = over.given; told = over.told; holds = creates over.given done over.holds };
            count = some.0;
            front = some.1 ∙ ap (option_map (take some.0)) (sym (with_here over.given name bytes name refl));
          })
    ];
  }

-- a command that was refused before it created the name
pub over_refused : (P : Told → Status → List ℕ → Option (List ℕ) → Type 0) (tells : Bool) (old new : Told) (name : List ℕ) (status : Status) (text : List ℕ) → new ≡ old
    → Over tells old (λ given. P given status text (given name)) → ShelfEnds tells old new (Creating name P) status text
over_refused P tells old new name status text same over = record {
  given = over.given;
  told = over.told;
  holds = record {
    given = over.given;
    told = λ told other. over.told told other ∙ ap (λ (m : Told). m other) (sym same);
    holds = record { ends = over.holds; others = λ other apart. refl; refused = λ number is. refl };
  };
}

-- it ended before it created the name
pub leaves_before : (P : Told → Status → List ℕ → Option (List ℕ) → Type 0) (tells : Bool) (old new : Told) (name : List ℕ) → new ≡ old → LeavesOthers tells old new name (Creating name P)
leaves_before P tells old new name same = record { others = λ other apart. ap (λ (m : Told). m other) same; part = inl (ap (λ (m : Told). m name) same) }

-- a command that is done is not refused
pub not_refused : (status : Status) → status ≡ Done → (number : ℕ) → status ≢ Refused number
not_refused status done number = λ is. cc (done, is)
