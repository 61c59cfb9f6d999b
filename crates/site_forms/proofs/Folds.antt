-- Folds that may stop, and what blank devices fold to.
use Rattle.std.proofs.Common.{◌≡◌, inl, ℕ, ◌+◌, ◌≤◌, List, [], ◌∷◌, ◌++◌, length, Option, Some, None, refl, sym, ◌∙◌, ap, arith}
use Rattle.std.specs.Prelude.{is_some, ◌&&◌}
use Rattle.std.specs.Option.{option_and_then, option_map}
use Rattle.std.specs.FinMap as map
use Rattle.std.proofs.lemmas.Option.{none-some}
use Rattle.site_forms.specs.declared.phase.Phase.{Phase}
use Rattle.site_forms.specs.declared.phase.Phase.TheVariants.{Idle}
use Rattle.site_forms.specs.Halves.{generation, stronger, records_of, records_in, records_at}
use Rattle.site_forms.specs.Volumes.{Volume, bytes_cmp, empty_volume, fold_from, volume_of}
use Rattle.site_forms.specs.Phases.{phase_of}
use Rattle.site_forms.specs.Sites.{IsSite, IsSiteAt, volume_at, phase_at}
use Rattle.site_forms.proofs.Logs.{blank}
use Rattle.site_forms.proofs.Halves.{closed_none}

all_some : {S : Type 0} (o : Option S) → option_and_then (λ (s : S). Some s) o ≡ o
all_some None = refl
all_some (Some s) = refl

module _ {S : Type 0} (step : S → List ℕ → Option S) where
  -- one body more at the end
  pub fold_more : (state : S) (bodies : List (List ℕ)) (body : List ℕ) → fold_from step state (bodies ++ body ∷ []) ≡ option_and_then (λ s. step s body) (fold_from step state bodies)
  fold_more state [] body = all_some (step state body)
  fold_more state (front ∷ bodies) body =
      elim (step state front) as (λ o. option_and_then (λ s. fold_from step s (bodies ++ body ∷ [])) o ≡ option_and_then (λ s. step s body) (option_and_then (λ s. fold_from step s bodies) o)) [
        | None ↦ refl
        | Some next ↦ fold_more next bodies body
      ]

-- a place of blank devices has no records
pub short_records : (c : ℕ → List ℕ) (place : ℕ) → length (c place) ≤ 1 → length (c (place + 3)) ≤ 1 → records_at c place ≡ Some []
short_records c place one two =
    ap (λ g. records_of (stronger g (generation (c (place + 3)))) (c place) (c (place + 3))) (closed_none (c place) (inl one))
    ∙ ap (λ g. records_of (stronger None g) (c place) (c (place + 3))) (closed_none (c (place + 3)) (inl two))
    ∙ ap records_in (blank (c place) one)

blank_records : (c : ℕ → List ℕ) (place : ℕ) → ((dev : ℕ) → dev ≤ 5 → length (c dev) ≤ 1) → place ≤ 2 → records_at c place ≡ Some []
blank_records c place short is_place = short_records c place (short place (omega (arith, is_place))) (short (place + 3) (omega (arith, is_place)))

-- two empty volumes and no migration
empty_site : IsSite (record { a = empty_volume; b = empty_volume; phase = Idle })
empty_site = record {
  fits = λ name. ap (λ o. is_some o && is_some (map.get (map.empty {X = List (List ℕ)} {R = bytes_cmp}) name)) (map.get-empty bytes_cmp name);
  named_a = λ name bytes held. absurd (none-some bytes (sym (map.get-empty bytes_cmp name) ∙ held));
  named_b = λ name bytes held. absurd (none-some bytes (sym (map.get-empty bytes_cmp name) ∙ held));
  agree = λ busy. absurd (busy refl);
}

pub blank_site : (c : ℕ → List ℕ) → ((dev : ℕ) → dev ≤ 5 → length (c dev) ≤ 1) → IsSiteAt c
blank_site c short =
    let a : volume_at c 0 ≡ Some empty_volume = ap (option_and_then volume_of) (blank_records c 0 short (omega arith)) in
    let b : volume_at c 1 ≡ Some empty_volume = ap (option_and_then volume_of) (blank_records c 1 short (omega arith)) in
    let p : phase_at c ≡ Some Idle = ap (option_and_then phase_of) (blank_records c 2 short (omega arith)) in (
      record { a = empty_volume; b = empty_volume; phase = Idle },
      ap (λ o. option_and_then (λ (x : Volume). option_and_then (λ (y : Volume). option_map (λ (q : Phase). record { a = x; b = y; phase = q }) (phase_at c)) (volume_at c 1)) o) a
          ∙ ap (λ o. option_and_then (λ (y : Volume). option_map (λ (q : Phase). record { a = empty_volume; b = y; phase = q }) (phase_at c)) o) b
          ∙ ap (λ o. option_map (λ (q : Phase). record { a = empty_volume; b = empty_volume; phase = q }) o) p,
      empty_site,
    )
