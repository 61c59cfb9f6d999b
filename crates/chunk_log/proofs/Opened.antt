-- Devices that are opened.
use Rattle.std.proofs.Common.{◌≡◌, inl, ℕ, ◌≤◌, List, [], ◌∷◌, length, refl, sym, ◌∙◌, ap, arith}
use Rattle.std.specs.Prelude.{Bool, if◌then◌else◌}
use Rattle.std.proofs.lemmas.Bool.{le-leb, lt-leb}
use Rattle.volume_disk.specs.Medium.{Medium, at_rest, written}
use Rattle.volume_disk.proofs.Within.{written_within}
use Rattle.site_forms.proofs.Logs.{blank, shut}
use Rattle.site_forms.proofs.Halves.{closed_none}
use Rattle.chunk_log.specs.declared.opening.Found.{Found}
use Rattle.chunk_log.specs.declared.opening.Found.TheVariants.{End, Bad as BadGate}
use Rattle.chunk_log.specs.Opening.{Finds, Opens}

-- a device at rest that is walked over
pub opened_from : (image : List ℕ) (m : Medium) → 2 ≤ length image → m ≡ at_rest image → (found : Found) → Finds image found → Opens image m found
opened_from image m long rest (End gate) log = record { now = image; is = sym (ap (λ (b : Bool). if b then 0 ∷ [] else image) (lt-leb (length image) 1 (omega (arith, long)))); rest = rest; bodies = log.0; told = log.1.good; log = log.1; kept = refl }
opened_from image m long rest (BadGate gate) bad = bad

gate_alone : (image : List ℕ) → length image ≤ 1 → written image 0 (0 ∷ []) ≡ 0 ∷ []
gate_alone [] short = written_within [] 0 (0 ∷ []) (omega arith)
gate_alone (x ∷ []) short = written_within (x ∷ []) 0 (0 ∷ []) (omega arith)
gate_alone (x ∷ y ∷ rest) short = absurd (omega (arith, short))

-- a blank device that got its gate
pub opened_blank : (image : List ℕ) (m : Medium) → length image ≤ 1 → m ≡ at_rest (written image 0 (0 ∷ [])) → Opens image m (End 0)
opened_blank image m short rest = record {
  now = 0 ∷ [];
  is = sym (ap (λ (b : Bool). if b then 0 ∷ [] else image) (le-leb (length image) 1 short));
  rest = rest ∙ ap at_rest (gate_alone image short);
  bodies = [];
  told = blank image short;
  log = record { good = refl; gate = omega arith; closed = shut 0 refl };
  kept = sym (closed_none image (inl short));
}
