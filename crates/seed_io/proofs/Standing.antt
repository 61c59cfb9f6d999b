-- Where a reading stands in a name's bytes.
use Rattle.std.proofs.Common.{◌≡◌, ◌∙◌, ◌+◌, ◌<◌, ◌≤◌, ℕ, Bool, true, false, List, [], ◌++◌, refl, sym, ap, length, take, drop, replicate, arith, append_assoc, length-append, length-drop}
use Rattle.std.proofs.Math.Seq.{drop-append_seam}
use Rattle.std.proofs.lemmas.List.{drop-drop, drop-append-le, take-append-drop, append-nil, nil_from_length, length-replicate}
use Rattle.seed_io.specs.Lines.{Reading, StandsIn}
use Rattle.seed_io.specs.Shelf.{Told, Gives, GaveMore}

-- a place further on, within what is held
pub stands_behind : (file held more : List ℕ) (place n : ℕ) → drop place file ≡ held ++ more → n ≤ length held → drop (place + n) file ≡ drop n held ++ more
stands_behind file held more place n stands within = sym (drop-drop n place file) ∙ (ap (λ (l : List ℕ). drop n l) stands ∙ drop-append-le n held more within)

-- nothing more, where what is held is all
pub no_more : (held more : List ℕ) → held ++ more ≡ held → more ≡ []
no_more held more all = nil_from_length more (omega (arith, ap length all, length-append held more))

-- what follows the bytes held
pub follows_held : (file held more : List ℕ) (place : ℕ) → drop place file ≡ held ++ more → drop (place + length held) file ≡ more
follows_held file held more place stands = sym (drop-drop (length held) place file) ∙ (ap (λ (l : List ℕ). drop (length held) l) stands ∙ drop-append_seam held more)

-- more was read behind the bytes held
pub stands_longer : (file held more new : List ℕ) (place n : ℕ) → drop place file ≡ held ++ more → new ≡ held ++ take n (drop (place + length held) file) → drop place file ≡ new ++ drop n more
stands_longer file held more new place n stands grown =
    let whole : new ≡ held ++ take n more = grown ∙ ap (λ (l : List ℕ). held ++ take n l) (follows_held file held more place stands) in
    stands ∙ (ap (λ (l : List ℕ). held ++ l) (sym (take-append-drop n more)) ∙ (sym (append_assoc held (take n more) (drop n more)) ∙ ap (λ (l : List ℕ). l ++ drop n more) (sym whole)))

-- the bytes held reach to the end
pub holds_all : (file held more : List ℕ) (place : ℕ) → drop place file ≡ held ++ more → length file ≤ place + length held → drop place file ≡ held
holds_all file held more place stands ends =
    let none : more ≡ [] = nil_from_length more (omega (arith, ap length (follows_held file held more place stands), length-drop (place + length held) file, ends)) in
    stands ∙ (ap (λ (l : List ℕ). held ++ l) none ∙ append-nil held)

-- a byte beyond a limit
pub beyond : (tells : Bool) (map : Told) (name into : List ℕ) (at n : ℕ) → (tells ≡ true → Gives map name at into n) → 0 < n → GaveMore tells map name at
beyond true map name into at n gives some =
    let g = gives refl in
    record { bytes = g.file; more = omega (arith, g.within, length-drop at g.file); told = λ t. g.held }
beyond false map name into at n gives some = record {
  bytes = replicate (at + 1) 0;
  more = let len = length-replicate {A = ℕ} (at + 1) 0 in omega (arith, len);
  told = λ t. cc t;
}

-- the same bytes are held in the same place
pub stands_same : (file : List ℕ) (old new : Reading) → new.place ≡ old.place → new.held ≡ old.held → StandsIn file old → StandsIn file new
stands_same file old new place held s = (s.0, ap (λ (p : ℕ). drop p file) place ∙ (s.1 ∙ ap (λ (h : List ℕ). h ++ s.0) (sym held)))
