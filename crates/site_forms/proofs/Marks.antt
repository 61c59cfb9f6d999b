-- Records of the journal and the bodies that spell them.
use Rattle.std.proofs.Common.{◌≡◌, ℕ, zero, suc, ◌+◌, ◌≤◌, List, [], ◌∷◌, ◌++◌, length, take, drop, Bool, true, false, Option, Some, None, refl, sym, ◌∙◌, ap, subst, arith, length-append}
use Rattle.std.specs.Prelude.{nat_le, ◌==◌, if◌then◌else◌}
use Rattle.std.specs.List.{flat_map}
use Rattle.std.specs.Option.{option_map}
use Rattle.std.proofs.lemmas.Bool.{eqb-true, leb-true, le-leb}
use Rattle.std.proofs.lemmas.List.{take_at, drop_at, length-take-le, take-append-drop}
use Rattle.std.proofs.lemmas.Option.{none-some}
use Rattle.site_forms.specs.JournalRecords.{JournalRecord, journal_body, journal_record, bare_record, measured_name, measured_names}
use Rattle.site_forms.specs.JournalRecords.JournalRecord.{BeginRecord, MovedRecord, UndoBeginRecord, UndoneRecord, AcceptedRecord}

-- what a map over an option that is there says
pub mapped : {A B : Type 0} (f : A → B) (o : Option A) (y : B) → option_map f o ≡ Some y → (x : A) × (o ≡ Some x) × (f x ≡ y)
mapped f None y e = absurd (none-some y e)
mapped f (Some x) y e = (x, refl, cc)

no_names : (fuel : ℕ) → measured_names fuel [] ≡ Some []
no_names zero = refl
no_names (suc fuel) = refl

-- names are read from where they are spelled
names_read : (fuel : ℕ) (names : List (List ℕ)) → length (flat_map measured_name names) ≤ fuel → measured_names fuel (flat_map measured_name names) ≡ Some names
names_read fuel [] enough = no_names fuel
names_read zero (name ∷ names) enough = absurd (omega (arith, enough))
names_read (suc fuel) (name ∷ names) enough =
    let rest = flat_map measured_name names in
    let all = name ++ rest in
    let long : length all ≡ length name + length rest = length-append name rest in
    let inside : length name ≤ length all = omega (arith, long) in
    ap (λ (b : Bool). if b then option_map (λ (ns : List (List ℕ)). take (length name) all ∷ ns) (measured_names fuel (drop (length name) all)) else None) (le-leb (length name) (length all) inside)
    ∙ ap (λ (l : List ℕ). option_map (λ (ns : List (List ℕ)). l ∷ ns) (measured_names fuel (drop (length name) all))) (take_at name rest (length name) refl)
    ∙ ap (λ (l : List ℕ). option_map (λ (ns : List (List ℕ)). name ∷ ns) (measured_names fuel l)) (drop_at name rest (length name) refl)
    ∙ ap (λ (o : Option (List (List ℕ))). option_map (λ (ns : List (List ℕ)). name ∷ ns) o) (names_read fuel names (omega (arith, enough, long)))

when : {X : Type 0} (b : Bool) (o : Option X) (r : X) → (if b then o else None) ≡ Some r → (b ≡ true) × (o ≡ Some r)
when true o r e = (refl, e)
when false o r e = absurd (none-some r e)

-- and are spelled as they are read
names_spelled : (fuel : ℕ) (bytes : List ℕ) (names : List (List ℕ)) → measured_names fuel bytes ≡ Some names → flat_map measured_name names ≡ bytes
names_spelled zero [] names e = let none : [] ≡ names = cc in ap (flat_map measured_name) (sym none)
names_spelled (suc fuel) [] names e = let none : [] ≡ names = cc in ap (flat_map measured_name) (sym none)
names_spelled zero (n ∷ rest) names e = absurd (none-some names e)
names_spelled (suc fuel) (n ∷ rest) names e =
    let is = when (nat_le n (length rest)) (option_map (λ (ns : List (List ℕ)). take n rest ∷ ns) (measured_names fuel (drop n rest))) names e in
    let inner = mapped (λ (ns : List (List ℕ)). take n rest ∷ ns) (measured_names fuel (drop n rest)) names is.1 in
    ap (flat_map measured_name) (sym inner.2)
    ∙ ap (λ (m : ℕ). m ∷ (take n rest ++ flat_map measured_name inner.0)) (length-take-le n rest (leb-true n (length rest) is.0))
    ∙ ap (λ (l : List ℕ). n ∷ (take n rest ++ l)) (names_spelled fuel (drop n rest) inner.0 inner.1)
    ∙ ap (λ (l : List ℕ). n ∷ l) (take-append-drop n rest)

begin_read : (bytes : List ℕ) (names : List (List ℕ)) → flat_map measured_name names ≡ bytes → journal_record (16 ∷ bytes) ≡ Some (BeginRecord names)
begin_read [] [] is = refl
begin_read [] (name ∷ names) is = absurd (omega (arith, ap length is))
begin_read (n ∷ rest) names is =
    ap (option_map BeginRecord) (ap (measured_names (length rest + 1)) (sym is) ∙ names_read (length rest + 1) names (omega (arith, ap length is)))

pub journal_read : (r : JournalRecord) → journal_record (journal_body r) ≡ Some r
journal_read (BeginRecord names) = begin_read (flat_map measured_name names) names refl
journal_read MovedRecord = refl
journal_read UndoBeginRecord = refl
journal_read UndoneRecord = refl
journal_read AcceptedRecord = refl

abbrev by_kind : Bool → Bool → Bool → Bool → Option JournalRecord
by_kind a b c d = if a then Some MovedRecord else (if b then Some UndoBeginRecord else (if c then Some UndoneRecord else (if d then Some AcceptedRecord else None)))

kinds : (P : JournalRecord → Type 0) (a b c d : Bool) (r : JournalRecord) → by_kind a b c d ≡ Some r → (a ≡ true → P MovedRecord) → (b ≡ true → P UndoBeginRecord) → (c ≡ true → P UndoneRecord) → (d ≡ true → P AcceptedRecord) → P r
kinds P true b c d r e one two three four = let is : MovedRecord ≡ r = cc in subst P is (one refl)
kinds P false true c d r e one two three four = let is : UndoBeginRecord ≡ r = cc in subst P is (two refl)
kinds P false false true d r e one two three four = let is : UndoneRecord ≡ r = cc in subst P is (three refl)
kinds P false false false true r e one two three four = let is : AcceptedRecord ≡ r = cc in subst P is (four refl)
kinds P false false false false r e one two three four = absurd (none-some r e)

either : {X : Type 0} (b : Bool) (o p : Option X) (r : X) (P : Type 0) → (if b then o else p) ≡ Some r → (b ≡ true → o ≡ Some r → P) → (p ≡ Some r → P) → P
either true o p r P e first second = first refl e
either false o p r P e first second = second e

pub journal_spelled : (body : List ℕ) (r : JournalRecord) → journal_record body ≡ Some r → journal_body r ≡ body
journal_spelled [] r e = absurd (none-some r e)
journal_spelled (kind ∷ []) r e = either (kind == 16) (Some (BeginRecord [])) (bare_record kind) r (journal_body r ≡ kind ∷ []) e
    (λ is same. let begin : BeginRecord [] ≡ r = cc in ap journal_body (sym begin) ∙ ap (λ (n : ℕ). n ∷ []) (sym (eqb-true kind 16 is)))
    (λ bare. kinds (λ x. journal_body x ≡ kind ∷ []) (kind == 17) (kind == 18) (kind == 19) (kind == 20) r bare
    (λ is. ap (λ (n : ℕ). n ∷ []) (sym (eqb-true kind 17 is))) (λ is. ap (λ (n : ℕ). n ∷ []) (sym (eqb-true kind 18 is)))
    (λ is. ap (λ (n : ℕ). n ∷ []) (sym (eqb-true kind 19 is))) (λ is. ap (λ (n : ℕ). n ∷ []) (sym (eqb-true kind 20 is))))
journal_spelled (kind ∷ n ∷ rest) r e =
    let is = when (kind == 16) (option_map BeginRecord (measured_names (length rest + 1) (n ∷ rest))) r e in
    let inner = mapped BeginRecord (measured_names (length rest + 1) (n ∷ rest)) r is.1 in
    ap journal_body (sym inner.2) ∙ ap (λ (k : ℕ). k ∷ flat_map measured_name inner.0) (sym (eqb-true kind 16 is.0)) ∙ ap (λ (l : List ℕ). kind ∷ l) (names_spelled (length rest + 1) (n ∷ rest) inner.0 inner.1)
