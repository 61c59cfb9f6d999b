-- Classes of chunks, one set of users taken away after the other.
use Rattle.std.proofs.Common.{◌≡◌, ◌∙◌, ◌+◌, ◌≤◌, ◌∷◌, [], ℕ, zero, suc, List, Bool, true, false, refl, sym, ap, length, arith, inl, inr, eq-eqb}
use Rattle.std.specs.Prelude.{not, filter, map, if◌then◌else◌}
use Rattle.std.specs.Cmp.Lexicographic.{same_text}
use Rattle.std.proofs.lemmas.Bool.{cases_Bool}
use Rattle.std.proofs.lemmas.List.Sums.{sum_by-cons}
use Rattle.list_facts.proofs.FirstParts.{firsts-filter}
use Rattle.seed_model.specs.declared.table.Class.{Class}
use Rattle.seed_model.specs.Sums.{bytes_where}
use Rattle.chunk_merge.specs.Merged.{same_users, each_once, joined, classes_of}

pub same-itself : (xs : List ℕ) → same_users xs xs ≡ true
same-itself [] = refl
same-itself (x ∷ xs) = rw (eq-eqb x x refl) (same-itself xs)

pub same-is : (xs ys : List ℕ) → same_users xs ys ≡ true → xs ≡ ys
same-is xs ys t = same_text xs ys (sym t)

-- whether a list is another one
unfoldable pub differs : List ℕ → List ℕ → Bool
differs users other = not (same_users other users)

-- the chunks with other users
unfoldable pub without : List ℕ → List Class → List Class
without users chunks = filter (λ (c : Class). differs users c.users) chunks

-- the lists that pass a test, each once
once-filter : (p : List ℕ → Bool) (xs : List (List ℕ)) → each_once (filter p xs) ≡ filter p (each_once xs)
once-filter p xs = firsts-filter (λ users other. same_users other users) p xs (λ users other t. ap p (sym (same-is other users t)))

users-without : (users : List ℕ) (cs : List Class) → map (λ (c : Class). c.users) (without users cs) ≡ filter (differs users) (map (λ (c : Class). c.users) cs)
unfolding without
users-without users [] = refl
users-without users (c ∷ cs) = elim (cases_Bool (differs users c.users)) [
  | inl t ↦ rw t (ap (λ (l : List (List ℕ)). c.users ∷ l) (users-without users cs))
  | inr f ↦ rw f (users-without users cs)
]

pub counted : (List ℕ → Bool) → Class → ℕ
counted test c = if test c.users then c.size else 0

pub bytes-cons : (test : List ℕ → Bool) (c : Class) (cs : List Class) → bytes_where test (c ∷ cs) ≡ counted test c + bytes_where test cs
unfolding counted
bytes-cons test c cs = sum_by-cons (λ (c : Class). if test c.users then c.size else 0) c cs

pub counted-yes : (test : List ℕ → Bool) (c : Class) → test c.users ≡ true → counted test c ≡ c.size
unfolding counted
counted-yes test c t = rw t refl

pub counted-no : (test : List ℕ → Bool) (c : Class) → test c.users ≡ false → counted test c ≡ 0
unfolding counted
counted-no test c f = rw f refl

-- a number that counts where a test passes
pub pick : (List ℕ → Bool) → List ℕ → ℕ → ℕ
pick test users n = if test users then n else 0

pub pick-yes : (test : List ℕ → Bool) (users : List ℕ) (n : ℕ) → test users ≡ true → pick test users n ≡ n
unfolding pick
pick-yes test users n t = rw t refl

pub pick-no : (test : List ℕ → Bool) (users : List ℕ) (n : ℕ) → test users ≡ false → pick test users n ≡ 0
unfolding pick
pick-no test users n f = rw f refl

pub without-own : (users : List ℕ) (c : Class) (cs : List Class) → same_users c.users users ≡ true → without users (c ∷ cs) ≡ without users cs
unfolding without differs
without-own users c cs t = rw t refl

pub without-other : (users : List ℕ) (c : Class) (cs : List Class) → same_users c.users users ≡ false → without users (c ∷ cs) ≡ c ∷ without users cs
unfolding without differs
without-other users c cs f = rw f refl

-- what a list of users counts, and what is left without it
pub bytes-split : (test : List ℕ → Bool) (users : List ℕ) (cs : List Class)
    → bytes_where test cs ≡ pick test users (bytes_where (λ other. same_users other users) cs) + bytes_where test (without users cs)
unfolding without
bytes-split test users [] = elim (cases_Bool (test users)) [ inl t ↦ omega (arith, pick-yes test users 0 t) | inr f ↦ omega (arith, pick-no test users 0 f) ]
bytes-split test users (c ∷ cs) =
    let own = λ (other : List ℕ). same_users other users in
    let here = bytes-cons test c cs in
    let mine = bytes-cons own c cs in
    let rest = bytes-split test users cs in
    elim (cases_Bool (same_users c.users users)) [
      | inl t ↦
          let same = same-is c.users users t in
          let gain = counted-yes own c t in
          let left = ap (bytes_where test) (without-own users c cs t) in
          elim (cases_Bool (test users)) [
            | inl u ↦ omega (arith, here, mine, rest, gain, left, counted-yes test c (ap test same ∙ u), pick-yes test users (bytes_where own (c ∷ cs)) u, pick-yes test users (bytes_where own cs) u)
            | inr u ↦ omega (arith, here, rest, left, counted-no test c (ap test same ∙ u), pick-no test users (bytes_where own (c ∷ cs)) u, pick-no test users (bytes_where own cs) u)
          ]
      | inr f ↦
          let gain = counted-no own c f in
          let left = ap (bytes_where test) (without-other users c cs f) ∙ bytes-cons test c (without users cs) in
          elim (cases_Bool (test users)) [
            | inl u ↦ omega (arith, here, mine, rest, gain, left, pick-yes test users (bytes_where own (c ∷ cs)) u, pick-yes test users (bytes_where own cs) u)
            | inr u ↦ omega (arith, here, rest, left, pick-no test users (bytes_where own (c ∷ cs)) u, pick-no test users (bytes_where own cs) u)
          ]
    ]

-- the first class, and those of the chunks with other users
unfoldable pub first_class : Class → List Class → Class
first_class c cs = record { size = c.size + bytes_where (λ other. same_users other c.users) cs; users = c.users }

-- whoever differs from the first users counts the same without their chunks
joined-without : (c : Class) (cs : List Class) (users : List ℕ) → differs c.users users ≡ true → joined (c ∷ cs) users ≡ joined (without c.users cs) users
unfolding differs
joined-without c cs users d =
    let test = λ (other : List ℕ). same_users other users in
    let apart : test c.users ≡ false = elim (cases_Bool (test c.users)) [
      | inl t ↦ cc (rw (same-is c.users users t, same-itself users) at d)
      | inr f ↦ f
    ] in
    let own = λ (other : List ℕ). same_users other c.users in
    let size : bytes_where test (c ∷ cs) ≡ bytes_where test (without c.users cs)
    = omega (arith, bytes-cons test c cs, counted-no test c apart, bytes-split test c.users cs, pick-no test c.users (bytes_where own cs) apart) in
    λ i. record { size = size i; users = users }

map-filter_same : (f g : List ℕ → Class) (p : List ℕ → Bool) (xs : List (List ℕ)) → ((x : List ℕ) → p x ≡ true → f x ≡ g x) → map f (filter p xs) ≡ map g (filter p xs)
map-filter_same f g p [] same = refl
map-filter_same f g p (x ∷ xs) same = elim (cases_Bool (p x)) [
  | inl t ↦ rw t (λ i. same x t i ∷ map-filter_same f g p xs same i)
  | inr n ↦ rw n (map-filter_same f g p xs same)
]

pub classes-cons : (c : Class) (cs : List Class) → classes_of (c ∷ cs) ≡ first_class c cs ∷ classes_of (without c.users cs)
unfolding first_class differs
classes-cons c cs =
    let lists = map (λ (k : Class). k.users) cs in
    let own = λ (other : List ℕ). same_users other c.users in
    let size : bytes_where own (c ∷ cs) ≡ c.size + bytes_where own cs = omega (arith, bytes-cons own c cs, counted-yes own c (same-itself c.users)) in
    let rest : map (joined (c ∷ cs)) (filter (differs c.users) (each_once lists)) ≡ classes_of (without c.users cs)
    = map-filter_same (joined (c ∷ cs)) (joined (without c.users cs)) (differs c.users) (each_once lists) (joined-without c cs)
    ∙ ap (map (joined (without c.users cs))) (sym (once-filter (differs c.users) lists) ∙ ap each_once (sym (users-without c.users cs))) in
    λ i. record { size = size i; users = c.users } ∷ rest i

-- taking chunks away leaves no more of them
pub without-fewer : (users : List ℕ) (cs : List Class) → length (without users cs) ≤ length cs
unfolding without
without-fewer users [] = omega arith
without-fewer users (c ∷ cs) = elim (cases_Bool (differs users c.users)) [
  | inl t ↦ rw t (omega (arith, without-fewer users cs))
  | inr f ↦ rw f (omega (arith, without-fewer users cs))
]

keeps_within : (n : ℕ) (test : List ℕ → Bool) (cs : List Class) → length cs ≤ n → bytes_where test (classes_of cs) ≡ bytes_where test cs
unfolding first_class
keeps_within n test [] le = refl
keeps_within zero test (c ∷ cs) le = absurd (omega arith)
keeps_within (suc n) test (c ∷ cs) le =
    let left = without c.users cs in
    let rest = keeps_within n test left (omega (arith, le, without-fewer c.users cs)) in
    let whole = ap (bytes_where test) (classes-cons c cs) ∙ bytes-cons test (first_class c cs) (classes_of left) in
    let here = bytes-cons test c cs in
    let split = bytes-split test c.users cs in
    elim (cases_Bool (test c.users)) [
      | inl t ↦
          let joint = counted-yes test (first_class c cs) t in
          let one = counted-yes test c t in
          let parts = pick-yes test c.users (bytes_where (λ other. same_users other c.users) cs) t in
          omega (arith, whole, rest, here, joint, one, split, parts)
      | inr f ↦
          let joint = counted-no test (first_class c cs) f in
          let one = counted-no test c f in
          let parts = pick-no test c.users (bytes_where (λ other. same_users other c.users) cs) f in
          omega (arith, whole, rest, here, joint, one, split, parts)
    ]

pub keeps : (test : List ℕ → Bool) (cs : List Class) → bytes_where test (classes_of cs) ≡ bytes_where test cs
keeps test cs = keeps_within (length cs) test cs (omega arith)
