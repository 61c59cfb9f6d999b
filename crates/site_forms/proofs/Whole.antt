-- A log that is written whole: its blocks, and a closed gate behind them.
use Rattle.std.proofs.Common.{◌≡◌, ◌≢◌, ℕ, zero, suc, ◌+◌, ◌^◌, ◌<◌, ◌≤◌, List, [], ◌∷◌, ◌++◌, length, take, drop, true, refl, sym, ◌∙◌, ap, arith, length-append, append-nil}
use Rattle.std.specs.Prelude.{All}
use Rattle.std.specs.Int.{w32, from_be_bytes, to_be_bytes}
use Rattle.std.proofs.lemmas.List.{take_at, drop_at, drop-drop, append_assoc}
use Rattle.std.proofs.lemmas.List.Elements.{All-head, All-tail}
use Rattle.std.proofs.lemmas.Nat.{from_be_bytes-to_be_bytes_4}
use Rattle.site_forms.specs.Logs.{parse, parse_from, body_length, is_block, blocks, log_size, IsBody}
use Rattle.site_forms.specs.Logs.Parsed.{Good}
use Rattle.site_forms.proofs.Agree.{opens_as, closes}
use Rattle.site_forms.proofs.Logs.{whole}
use Rattle.site_forms.proofs.Walks.{log_size-cons}

-- how long they are
pub length-blocks : (bodies : List (List ℕ)) → length (blocks bodies) ≡ log_size bodies
length-blocks [] = refl
length-blocks (body ∷ bodies) =
    omega (arith, length-append (to_be_bytes w32 (length body)) (body ++ blocks bodies), length-append body (blocks bodies), length-blocks bodies, log_size-cons body bodies)

-- one block more
pub blocks-more : (bodies : List (List ℕ)) (body : List ℕ) → blocks (bodies ++ body ∷ []) ≡ blocks bodies ++ (1 ∷ to_be_bytes w32 (length body) ++ body)
blocks-more [] body = ap (λ (l : List ℕ). 1 ∷ to_be_bytes w32 (length body) ++ l) (append-nil body)
blocks-more (front ∷ bodies) body =
    let block = 1 ∷ to_be_bytes w32 (length body) ++ body in
    let number = to_be_bytes w32 (length front) in
    ap (λ (l : List ℕ). 1 ∷ number ++ (front ++ l)) (blocks-more bodies body)
    ∙ ap (λ (l : List ℕ). 1 ∷ number ++ l) (sym (append_assoc front (blocks bodies) block))
    ∙ ap (λ (l : List ℕ). 1 ∷ l) (sym (append_assoc number (front ++ blocks bodies) block))

-- each takes at least a byte
count_below : (bodies : List (List ℕ)) → length bodies ≤ log_size bodies
count_below [] = omega arith
count_below (body ∷ bodies) = omega (arith, count_below bodies, log_size-cons body bodies)

whole_from : (fuel at : ℕ) (bodies : List (List ℕ)) (gate : ℕ) (junk : List ℕ) → All IsBody bodies → gate ≢ 1 → length bodies < fuel → at + log_size bodies < 2 ^ 40
    → parse_from fuel at (blocks bodies ++ gate ∷ junk) ≡ Good bodies (at + log_size bodies)
whole_from zero at bodies gate junk lawful shut enough below = absurd (omega (arith, enough))
whole_from (suc fuel) at [] gate junk lawful shut enough below = closes fuel at gate junk shut ∙ ap (λ (i : ℕ). Good [] i) (omega arith)
whole_from (suc fuel) at (body ∷ bodies) gate junk lawful shut enough below =
    let head = to_be_bytes w32 (length body) in
    let tail = blocks bodies ++ gate ∷ junk in
    let behind = head ++ (body ++ tail) in
    let is_body = All-head IsBody body bodies lawful in
    let four : length head ≡ 4 = refl in
    let size = log_size-cons body bodies in
    let apart : (head ++ (body ++ blocks bodies)) ++ gate ∷ junk ≡ behind = append_assoc head (body ++ blocks bodies) (gate ∷ junk) ∙ ap (λ (l : List ℕ). head ++ l) (append_assoc body (blocks bodies) (gate ∷ junk)) in
    let number : length body ≡ body_length behind = sym (ap (λ (l : List ℕ). from_be_bytes w32 l) (take_at head (body ++ tail) 4 four) ∙ from_be_bytes-to_be_bytes_4 (length body) (omega (arith, is_body.most))) in
    let tail_long : 1 ≤ length tail = omega (arith, length-append (blocks bodies) (gate ∷ junk)) in
    let long : length behind ≡ 4 + length body + length tail = omega (arith, four, length-append head (body ++ tail), length-append body tail) in
    let room : at + 5 + length body < 2 ^ 40 = omega (arith, below, size) in
    let some = is_body.some in
    let few = is_body.most in
    let is_whole : is_block at behind ≡ true = grind (arith, number, long, tail_long, some, few, room) in
    let inside : drop 4 behind ≡ body ++ tail = drop_at head (body ++ tail) 4 four in
    let taken : take (length body) (drop 4 behind) ≡ body = ap (λ (l : List ℕ). take (length body) l) inside ∙ take_at body tail (length body) refl in
    let rest : drop (4 + length body) behind ≡ tail = sym (drop-drop (length body) 4 behind) ∙ ap (λ (l : List ℕ). drop (length body) l) inside ∙ drop_at body tail (length body) refl in
    let later = whole_from fuel (at + 5 + length body) bodies gate junk (All-tail IsBody body bodies lawful) shut (omega (arith, enough)) (omega (arith, below, size)) in
    ap (λ (l : List ℕ). parse_from (suc fuel) at (1 ∷ l)) apart
    ∙ opens_as fuel at 1 behind bodies (at + 5 + length body + log_size bodies) (length body) number refl is_whole (ap (λ (l : List ℕ). parse_from fuel (at + 5 + length body) l) rest ∙ later)
    ∙ ap (λ (l : List ℕ). Good (l ∷ bodies) (at + 5 + length body + log_size bodies)) taken
    ∙ ap (λ (i : ℕ). Good (body ∷ bodies) i) (omega (arith, size))

pub whole_log : (bodies : List (List ℕ)) (gate : ℕ) (junk : List ℕ) → All IsBody bodies → gate ≢ 1 → log_size bodies < 2 ^ 40 → parse (blocks bodies ++ gate ∷ junk) ≡ Good bodies (log_size bodies)
whole_log bodies gate junk lawful shut below =
    let image = blocks bodies ++ gate ∷ junk in
    let long : length image ≡ log_size bodies + 1 + length junk = omega (arith, length-append (blocks bodies) (gate ∷ junk), length-blocks bodies) in
    whole image bodies (log_size bodies) (whole_from (length image) 0 bodies gate junk lawful shut (omega (arith, long, count_below bodies)) (omega (arith, below)) ∙ ap (λ (i : ℕ). Good bodies i) (omega arith))
