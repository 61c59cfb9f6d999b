-- The names of files that are drawn are lawful.
use Rattle.std.proofs.Common.{◌≡◌, ◌∙◌, ℕ, ◌+◌, ◌%◌, ◌<◌, ◌≤◌, ◌^◌, ◌∷◌, [], List, false, get_or, ap, refl, arith, length-append}
use Rattle.std.specs.Char.{is_control}
use Rattle.std.specs.Fmt.{decimal}
use Rattle.std.specs.List.{list_any}
use Rattle.std.specs.Prelude.{codes}
use Rattle.std.specs.Str.{IsAscii, chars}
use Rattle.std.proofs.lemmas.Bool.Decides.{nat_tests}
use Rattle.std.proofs.lemmas.Fmt.{decimal_by_steps, IsAscii-decimal, length-decimal-le}
use Rattle.std.proofs.lemmas.List.Folds.{list_any-append}
use Rattle.std.proofs.lemmas.Str.{IsAscii-append, IsUtf8-from_ascii, chars-IsAscii}
use Rattle.std.proofs.lemmas.Str.Ascii.{IsAscii-cons, IsAscii-nil}
use Rattle.file_names.specs.FileNames.{IsFileName}
use Rattle.file_names.proofs.Marks.{name_from}
use Rattle.load_gen.specs.Draws.{file_named}

-- digits are no control characters
plain_digit : (b : ℕ) → 48 ≤ b → b ≤ 57 → is_control b ≡ false
plain_digit b low high = grind (arith, nat_tests)

plain_decimal : (n : ℕ) → n < 2 ^ 64 → list_any is_control (decimal n) ≡ false
plain_decimal = decimal_by_steps (λ n ds. list_any is_control ds ≡ false)
    (λ n small. let plain = plain_digit (48 + n) (omega arith) (omega arith) in rw plain refl)
    (λ n ds big front. let plain = plain_digit (48 + n % 10) (omega arith) (omega arith) in list_any-append is_control ds ((48 + n % 10) ∷ []) ∙ rw (front, plain) refl)

pub lawful_name : (file : ℕ) → file < 2 ^ 32 → IsFileName (file_named file)
lawful_name file small =
    let ascii : IsAscii (file_named file) = IsAscii-append (codes "f") (decimal file) (IsAscii-cons 102 [] (omega arith) IsAscii-nil) (IsAscii-decimal file (omega arith)) in
    let digits = length-decimal-le 10 file (omega arith) (omega arith) (omega arith) in
    let long = length-append (codes "f") (decimal file) in
    let same : chars (file_named file) ≡ file_named file = chars-IsAscii (file_named file) ascii in
    name_from (file_named file) (IsUtf8-from_ascii (file_named file) ascii) (omega (arith, long)) (omega (arith, long, digits))
    (λ marked. let first : 102 ≡ 0xEF = ap (λ (l : List ℕ). get_or l 0 0) marked.1 in omega (arith, first))
    (ap (list_any is_control) same ∙ plain_decimal file (omega arith))
