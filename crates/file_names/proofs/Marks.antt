-- File names by their bytes.
use Rattle.std.proofs.Common.{◌≡◌, ◌∙◌, sym, ap, refl, ℕ, ◌<◌, ◌≤◌, List, [], ◌∷◌, ◌++◌, Bool, not, true, false, length, get_or, arith}
use Rattle.std.specs.Char.{is_control, encode_utf8}
use Rattle.std.specs.List.{list_any}
use Rattle.std.specs.Str.{chars, IsUtf8, encode_utf8_all}
use Rattle.std.proofs.lemmas.Str.{encode_same, chars-nil, IsUtf8-past_char, chars_past_char, encodes-chars, scalars-chars, chars_from_encodes}
use Rattle.file_names.specs.FileNames.{IsFileName, StartsWithMark}

-- the bytes of the mark
mark_bytes : encode_utf8 0xFEFF ≡ 0xEF ∷ 0xBB ∷ 0xBF ∷ []
unfolding encode_utf8
mark_bytes = refl

-- characters whose bytes begin with those of the mark begin with the mark
pub marked : (cs rest : List ℕ) → encode_utf8_all cs ≡ 0xEF ∷ 0xBB ∷ 0xBF ∷ rest → get_or cs 0 0 ≡ 0xFEFF
marked [] rest e = absurd (omega (arith, ap length e))
marked (c ∷ cs) rest e = (encode_same c 0xFEFF (encode_utf8_all cs) rest (e ∙ sym (ap (λ (m : List ℕ). m ++ rest) mark_bytes))).0

-- and the other way round
pub begins_marked : (cs : List ℕ) → 0 < length cs → get_or cs 0 0 ≡ 0xFEFF → StartsWithMark (encode_utf8_all cs)
begins_marked [] some e = absurd (omega arith)
begins_marked (c ∷ cs) some e = (encode_utf8_all cs, ap (λ (d : ℕ). encode_utf8 d ++ encode_utf8_all cs) e ∙ ap (λ (m : List ℕ). m ++ encode_utf8_all cs) mark_bytes)

-- no file name begins with the mark's bytes
pub unmarked_bytes : (name : List ℕ) → IsFileName name → ¬ StartsWithMark name
unmarked_bytes name h s = h.unmarked (marked h.characters s.0 (h.spelled ∙ s.1))

-- characters that spell bytes are some where the bytes are
some_characters : (cs : List ℕ) → 0 < length (encode_utf8_all cs) → 0 < length cs
some_characters [] h = h
some_characters (c ∷ cs) h = omega arith

-- a text that is a file name
pub name_from : (name : List ℕ) → IsUtf8 name → 0 < length name → length name ≤ 255 → ¬ StartsWithMark name → list_any is_control (chars name) ≡ false → IsFileName name
name_from name utf8 some short unmarked plain =
    let spelled = encodes-chars name utf8 in
    record {
      characters = chars name;
      scalar = scalars-chars name utf8;
      spelled = spelled;
      plain = plain;
      unmarked = λ e. unmarked (rw (← spelled) (begins_marked (chars name) (some_characters (chars name) (rw spelled some)) e));
      some = some;
      short = short;
    }

-- no character of a file name is a control character
pub plain_name : (name : List ℕ) → IsFileName name → list_any is_control (chars name) ≡ false
plain_name name h = rw (← chars_from_encodes h.characters name (h.characters, (h.scalar, h.spelled)) h.spelled) h.plain

-- a file name is UTF-8
pub utf8_name : (name : List ℕ) → IsFileName name → IsUtf8 name
utf8_name name h = (h.characters, (h.scalar, h.spelled))

-- a control character in front of the rest of a text
pub control_first : (text rest : List ℕ) (c : ℕ) → IsUtf8 text → text ≡ encode_utf8 c ++ rest → is_control c ≡ true → list_any is_control (chars text) ≡ true
control_first text rest c utf8 e control = rw (chars_past_char text rest c utf8 e, control) refl

-- another character in front of the rest of a text
pub control_later : (text rest : List ℕ) (c : ℕ) → IsUtf8 text → text ≡ encode_utf8 c ++ rest → is_control c ≡ false → list_any is_control (chars text) ≡ list_any is_control (chars rest)
control_later text rest c utf8 e plain = rw (chars_past_char text rest c utf8 e, plain) refl

-- a text of no bytes has none
pub control_none : (text : List ℕ) → length text ≡ 0 → list_any is_control (chars text) ≡ false
control_none [] e = rw chars-nil refl
control_none (b ∷ bs) e = absurd (omega arith)

-- what follows a character is text
pub utf8_rest : (text rest : List ℕ) (c : ℕ) → IsUtf8 text → text ≡ encode_utf8 c ++ rest → IsUtf8 rest
utf8_rest text rest c utf8 e = IsUtf8-past_char text rest c utf8 e

-- what a negation says
pub not_true : (b : Bool) → not b ≡ true → b ≡ false
not_true true h = cc
not_true false h = refl
