-- The words of a command: from the code's words to a row of the table.
use Rattle.std.proofs.Common.{◌≡◌, ◌≢◌, ◌∙◌, subst, ◌+◌, ◌∷◌, [], ℕ, List, Bool, true, false, inl, inr, refl, sym, ap, length}
use Rattle.std.specs.Prelude.{Result, Ok, Err, IsErrAnd, String, string_bytes}
use Rattle.std.specs.List.{list_any}
use Rattle.std.proofs.lemmas.Bool.{or_parts}
use Rattle.std.specs.declared.alloc.Global.{Global}
use Rattle.goseed_words.specs.declared.order.WordError.{WordError}
use Rattle.goseed_words.specs.declared.order.WordError.TheVariants.{BadWord}
use Rattle.goseed_words.specs.Commands.{Form, Kind, Reads, Creates, ASet, AnAmount, ANumber, ACount, Command, row}
use Rattle.goseed_words.specs.Asked.{HasOperand, Fits, IsFirstBad}
use Rattle.goseed_words.specs.declared.order.Order.{Order}
use Rattle.goseed_words.specs.Orders.{texts, IsWordFault, Means}

-- whether an operand is created, or read
abbrev pub creates : Kind → Bool
creates (Reads form) = false
creates Creates = true
creates ASet = false
creates AnAmount = false
creates (ANumber limit) = false
creates (ACount limit) = false

abbrev pub reads : Kind → Bool
reads (Reads form) = true
reads Creates = false
reads ASet = false
reads AnAmount = false
reads (ANumber limit) = false
reads (ACount limit) = false

-- of operands none of which is of some kinds, none is of one of these
none_of : (is : Kind → Bool) (kind : Kind) (kinds : List Kind) (words : List (List ℕ)) (name : List ℕ) → is kind ≡ true → list_any is kinds ≡ false → ¬ HasOperand kinds words kind name
none_of is kind [] words name known none = λ has. has
none_of is kind (k ∷ kinds) [] name known none = λ has. has
none_of is kind (k ∷ kinds) (word ∷ words) name known none = λ has.
    let parts = or_parts (is k) (list_any is kinds) none in
    elim has [
      | inl here ↦ let same = ap is here.0 in cc (same, known, parts.0)
      | inr there ↦ none_of is kind kinds words name known parts.1 there
    ]

pub no_created : (kinds : List Kind) (words : List (List ℕ)) (name : List ℕ) → list_any creates kinds ≡ false → ¬ HasOperand kinds words Creates name
no_created kinds words name none = none_of creates Creates kinds words name refl none

-- a command that reads its first operand, creates its second and reads and creates no other
pub apart_two : (form : Form) (kinds : List Kind) (read created : List ℕ) (words : List (List ℕ)) → read ≢ created → list_any creates kinds ≡ false → list_any reads kinds ≡ false
    → (name : List ℕ) (f : Form) → HasOperand (Reads form ∷ Creates ∷ kinds) (read ∷ created ∷ words) Creates name
    → ¬ HasOperand (Reads form ∷ Creates ∷ kinds) (read ∷ created ∷ words) (Reads f) name
apart_two form kinds read created words other no_more none name f is_created = λ is_read.
    other (first_read is_read ∙ sym (second_created is_created))
  where
    second_created : HasOperand (Reads form ∷ Creates ∷ kinds) (read ∷ created ∷ words) Creates name → created ≡ name
    second_created (inl first) = cc (ap creates first.0)
    second_created (inr (inl second)) = second.1
    second_created (inr (inr more)) = absurd (no_created kinds words name no_more more)

    first_read : HasOperand (Reads form ∷ Creates ∷ kinds) (read ∷ created ∷ words) (Reads f) name → read ≡ name
    first_read (inl first) = first.1
    first_read (inr (inl second)) = cc (ap creates second.0)
    first_read (inr (inr more)) = absurd (none_of reads (Reads f) kinds words name refl none more)

-- a command that reads its first three operands and creates its fourth and last
pub apart_three : (one two three : Form) (first second third created : List ℕ) → first ≢ created → second ≢ created → third ≢ created → (name : List ℕ) (f : Form)
    → HasOperand (Reads one ∷ Reads two ∷ Reads three ∷ Creates ∷ []) (first ∷ second ∷ third ∷ created ∷ []) Creates name
    → ¬ HasOperand (Reads one ∷ Reads two ∷ Reads three ∷ Creates ∷ []) (first ∷ second ∷ third ∷ created ∷ []) (Reads f) name
apart_three one two three first second third created not_first not_second not_third name f is_created = none_read
  where
    fourth_created : HasOperand (Reads one ∷ Reads two ∷ Reads three ∷ Creates ∷ []) (first ∷ second ∷ third ∷ created ∷ []) Creates name → created ≡ name
    fourth_created (inl here) = cc (ap creates here.0)
    fourth_created (inr (inl here)) = cc (ap creates here.0)
    fourth_created (inr (inr (inl here))) = cc (ap creates here.0)
    fourth_created (inr (inr (inr (inl here)))) = here.1
    fourth_created (inr (inr (inr (inr more)))) = absurd more

    none_read : ¬ HasOperand (Reads one ∷ Reads two ∷ Reads three ∷ Creates ∷ []) (first ∷ second ∷ third ∷ created ∷ []) (Reads f) name
    none_read (inl here) = not_first (here.1 ∙ sym (fourth_created is_created))
    none_read (inr (inl here)) = not_second (here.1 ∙ sym (fourth_created is_created))
    none_read (inr (inr (inl here))) = not_third (here.1 ∙ sym (fourth_created is_created))
    none_read (inr (inr (inr (inl here)))) = cc (ap creates here.0)
    none_read (inr (inr (inr (inr more)))) = more

-- a command that creates no operand, with as many words as it has operands
abbrev pub reading_row : (command : Command) (operands : List (List ℕ)) → length operands ≡ length (row command).operands → list_any creates (row command).operands ≡ false
    → Fits ((row command).name ∷ operands) command
reading_row command operands many none = record {
  operands = operands;
  split = refl;
  as_many = many;
  apart = λ name form created. absurd (no_created (row command).operands operands name none created);
}

-- one that reads its first operand and creates its second, another, and reads and creates no more
abbrev pub creating_row : (command : Command) (form : Form) (kinds : List Kind) (read created : List ℕ) (words : List (List ℕ)) → (row command).operands ≡ Reads form ∷ Creates ∷ kinds
    → length (read ∷ created ∷ words) ≡ length (row command).operands → list_any creates kinds ≡ false → list_any reads kinds ≡ false → read ≢ created → Fits ((row command).name ∷ read ∷ created ∷ words) command
creating_row command form kinds read created words is many no_more none other = record {
  operands = read ∷ created ∷ words;
  split = refl;
  as_many = many;
  apart = rw is (apart_two form kinds read created words other no_more none);
}

-- one that reads its first three operands and creates its fourth and last, another than each of them
abbrev pub creating_last_row : (command : Command) (one two three : Form) (first second third created : List ℕ)
    → (row command).operands ≡ Reads one ∷ Reads two ∷ Reads three ∷ Creates ∷ [] → first ≢ created → second ≢ created → third ≢ created
    → Fits ((row command).name ∷ first ∷ second ∷ third ∷ created ∷ []) command
creating_last_row command one two three first second third created is not_first not_second not_third = record {
  operands = first ∷ second ∷ third ∷ created ∷ [];
  split = refl;
  as_many = rw is refl;
  apart = rw is (apart_three one two three first second third created not_first not_second not_third);
}

-- the words of a command, from its name and its operands
pub command_words : (words operands : List (String Global)) (command : String Global) (name text : List ℕ) → words ≡ command ∷ operands → text ≡ string_bytes command → text ≡ name
    → texts words ≡ name ∷ texts operands
command_words words operands command name text split spelled named = rw (split, sym spelled, named) refl

-- what words mean whose first bad word was found
pub bad_at : (words : List (List ℕ)) (command : Command) (fits : Fits words command) (number : ℕ) (result : Result Order WordError) (error : WordError) → IsErrAnd result (λ e. e ≡ error)
    → error ≡ BadWord (number + 2) → IsFirstBad (row command).operands fits.operands number → Means words result
bad_at words command fits number (Ok order) error same is first = absurd same
bad_at words command fits number (Err e) error same is first =
    subst (IsWordFault words) (sym (same ∙ is)) (record { command = command; fits = fits; number = number; at = refl; first = first })
