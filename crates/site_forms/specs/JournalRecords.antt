-- The records of the journal, and the bodies that spell them.
use Rattle.std.specs.Prelude.{ℕ, zero, suc, ◌+◌, ◌==◌, nat_le, List, [], ◌∷◌, length, take, drop, Option, Some, None, if◌then◌else◌}
use Rattle.std.specs.List.{flat_map}
use Rattle.std.specs.Option.{option_map}

-- the steps of a migration
pub data JournalRecord : Type 0 where
  BeginRecord : (names : List (List ℕ)) → JournalRecord
  MovedRecord : JournalRecord
  UndoBeginRecord : JournalRecord
  UndoneRecord : JournalRecord
  AcceptedRecord : JournalRecord

-- a name behind its length
abbrev pub measured_name : List ℕ → List ℕ
measured_name name = length name ∷ name

-- the body of a record: its kind, 10 hex to 14 hex, and for a Begin the names
abbrev pub journal_body : JournalRecord → List ℕ
journal_body (BeginRecord names) = 16 ∷ flat_map measured_name names
journal_body MovedRecord = 17 ∷ []
journal_body UndoBeginRecord = 18 ∷ []
journal_body UndoneRecord = 19 ∷ []
journal_body AcceptedRecord = 20 ∷ []

-- names, each behind its length; the first number is above the number of names
abbrev pub measured_names : ℕ → List ℕ → Option (List (List ℕ))
measured_names fuel [] = Some []
measured_names zero (n ∷ rest) = None
measured_names (suc fuel) (n ∷ rest) = if nat_le n (length rest) then option_map (λ names. take n rest ∷ names) (measured_names fuel (drop n rest)) else None

-- a record that is its kind alone
abbrev pub bare_record : ℕ → Option JournalRecord
bare_record kind =
    if kind == 17 then Some MovedRecord else (if kind == 18 then Some UndoBeginRecord else (if kind == 19 then Some UndoneRecord else (if kind == 20 then Some AcceptedRecord else None)))

-- the record that a body spells, where it is one
abbrev pub journal_record : List ℕ → Option JournalRecord
journal_record [] = None
journal_record (kind ∷ []) = if kind == 16 then Some (BeginRecord []) else bare_record kind
journal_record (kind ∷ n ∷ rest) = if kind == 16 then option_map BeginRecord (measured_names (length rest + 1) (n ∷ rest)) else None
