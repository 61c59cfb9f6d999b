-- What is seen of a text of which no more than so many bytes are taken.
use Rattle.std.specs.Prelude.{◌≡◌, ℕ, ◌+◌, ◌-◌, ◌<◌, ◌≤◌, List, ◌++◌, length, take, All, false}
use Rattle.seed_model.specs.Tables.{TableValue}
use Rattle.bound_cert.specs.Lines.{Entry}
use Rattle.bound_cert.specs.Grammar.{is_lf, text_of}
use Rattle.bound_cert.specs.Judgements.{Told, Tells, FailsFirst, nothing_told}

-- the text is longer than that, and of what stands behind these lines no whole line and none that is too wide is seen
pub record IsUnseen (limit : ℕ) (text : List ℕ) (front : List Entry) (rest : List ℕ) : Type 0 where
  pub long : limit < length text
  pub unended : All (λ byte. is_lf byte ≡ false) (take (limit - length (text_of front)) rest)
  pub narrow : limit ≤ length (text_of front) + 16384

-- all lines that are seen keep every rule, and more bytes follow than are taken
pub record RunsOn (table : TableValue) (limit : ℕ) (text : List ℕ) : Type 0 where
  pub front : List Entry
  pub rest : List ℕ
  pub told : Told
  pub tells : Tells table nothing_told front told
  pub split : text ≡ text_of front ++ rest
  pub unseen : IsUnseen limit text front rest

-- a judgement fails first, on what is seen
pub record FailsWithin (table : TableValue) (limit : ℕ) (text : List ℕ) (line rule : ℕ) : Type 0 where
  pub failure : FailsFirst table text line rule
  pub seen : ¬ IsUnseen limit text failure.front failure.rest
