-- Lists of names.
use Rattle.std.proofs.Common.{◌∷◌, [], arith, ◌++◌, ◌<◌, length, List, ℕ, length-append}
use Rattle.std.proofs.lemmas.List.Elements.{All-append, All-cons, All-nil}
use Rattle.seed_model.specs.declared.limits.TheConstants.{MOST_FILES}
use Rattle.file_names.specs.FileNames.{IsFileName}
use Rattle.site_forms.specs.Names.{IsNames}

-- a name more at the end
pub one_name_more : (names : List (List ℕ)) (name : List ℕ) → IsNames names → length names < MOST_FILES → IsFileName name → IsNames (names ++ name ∷ [])
one_name_more names name was room lawful = record {
  few = omega (arith, room, length-append names (name ∷ []));
  lawful = All-append IsFileName names (name ∷ []) was.lawful (All-cons IsFileName name [] lawful (All-nil IsFileName));
}
