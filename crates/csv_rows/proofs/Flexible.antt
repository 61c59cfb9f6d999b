-- Whether rows may differ in length changes the text of no row.
use Rattle.std.proofs.Common.{◌≡◌, ◌∷◌, [], ℕ, List, Bool, refl}
use Rattle.csv.specs.Writing.{escaped, field_text, fields_text, is_blank, row_text, with_flexible}
use Rattle.csv.specs.declared.writer.WriterBuilder.{WriterBuilder}

escaped-flexible : (cfg : WriterBuilder) (mixed : Bool) (field : List ℕ) → escaped (with_flexible cfg mixed) field ≡ escaped cfg field
unfolding escaped
escaped-flexible cfg mixed [] = refl
escaped-flexible cfg mixed (b ∷ rest) = rw (escaped-flexible cfg mixed rest) refl

field_text-flexible : (cfg : WriterBuilder) (mixed : Bool) (field : List ℕ) → field_text (with_flexible cfg mixed) field ≡ field_text cfg field
field_text-flexible cfg mixed field = rw (escaped-flexible cfg mixed field) refl

fields_text-flexible : (cfg : WriterBuilder) (mixed : Bool) (fields : List (List ℕ)) → fields_text (with_flexible cfg mixed) fields ≡ fields_text cfg fields
unfolding fields_text
fields_text-flexible cfg mixed [] = refl
fields_text-flexible cfg mixed (field ∷ rest) = rw (field_text-flexible cfg mixed field, fields_text-flexible cfg mixed rest) refl

pub row_text-flexible : (cfg : WriterBuilder) (mixed : Bool) (fields : List (List ℕ)) → row_text (with_flexible cfg mixed) fields ≡ row_text cfg fields
unfolding is_blank
row_text-flexible cfg mixed [] = refl
row_text-flexible cfg mixed (field ∷ []) = rw (field_text-flexible cfg mixed field, fields_text-flexible cfg mixed []) refl
row_text-flexible cfg mixed (field ∷ next ∷ rest) = rw (field_text-flexible cfg mixed field, fields_text-flexible cfg mixed (next ∷ rest)) refl
