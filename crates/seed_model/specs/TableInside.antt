use Rattle.seed_model.specs.Tables.{TableValue, IsTable}
use Rattle.seed_model.specs.declared.table.Table.TheInside.{Inside}

abbrev pub view_of : Inside → TableValue
view_of a = record { files = a.files; classes = a.classes.items }

abbrev pub KeepsTable : Inside → Type 0
KeepsTable a = IsTable (view_of a)
