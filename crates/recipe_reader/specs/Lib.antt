pub mod AddFaults
pub mod Appearance
pub mod Eights
pub mod Grouped
pub mod GroupedInside
pub mod Lawful
pub mod Limits
pub mod Parts
pub mod Reading
pub mod RecipeInside
pub mod RecipeRows
pub mod Recipes
pub mod Same
pub mod WrittenRows
pub use Rattle.csv_rows.specs.Rows as CsvRows
