pub mod Classes
pub mod Merged
pub use Rattle.incidence.specs.Incidences as Incidences
pub use Rattle.recipe_reader.specs.Recipes as Recipes
pub use Rattle.seed_model.specs.Tables as Tables
