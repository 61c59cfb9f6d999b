pub mod Laws
pub mod Matching
pub mod Orders
pub mod Parts
pub mod Pins
pub mod Places
pub mod Reordered
pub mod Sorted
pub use Rattle.incidence.specs.Incidences as Incidences
pub use Rattle.recipe_reader.specs.Lawful as RecipeLaws
pub use Rattle.recipe_reader.specs.Recipes as Recipes
pub use Rattle.seed_model.specs.Tables as Tables
