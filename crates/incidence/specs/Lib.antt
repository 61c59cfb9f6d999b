pub mod Incidences
pub mod Inside
pub use Rattle.recipe_reader.specs.Lawful as RecipeLaws
pub use Rattle.recipe_reader.specs.Recipes as Recipes
pub use Rattle.seed_model.specs.Tables as Tables
