pub mod Carry
pub mod Causes
pub mod Endings
pub mod Sort
pub use Rattle.recipe_order.specs.Orders as Orders
pub use Rattle.recipe_order.specs.Reordered as Reordered
pub use Rattle.recipe_order.specs.Sorted as Sorted
