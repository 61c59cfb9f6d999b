mod BitSets
pub mod ClassSums
pub mod Decimals
pub mod KeySums
mod MaskBits
mod MaskSums
mod SubsetSums
mod ExactSums
mod Ranks
mod FirstBest
mod Examples
pub mod NodeMembers
