pub mod Blocks
pub mod Chains
pub mod Ends
pub mod Extends
pub mod Judged
pub mod Parting
