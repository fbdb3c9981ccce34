pub mod Looking
pub mod Ready
