mod Bars
mod ByKeys
pub mod ClassRows
mod Covering
mod FromPlaces
mod Pieces
mod PlaceOrder
mod SureRows
mod TopRows
