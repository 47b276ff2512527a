pub mod Order
pub mod InNumbers
pub mod Claims
