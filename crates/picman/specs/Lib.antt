pub mod Get
pub mod Put
pub mod Out
pub mod Init
pub mod OnKeys
pub mod Claims
pub mod Results
