pub mod Machine
pub mod Words
pub mod Commands
pub mod Exchange
pub mod Shows
pub mod Laws
