-- What the contracts of this crate cite: each case's values, each refusal's number, the result table, the sense data.
pub mod Cases
pub mod Refusals
pub mod Table
pub mod Data
