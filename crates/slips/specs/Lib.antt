-- What the contracts of this crate cite: slips, the run sheet.
pub mod Slips
pub mod Sheets
