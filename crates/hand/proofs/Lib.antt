mod Picks
mod Spends
