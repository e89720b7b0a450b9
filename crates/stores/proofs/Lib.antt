pub mod Pairs
pub mod Piles
pub mod Tables
pub mod Maps
pub mod Ranks
