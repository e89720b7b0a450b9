pub mod Anys
pub mod Arrays
pub mod Eachs
pub mod Records
pub mod Tables
pub mod Stands
pub mod Heads
pub mod Lasts
