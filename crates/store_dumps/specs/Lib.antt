-- What contracts cite.
pub mod Dump
pub mod Opening
