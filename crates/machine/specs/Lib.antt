pub mod Machine
pub mod Nodes
