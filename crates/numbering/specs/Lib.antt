pub mod Rule
pub mod Loop
pub mod Law
