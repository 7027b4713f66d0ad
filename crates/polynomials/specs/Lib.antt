pub mod Polynomials
pub mod Field
pub mod Words
