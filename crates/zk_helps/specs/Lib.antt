pub mod Explanations
