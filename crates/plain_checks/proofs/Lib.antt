pub mod Binding
pub mod EditLaws
