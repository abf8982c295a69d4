pub mod Editions
pub mod Every
pub mod Start
