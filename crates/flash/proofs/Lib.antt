pub mod Flash
pub mod Places
