-- What C sees after a call that writes a row of places.
pub mod Places
