-- What the claims cite beside the rules.
pub mod Told
