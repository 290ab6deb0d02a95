-- Read Plans first, then Admission and RoundTrip (the sheet), then Closed (the verdict) and Laws; Lawful is a proof.
pub mod Plans
pub mod Admission
pub mod RoundTrip
pub mod Held
pub mod Views
pub mod Closed
pub mod Laws
pub mod Lawful
