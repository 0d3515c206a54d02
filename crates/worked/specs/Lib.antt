pub mod Frames
pub mod Flags
pub mod Handshake
pub mod Claims
