pub mod Runs
pub mod Rooms
