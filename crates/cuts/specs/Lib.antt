pub mod ZoneSlots
pub mod Slots
