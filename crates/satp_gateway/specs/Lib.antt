pub mod SettingUp
pub mod SetUpStops
pub mod Steps
pub mod Opening
pub mod Handling
