pub mod Filling
pub mod New
pub mod Theres
pub mod Meetings
