pub mod Agreement
pub mod Coverage
pub mod Failing
pub mod History
pub mod Legal
