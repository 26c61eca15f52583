pub mod AllLanes
pub mod ChainLaws
pub mod FetchedLaws
pub mod LaneLaws
pub mod LanePrograms
pub mod PressLaws
pub mod VaultLaws
