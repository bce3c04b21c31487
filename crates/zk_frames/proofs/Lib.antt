pub mod Bodies
pub mod Joined
pub mod Lengths
pub mod MultiLaws
pub mod Nulls
pub mod Whole
