pub mod Leads
pub mod LinkLoop
pub mod FollowLaws
