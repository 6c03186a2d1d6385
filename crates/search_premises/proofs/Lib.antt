pub mod Makes
pub mod Asking
pub mod RightWays
pub mod LeftWays
pub mod SearchWays
pub mod TryWays
pub mod Less
