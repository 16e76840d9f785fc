pub mod Answers
pub mod Closing
pub mod Delivery
pub mod Lines
pub mod OnTheWay
pub mod Scratch
pub mod Under
