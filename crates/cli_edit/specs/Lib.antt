pub mod Blamed
pub mod Journals
pub mod Keeping
pub mod LineFiles
pub mod Printed
pub mod Printing
pub mod Room
pub mod Work
