pub mod Folder
pub mod Grammar
pub mod Reading
pub mod Table
pub mod Values
