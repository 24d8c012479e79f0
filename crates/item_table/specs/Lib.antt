pub mod Rising
pub mod Table
pub mod Turn
pub mod Fair
