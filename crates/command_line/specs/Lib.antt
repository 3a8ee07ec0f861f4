pub mod Numbers
pub mod Arguments
pub mod Rules
pub mod Commands
