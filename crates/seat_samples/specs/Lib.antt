pub mod SessionStates
