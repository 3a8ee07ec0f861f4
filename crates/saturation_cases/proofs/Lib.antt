pub mod Fractured
