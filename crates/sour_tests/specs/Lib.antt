pub mod MainExits
