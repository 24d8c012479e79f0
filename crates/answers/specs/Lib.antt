pub mod Faults
pub mod Acknowledgements
