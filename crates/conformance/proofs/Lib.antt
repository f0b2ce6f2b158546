pub mod ShownBits
