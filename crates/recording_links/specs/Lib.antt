pub mod LinkedSectors
