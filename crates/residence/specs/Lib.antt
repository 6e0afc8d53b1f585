pub mod Residence
