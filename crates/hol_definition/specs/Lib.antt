pub mod ForAll
