pub mod SameTactics
