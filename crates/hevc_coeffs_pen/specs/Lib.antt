pub mod CoeffsPuts
