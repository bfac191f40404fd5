pub mod AdmitLaws
