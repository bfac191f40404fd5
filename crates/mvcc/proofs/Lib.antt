-- Laws of what all calls share, which no module of the code has.
pub mod OrLaws
pub mod request
