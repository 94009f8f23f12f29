-- What a reader must believe of the release's number and mark.
pub mod Release
