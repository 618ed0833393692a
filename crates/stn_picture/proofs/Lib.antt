pub mod OnePicture
pub mod SamePicture
