mod OneSaid
mod Foreseen
mod SomeRepairs
mod SomePicture
mod SomeSaid
