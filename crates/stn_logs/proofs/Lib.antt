mod Made
mod Spelled
mod Refused
mod Done
