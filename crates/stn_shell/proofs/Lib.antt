mod Turns
mod Bytes
