mod Once
mod Fewer
mod Largest
mod LiveOnce
