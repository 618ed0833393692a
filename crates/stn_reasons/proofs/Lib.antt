mod Opened
mod Steps
