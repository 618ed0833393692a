mod Runs
mod OneLoosened
