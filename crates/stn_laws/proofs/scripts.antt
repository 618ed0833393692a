mod OneOutput
mod Runs
mod Reports
mod ReadBack
mod Causes
mod Texts
mod Headings
mod SomeOutput
