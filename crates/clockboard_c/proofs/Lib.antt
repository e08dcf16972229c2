mod Telling
mod Counts
mod Kept
mod Wide
mod Rows
