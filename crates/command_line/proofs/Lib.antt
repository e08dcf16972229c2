mod Single
mod Numbers
mod Parsed
mod Sizes
mod Rows
