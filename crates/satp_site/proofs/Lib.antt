mod Second
mod Untold
