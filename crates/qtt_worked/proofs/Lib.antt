mod Reading
mod Calls
mod Handle
mod Budget
mod Mismatch
