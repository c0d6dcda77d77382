mod Given
mod Imported
mod Found
mod Read
mod Counted
mod Mentioned
mod Loads
