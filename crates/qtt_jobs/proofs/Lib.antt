-- What is proved beside the functions.
mod Stopping
