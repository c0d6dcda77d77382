mod Known
mod Reached
mod Builds
mod Texts
mod Standing
mod Stages
mod Places
mod Rows
