mod Limits
mod Refused
