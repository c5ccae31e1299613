mod LowMark
mod Moved
mod Sound
