mod Additions
mod Playings
mod Talks
mod Transcribed
