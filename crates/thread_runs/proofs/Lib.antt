mod Askers
mod Denied
mod InCuts
mod InPhases
mod SameCommands
