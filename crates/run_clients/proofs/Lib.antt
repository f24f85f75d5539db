mod Calls
mod Drops
mod EachOpen
mod LastCalls
mod Runs
mod Shut
