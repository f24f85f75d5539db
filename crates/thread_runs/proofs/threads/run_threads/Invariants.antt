-- The trail that was just made gives the book its name.
use Rattle.thread_runs.proofs.threads.run_threads.Given as goal

abbrev pub ghosts-run_script : goal.ghosts-run_script
ghosts-run_script g a = record { trail = a.trail }
