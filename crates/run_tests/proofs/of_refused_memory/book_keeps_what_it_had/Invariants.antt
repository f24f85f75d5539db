-- The trail that was just made gives the book its name.
use Rattle.run_tests.proofs.of_refused_memory.book_keeps_what_it_had.Given as goal

abbrev pub ghosts-book_takes : goal.ghosts-book_takes
ghosts-book_takes g a = record { trail = a.trail }
