-- The trail that was just made gives the book its name.
use Rattle.run_tests.proofs.of_book.a_book_with_a_trail_takes_the_same.Given as goal

abbrev pub ghosts-takes_on_trail : goal.ghosts-takes_on_trail
ghosts-takes_on_trail g a = record { trail = a.trail }
