use Rattle.pg_book.proofs.tests.history_of_two.Given as goal

-- the book that was just opened
abbrev pub ghosts-drawn_by_two : goal.ghosts-drawn_by_two
ghosts-drawn_by_two g a = record { book = a.spine.book }
