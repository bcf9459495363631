-- What is told.
use Rattle.std.specs.Prelude.{◌≡◌, ℕ, ◌*◌, ◌-◌, Bool, true, false, List, [], ◌++◌, codes}
use Rattle.std.specs.Fmt.{decimal}
use Rattle.book_bench.specs.declared.report.TheConstants.{CALLERS}
use Rattle.book_bench.specs.declared.asked.Asked.{Asked}

-- how many callers drew, how often in all, and the first and the last stamp
abbrev pub lines_text : ℕ → ℕ → ℕ → ℕ → List ℕ
lines_text callers draws first last = codes "callers " ++ (decimal callers ++ (codes "\ndraws " ++ (decimal draws
    ++ (codes "\nstamps " ++ (decimal first ++ (codes " to " ++ (decimal last ++ codes "\n")))))))

-- what is told of every run of so many callers with so many draws each
abbrev pub run_text : ℕ → ℕ → List ℕ
run_text callers draws = lines_text callers (callers * draws) 0 (callers * draws - 1)

-- two lines of nanoseconds: those of one that did what is named, and those of all
abbrev pub times_text : List ℕ → ℕ → ℕ → List ℕ
times_text what one all = what ++ (codes " by 1 took " ++ (decimal one ++ (codes " ns\n"
    ++ (what ++ (codes " by " ++ (decimal CALLERS ++ (codes " took " ++ (decimal all ++ codes " ns\n"))))))))

-- two times of draws and two of adds where they are asked for, whichever they are, and else nothing
abbrev pub AreTimes : Bool → List ℕ → Type 0
AreTimes false text = text ≡ []
AreTimes true text = (a b c d : ℕ) × (text ≡ times_text (codes "draws") a b ++ times_text (codes "adds") c d)

-- What is told of every run of so many callers with the draws that are asked for, some number of adds, and times
pub record IsReport (callers : ℕ) (asked : Asked) (text : List ℕ) : Type 0 where
  pub adds : ℕ
  pub times : List ℕ
  pub are_times : AreTimes asked.timed times
  pub is : text ≡ run_text callers asked.draws ++ (codes "adds " ++ (decimal adds ++ (codes "\n" ++ times)))
