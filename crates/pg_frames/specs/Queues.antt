-- Two lists of numbers below a count: a queue and the free numbers.
use Rattle.std.specs.Prelude.{ℕ, zero, suc, ◌≡◌, ◌+◌, ◌-◌, ◌<◌, ◌≤◌, Bool, true, false, not, Option, List, [], ◌∷◌, ◌++◌, length, filter, eqb, slice_get, if◌then◌else◌}
use Rattle.std.specs.List.{list_any, IsDistinct}

-- whether the number stands in the list
abbrev pub stands : ℕ → List ℕ → Bool
stands number list = list_any (λ other. eqb number other) list

-- the list without the number
abbrev pub without : ℕ → List ℕ → List ℕ
without number list = filter (λ other. not (eqb number other)) list

-- how long the list is without the number, if it stands there at most once
abbrev pub length_without : ℕ → List ℕ → ℕ
length_without number list = if stands number list then length list - 1 else length list

-- the number stands behind all others of the list
abbrev pub EndsBy : ℕ → List ℕ → Type 0
EndsBy number list = list ≡ without number list ++ number ∷ []

-- the last of the list
abbrev pub last_of : List ℕ → Option ℕ
last_of list = slice_get list (length list - 1)

-- the numbers from one on, so many
abbrev pub from_on : ℕ → ℕ → List ℕ
from_on first zero = []
from_on first (suc n) = first ∷ from_on (first + 1) n

-- No number stands twice in a list, or in both.
pub record IsOrderly (count : ℕ) (queue free : List ℕ) : Type 0 where
  pub queued_once : IsDistinct eqb queue
  pub free_once : IsDistinct eqb free
  pub apart : (number : ℕ) → stands number queue ≡ true → stands number free ≡ false
  pub queued_range : (number : ℕ) → stands number queue ≡ true → number < count
  pub free_range : (number : ℕ) → stands number free ≡ true → number < count
  pub fit : length queue + length free ≤ count

pub record Queues : Type 0 where
  pub count : ℕ
  pub queue : List ℕ
  pub free : List ℕ

abbrev pub HasOrder : Queues → Type 0
HasOrder queues = IsOrderly queues.count queues.queue queues.free

-- so many numbers, none of them queued and these free
abbrev pub only_free : ℕ → List ℕ → Queues
only_free count free = record { count = count; queue = []; free = free }

-- a number leaves the list that it stands in
abbrev pub after_detach : Queues → ℕ → Queues
after_detach queues number = record queues { queue = without number queues.queue; free = without number queues.free }
