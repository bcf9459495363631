-- How a queue and the free numbers lie in two rows of links. The nodes are the numbers below the count and two
-- roots, that of the free ring and that of the queue. From each node the one row names the next, the other the one
-- before; both rings come back to their root, and a number that is in neither links to itself.
use Rattle.std.specs.Prelude.{ℕ, zero, suc, ◌≡◌, ◌+◌, ◌<◌, ◌≤◌, true, false, cond, List, [], ◌∷◌, length, eqb, get_or}
use Rattle.std.specs.List.{IsDistinct}
use Rattle.pg_frames.specs.Queues.{Queues, stands}

abbrev pub free_root : ℕ → ℕ
free_root count = count

abbrev pub queue_root : ℕ → ℕ
queue_root count = count + 1

-- the node that a row names at a node
abbrev pub at_node : List ℕ → ℕ → ℕ
at_node row node = get_or row node 0

-- so many nodes of a row say what a map says
abbrev pub Says : ℕ → List ℕ → (ℕ → ℕ) → Type 0
Says nodes row map = (i : ℕ) → i < nodes → at_node row i ≡ map i

-- the nodes from one on, until the root or until so many
abbrev pub walk : ℕ → (ℕ → ℕ) → ℕ → ℕ → List ℕ
walk zero next root node = []
walk (suc most) next root node = cond (eqb node root) [] (node ∷ walk most next root (next node))

-- the ring of a root, without it
abbrev pub ring : ℕ → (ℕ → ℕ) → ℕ → List ℕ
ring count next root = walk count next root (next root)

-- what two rows of links say
abbrev pub queues_of : ℕ → List ℕ → Queues
queues_of count next = record {
  count = count;
  queue = ring count (at_node next) (queue_root count);
  free = ring count (at_node next) (free_root count);
}

-- the links lead from one node through the list to another
abbrev pub Chain : (ℕ → ℕ) → ℕ → List ℕ → ℕ → Type 0
Chain next from [] to = next from ≡ to
Chain next from (node ∷ nodes) to = (next from ≡ node) × Chain next node nodes to

-- two maps of the nodes undo each other
pub record AreMates (nodes : ℕ) (next prev : ℕ → ℕ) : Type 0 where
  pub next_in : (i : ℕ) → i < nodes → next i < nodes
  pub prev_in : (i : ℕ) → i < nodes → prev i < nodes
  pub back : (i : ℕ) → i < nodes → prev (next i) ≡ i
  pub forth : (i : ℕ) → i < nodes → next (prev i) ≡ i

-- the list is the ring of the root
pub record IsRing (count : ℕ) (next : ℕ → ℕ) (root : ℕ) (list : List ℕ) : Type 0 where
  pub chain : Chain next root list root
  pub once : IsDistinct eqb list
  pub in_range : (number : ℕ) → stands number list ≡ true → number < count

pub record AreRings (count : ℕ) (next : ℕ → ℕ) (queue free : List ℕ) : Type 0 where
  pub queued : IsRing count next (queue_root count) queue
  pub freed : IsRing count next (free_root count) free
  pub apart : (number : ℕ) → stands number queue ≡ true → stands number free ≡ false
  -- a number in neither links to itself
  pub alone : (number : ℕ) → number < count → stands number queue ≡ false → stands number free ≡ false → next number ≡ number

-- two rows of links are sound
pub record AreLinked (count : ℕ) (next prev : List ℕ) : Type 0 where
  pub small : count ≤ 65537
  pub next_long : length next ≡ count + 2
  pub prev_long : length prev ≡ count + 2
  pub mates : AreMates (count + 2) (at_node next) (at_node prev)
  pub rings : AreRings count (at_node next) (queues_of count next).queue (queues_of count next).free

-- the links once a node links to itself, and its neighbours to one another
abbrev pub skipped : (ℕ → ℕ) → ℕ → ℕ → ℕ
skipped link node i = cond (eqb i node) node (cond (eqb (link i) node) (link node) (link i))

-- the links to what comes next, once a node stands right behind a root
abbrev pub put_next : (ℕ → ℕ) → ℕ → ℕ → ℕ → ℕ
put_next next root node i = cond (eqb i node) (next root) (cond (eqb i root) node (next i))

-- the links to what came before
abbrev pub put_prev : (ℕ → ℕ) → ℕ → ℕ → ℕ → ℕ
put_prev prev root node i = cond (eqb i node) root (cond (eqb (prev i) root) node (prev i))
