-- What the two rows of links say of the queue and the free numbers after each step.
use Rattle.std.proofs.Common.{◌≡◌, ◌≢◌, ℕ, ◌+◌, ◌<◌, ◌≤◌, ◌||◌, true, false, eqb, List, [], ◌∷◌, ◌++◌, length, length-append, Some, slice_get, refl, sym, ap, ◌∙◌, subst, inl, inr, arith}
use Rattle.std.specs.List.{IsDistinct}
use Rattle.std.proofs.lemmas.Bool.{cases_eq, cases_Bool, or_cases, false≢true}
use Rattle.std.proofs.lemmas.List.Folds.{list_any-append}
use Rattle.pg_frames.specs.Queues.{Queues, IsOrderly, HasOrder, stands, without, last_of}
use Rattle.pg_frames.specs.Links.{free_root, queue_root, at_node, queues_of, Chain, AreMates, IsRing, AreRings, AreLinked, skipped, put_next, put_prev}
use Rattle.pg_frames.proofs.ListFacts.{not_both, once_none, stands_here, absent_first, absent_rest, absent_both, absent_past, standing, stands-without_other, stands-from_without, once_first, once_rest, once_more, once-without, length_below, some_same, behind, last_first}
use Rattle.pg_frames.proofs.RingFacts.{skipped_node, skipped_other, put_next_other, chain_skips, chain_away, chain_put, chain_same, ring_is}
use Rattle.pg_frames.proofs.MateFacts.{mates_same, mates_skip, mates_put}

-- a number below the count is no root
not_free_root : (count x : ℕ) → x < count → free_root count ≢ x
not_free_root count x lt e = omega (arith, lt, e)

not_queue_root : (count x : ℕ) → x < count → queue_root count ≢ x
not_queue_root count x lt e = omega (arith, lt, e)

-- ---- a list stays sound
below_without : (count x : ℕ) (list : List ℕ) → ((k : ℕ) → stands k list ≡ true → k < count) → (k : ℕ) → stands k (without x list) ≡ true → k < count
below_without count x list below k h = below k (stands-from_without x k list h)

below_more : (count x : ℕ) (list : List ℕ) → x < count → ((k : ℕ) → stands k list ≡ true → k < count) → (k : ℕ) → stands k (x ∷ list) ≡ true → k < count
below_more count x list lt below k h = elim (standing k x list h) [ inl e ↦ omega (arith, e, lt) | inr rest ↦ below k rest ]

apart_without : (x : ℕ) (queue free : List ℕ) → ((k : ℕ) → stands k queue ≡ true → stands k free ≡ false) → (k : ℕ) → stands k (without x queue) ≡ true → stands k (without x free) ≡ false
apart_without x queue free apart k h = elim (cases_Bool (stands k (without x free))) [
  | inl t ↦ absurd (not_both (stands k free) (stands-from_without x k free t) (apart k (stands-from_without x k queue h)))
  | inr f ↦ f
]

-- one that stands neither in a list without x nor is x does not stand in it
absent-from_without : (x k : ℕ) (list : List ℕ) → k ≢ x → stands k (without x list) ≡ false → stands k list ≡ false
absent-from_without x k list ne h = sym (stands-without_other x k list ne) ∙ h

module _ (count : ℕ) (next : ℕ → ℕ) where
  ring_skips : (root x : ℕ) (list : List ℕ) → root ≢ x → IsRing count next root list → IsRing count (skipped next x) root (without x list)
  ring_skips root x list ne is = record {
    chain = chain_skips next x root list root ne ne is.once is.chain;
    once = once-without x list is.once;
    in_range = below_without count x list is.in_range;
  }

  pub rings_skip : (x : ℕ) (queue free : List ℕ) → x < count → AreRings count next queue free → AreRings count (skipped next x) (without x queue) (without x free)
  rings_skip x queue free lt are = record {
    queued = ring_skips (queue_root count) x queue (not_queue_root count x lt) are.queued;
    freed = ring_skips (free_root count) x free (not_free_root count x lt) are.freed;
    apart = apart_without x queue free are.apart;
    alone = λ k le nq nf. elim (cases_eq k x) [
      | inl e ↦ skipped_node next x k e ∙ sym e
      | inr ne ↦
          let same = are.alone k le (absent-from_without x k queue ne nq) (absent-from_without x k free ne nf) in
          skipped_other next x k ne (λ e. ne (sym same ∙ e)) ∙ same
    ];
  }

  -- a root's own ring has the number first, and the other ring stays
  ring_put : (root x : ℕ) (list : List ℕ) → count ≤ root → x < count → stands x list ≡ false → IsRing count next root list → IsRing count (put_next next root x) root (x ∷ list)
  ring_put root x list past lt absent is = record {
    chain = chain_put next root x list root (λ e. omega (arith, past, lt, e)) absent (absent_past count root list is.in_range past) is.chain;
    once = once_more x list absent is.once;
    in_range = below_more count x list lt is.in_range;
  }

  ring_away : (root own x : ℕ) (list : List ℕ) → count ≤ root → count ≤ own → own ≢ root → x < count → stands x list ≡ false → IsRing count next own list → IsRing count (put_next next root x) own list
  ring_away root own x list past past' ne lt absent is = record {
    chain = chain_away next root x own list own (λ e. omega (arith, past', lt, e)) ne absent (absent_past count root list is.in_range past) is.chain;
    once = is.once;
    in_range = is.in_range;
  }

  alone_still : (root x : ℕ) (queue free queue' free' : List ℕ) → count ≤ root → AreRings count next queue free
      → ((k : ℕ) → stands k queue' ≡ false → stands k free' ≡ false → (k ≢ x) × (stands k queue ≡ false) × (stands k free ≡ false))
      → (k : ℕ) → k < count → stands k queue' ≡ false → stands k free' ≡ false → put_next next root x k ≡ k
  alone_still root x queue free queue' free' past are were k le nq nf = let out = were k nq nf in
      put_next_other next root x k out.0 (λ e. omega (arith, past, le, e)) ∙ are.alone k le out.1 out.2

  pub rings_queue : (x : ℕ) (queue free : List ℕ) → x < count → stands x queue ≡ false → stands x free ≡ false → AreRings count next queue free → AreRings count (put_next next (queue_root count) x) (x ∷ queue) free
  rings_queue x queue free lt nq nf are = let past : count ≤ queue_root count = omega arith in record {
    queued = ring_put (queue_root count) x queue past lt nq are.queued;
    freed = ring_away (queue_root count) (free_root count) x free past (omega arith) (λ e. omega (arith, e)) lt nf are.freed;
    apart = λ k h. elim (standing k x queue h) [ inl e ↦ subst (λ j. stands j free ≡ false) (sym e) nf | inr rest ↦ are.apart k rest ];
    alone = alone_still (queue_root count) x queue free (x ∷ queue) free past are (λ k h f. (absent_first k x queue h, absent_rest k x queue h, f));
  }

  pub rings_free : (x : ℕ) (queue free : List ℕ) → x < count → stands x queue ≡ false → stands x free ≡ false → AreRings count next queue free → AreRings count (put_next next (free_root count) x) queue (x ∷ free)
  rings_free x queue free lt nq nf are = let past : count ≤ free_root count = omega arith in record {
    queued = ring_away (free_root count) (queue_root count) x queue past (omega arith) (λ e. omega (arith, e)) lt nq are.queued;
    freed = ring_put (free_root count) x free past lt nf are.freed;
    apart = λ k h. absent_both k x free (λ e. not_both (stands k queue) h (subst (λ j. stands j queue ≡ false) (sym e) nq)) (are.apart k h);
    alone = alone_still (free_root count) x queue free queue (x ∷ free) past are (λ k h f. (absent_first k x free f, h, absent_rest k x free f));
  }

  ring_same : (next' : ℕ → ℕ) (root : ℕ) (list : List ℕ) → ((i : ℕ) → i < count + 2 → next' i ≡ next i) → root < count + 2 → IsRing count next root list → IsRing count next' root list
  ring_same next' root list same lt is = record {
    chain = chain_same (count + 2) next next' same root list root lt (λ k h. omega (arith, is.in_range k h)) is.chain;
    once = is.once;
    in_range = is.in_range;
  }

  pub rings_same : (next' : ℕ → ℕ) (queue free : List ℕ) → ((i : ℕ) → i < count + 2 → next' i ≡ next i) → AreRings count next queue free → AreRings count next' queue free
  rings_same next' queue free same are = record {
    queued = ring_same next' (queue_root count) queue same (omega arith) are.queued;
    freed = ring_same next' (free_root count) free same (omega arith) are.freed;
    apart = are.apart;
    alone = λ k le nq nf. same k (omega (arith, le)) ∙ are.alone k le nq nf;
  }

-- ---- two rows
abbrev pub queues : ℕ → List ℕ → List ℕ → Queues
queues count queue free = record { count = count; queue = queue; free = free }

pub queues_are : (count : ℕ) (next : List ℕ) (queue free : List ℕ) → AreRings count (at_node next) queue free → queues_of count next ≡ queues count queue free
queues_are count next queue free are = λ i. queues count (ring_is count (at_node next) (queue_root count) queue (omega arith) are.queued i) (ring_is count (at_node next) (free_root count) free (omega arith) are.freed i)

pub linked : (count : ℕ) (next prev queue free : List ℕ) → count ≤ 65537 → length next ≡ count + 2 → length prev ≡ count + 2 → AreMates (count + 2) (at_node next) (at_node prev)
    → AreRings count (at_node next) queue free → AreLinked count next prev
linked count next prev queue free small nl pl mates are = record {
  small = small;
  next_long = nl;
  prev_long = pl;
  mates = mates;
  rings = subst (λ q. AreRings count (at_node next) q.queue q.free) (sym (queues_are count next queue free are)) are;
}

-- ---- order
pub once_joined : (xs ys : List ℕ) → IsDistinct eqb xs → IsDistinct eqb ys → ((k : ℕ) → stands k xs ≡ true → stands k ys ≡ false) → IsDistinct eqb (xs ++ ys)
once_joined [] ys ox oy apart = oy
once_joined (x ∷ xs) ys ox oy apart =
    let here : stands x ys ≡ false = apart x (stands_here x x xs refl) in
    let absent : stands x (xs ++ ys) ≡ false = list_any-append (λ other. eqb x other) xs ys ∙ ap (λ b. b || stands x ys) (once_first x xs ox) ∙ here in
    once_more x (xs ++ ys) absent (once_joined xs ys (once_rest x xs ox) oy (λ k h. apart k (behind k x xs h)))

pub order-from_rings : (count : ℕ) (next : ℕ → ℕ) (queue free : List ℕ) → AreRings count next queue free → IsOrderly count queue free
order-from_rings count next queue free are =
    let below : (k : ℕ) → stands k (queue ++ free) ≡ true → k < count = λ k h.
    elim (or_cases (stands k queue) (stands k free) (sym (list_any-append (λ other. eqb k other) queue free) ∙ h)) [ inl q ↦ are.queued.in_range k q | inr f ↦ are.freed.in_range k f ] in
    let all = length_below (queue ++ free) count (once_joined queue free are.queued.once are.freed.once are.apart) below in
    record {
      queued_once = are.queued.once;
      free_once = are.freed.once;
      apart = are.apart;
      queued_range = are.queued.in_range;
      free_range = are.freed.in_range;
      fit = omega (arith, all, length-append queue free);
    }

pub order : (count : ℕ) (next prev : List ℕ) → AreLinked count next prev → HasOrder (queues_of count next)
order count next prev are = let q = queues_of count next in order-from_rings count (at_node next) q.queue q.free are.rings

-- ---- the steps
-- what the rows are after a step, and what they then say
abbrev pub Made : ℕ → List ℕ → List ℕ → List ℕ → List ℕ → Type 0
Made count next prev queue free = AreLinked count next prev × (queues_of count next ≡ queues count queue free)

module _ (count : ℕ) (next prev next' prev' : List ℕ) (was : AreLinked count next prev) (nl : length next' ≡ length next) (pl : length prev' ≡ length prev) (x : ℕ) (lt : x < count) where
  abbrev m : ℕ
  m = count + 2

  abbrev was_queue : List ℕ
  was_queue = (queues_of count next).queue

  abbrev was_free : List ℕ
  was_free = (queues_of count next).free

  -- the nodes that the rows have
  node : (i : ℕ) → i < m → i < length next
  node i le = omega (arith, le, was.next_long)

  made : (n p : ℕ → ℕ) (queue free : List ℕ) → AreMates m n p → AreRings count n queue free → ((i : ℕ) → i < length next → at_node next' i ≡ n i) → ((i : ℕ) → i < length next → at_node prev' i ≡ p i)
      → Made count next' prev' queue free
  made n p queue free mates are ns ps =
      let rings = rings_same count n (at_node next') queue free (λ i le. ns i (node i le)) are in (
        linked count next' prev' queue free was.small (nl ∙ was.next_long) (pl ∙ was.prev_long)
            (mates_same m n p (at_node next') (at_node prev') (λ i le. ns i (node i le)) (λ i le. ps i (node i le)) mates) rings,
        queues_are count next' queue free rings,
      )

  pub skip_made : ((i : ℕ) → i < length next → at_node next' i ≡ skipped (at_node next) x i) → ((i : ℕ) → i < length next → at_node prev' i ≡ skipped (at_node prev) x i)
      → Made count next' prev' (without x was_queue) (without x was_free)
  skip_made = made (skipped (at_node next) x) (skipped (at_node prev) x) (without x was_queue) (without x was_free)
      (mates_skip m (at_node next) (at_node prev) was.mates x (omega (arith, lt))) (rings_skip count (at_node next) x was_queue was_free lt was.rings)

  module _ (nq : stands x was_queue ≡ false) (nf : stands x was_free ≡ false) where
    put_mates : (root : ℕ) → count ≤ root → root < m → AreMates m (put_next (at_node next) root x) (put_prev (at_node prev) root x)
    put_mates root past inside = mates_put m (at_node next) (at_node prev) was.mates root x inside (omega (arith, lt)) (λ e. omega (arith, past, lt, e)) (was.rings.alone x lt nq nf)

    pub queue_made : ((i : ℕ) → i < length next → at_node next' i ≡ put_next (at_node next) (queue_root count) x i)
        → ((i : ℕ) → i < length next → at_node prev' i ≡ put_prev (at_node prev) (queue_root count) x i) → Made count next' prev' (x ∷ was_queue) was_free
    queue_made = made (put_next (at_node next) (queue_root count) x) (put_prev (at_node prev) (queue_root count) x) (x ∷ was_queue) was_free
        (put_mates (queue_root count) (omega arith) (omega arith)) (rings_queue count (at_node next) x was_queue was_free lt nq nf was.rings)

    pub free_made : ((i : ℕ) → i < length next → at_node next' i ≡ put_next (at_node next) (free_root count) x i)
        → ((i : ℕ) → i < length next → at_node prev' i ≡ put_prev (at_node prev) (free_root count) x i) → Made count next' prev' was_queue (x ∷ was_free)
    free_made = made (put_next (at_node next) (free_root count) x) (put_prev (at_node prev) (free_root count) x) was_queue (x ∷ was_free)
        (put_mates (free_root count) (omega arith) (omega arith)) (rings_free count (at_node next) x was_queue was_free lt nq nf was.rings)

-- ---- nodes that link to themselves
pub linked_held : (count : ℕ) (next prev : List ℕ) → count ≤ 65537 → length next ≡ count + 2 → length prev ≡ count + 2 → ((i : ℕ) → i < count + 2 → at_node next i ≡ i) → ((i : ℕ) → i < count + 2 → at_node prev i ≡ i)
    → Made count next prev [] []
linked_held count next prev small nl pl n p =
    let below : (i : ℕ) → i < count + 2 → at_node next i < count + 2 = λ i lt. omega (arith, lt, n i lt) in
    let below' : (i : ℕ) → i < count + 2 → at_node prev i < count + 2 = λ i lt. omega (arith, lt, p i lt) in
    let mates : AreMates (count + 2) (at_node next) (at_node prev) = record {
      next_in = below;
      prev_in = below';
      back = λ i lt. p (at_node next i) (below i lt) ∙ n i lt;
      forth = λ i lt. n (at_node prev i) (below' i lt) ∙ p i lt;
    } in
    let rings : AreRings count (at_node next) [] [] = record {
      queued = record { chain = n (queue_root count) (omega arith); once = once_none; in_range = λ k h. absurd (false≢true h) };
      freed = record { chain = n (free_root count) (omega arith); once = once_none; in_range = λ k h. absurd (false≢true h) };
      apart = λ k h. absurd (false≢true h);
      alone = λ k lt nq nf. n k (omega (arith, lt));
    } in
    (linked count next prev [] [] small nl pl mates rings, queues_are count next [] [] rings)

-- ---- the ends of the lists
-- the node before the end of a chain is its last
chain_last : (m : ℕ) (next prev : ℕ → ℕ) → AreMates m next prev → (from : ℕ) (list : List ℕ) (to : ℕ) → from < m → ((k : ℕ) → stands k list ≡ true → k < m) → Chain next from list to → slice_get (from ∷ list) (length list) ≡ Some (prev to)
chain_last m next prev h from [] to lt below chain = ap Some (sym (h.back from lt) ∙ ap prev chain)
chain_last m next prev h from (y ∷ ys) to lt below chain = chain_last m next prev h y ys to (below y (stands_here y y ys refl)) (λ k s. below k (behind k y ys s)) chain.1

last_from : (from : ℕ) (list : List ℕ) (p : ℕ) → slice_get (from ∷ list) (length list) ≡ Some p → p ≢ from → last_of list ≡ Some p
last_from from [] p e ne = absurd (ne (sym (some_same from p e)))
last_from from (y ∷ ys) p e ne = last_first y ys ∙ e

pub last_is : (count : ℕ) (next prev : List ℕ) → AreLinked count next prev → at_node prev (queue_root count) ≢ queue_root count → last_of (queues_of count next).queue ≡ Some (at_node prev (queue_root count))
last_is count next prev are ne =
    let queued = are.rings.queued in let list = (queues_of count next).queue in
    last_from (queue_root count) list (at_node prev (queue_root count))
    (chain_last (count + 2) (at_node next) (at_node prev) are.mates (queue_root count) list (queue_root count) (omega arith) (λ k h. omega (arith, queued.in_range k h)) queued.chain) ne
