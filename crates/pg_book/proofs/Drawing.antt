-- What two views know after a draw, with its four meetings.
use Rattle.std.proofs.Common.{◌≡◌, ℕ, ◌+◌, ◌<◌, ◌≤◌, max, Bool, true, cond, ◌&&◌, List, [], ◌∷◌, ◌++◌, length, Some, None, sym, ap, ◌∙◌, subst, arith, lt_of_le_of_lt, eqb, eq-eqb, eqb-true}
use Rattle.pg_book.specs.declared.needs.Needs.{Needs}
use Rattle.pg_book.specs.declared.receipt.Receipt.{Receipt}
use Rattle.pg_book.specs.declared.view.Name.{Name}
use Rattle.pg_book.specs.declared.view.View.{View}
use Rattle.pg_book.specs.Needs.{parts_of, names_of, entries_at, part_entries}
use Rattle.pg_book.specs.Lists.{Among, IsPrefix, of_part, of_caller, is_above, has_stamp}
use Rattle.pg_book.specs.Views.{name_at, list_at, caller_name, caller_list, Holds, Sound}
use Rattle.pg_book.specs.Kinds.{note, looked, drawn, merged_views, due_still, takes, with_own, grown, joined, receipt_of}
use Rattle.pg_book.specs.Tells.{MayDraw}
use Rattle.pg_book.specs.Steps.{HasLooked}
use Rattle.pg_book.specs.Models.{IsSpineView, IsPassView}
use Rattle.pg_book.specs.Knowing.{HasRoom, HasDrawn}
use Rattle.pg_book.proofs.ListFacts.{prefix_trans, among_filter, filter_among, rising_filter, rising_within}
use Rattle.pg_book.proofs.SumFacts.{length-part_lt}
use Rattle.pg_book.proofs.ViewFacts.{note_list, Pushes, pushes, pushed_held, pushed_former, pushed_here}
use Rattle.pg_book.proofs.SplitStep.{note_sound}
use Rattle.pg_book.proofs.JoinStep.{merged_name, length-merged_all}
use Rattle.pg_book.proofs.Meetings.{HasMet, all_above, has_last, HasJoined, has_joined, TakesNote, takes_note}

module _ {E : Type 0} where
  -- of a caller the part's list has no more receipts than the caller has of the part
  pub no_more : (part caller : ℕ) (s q : View E) → Sound s → Sound q → part < parts_of s.needs → ((r : Receipt E) → Among r (list_at s part) → r.caller ≡ caller → Among r (caller_list q caller)) → length (of_caller caller (list_at s part)) ≤ length (of_part part (caller_list q caller))
  no_more part caller s q ss sq lt h =
      rising_within (of_caller caller (list_at s part)) (of_part part (caller_list q caller)) (rising_filter (λ r. eqb r.caller caller) (list_at s part) (ss.lists part).rising) (rising_filter (λ r. eqb r.part part) (caller_list q caller) (sq.lists (caller_name q caller)).rising)
      (λ r a. let b = among_filter (λ x. eqb x.caller caller) r (list_at s part) a in filter_among (λ x. eqb x.part part) r (caller_list q caller) (h r b.0 (eqb-true _ _ b.1)) (eq-eqb _ _ ((ss.lists part).of_part r lt b.0)))

  -- room by the needs of the spine, where the pass has room
  pub fewer_there : (part caller : ℕ) (s p q : View E) → IsSpineView part s → HasRoom part caller p → HasMet part caller s p q → length (of_caller caller (list_at s part)) < entries_at s.needs caller part
  fewer_there part caller s p q ss room m =
      let a = no_more part caller s q ss.ready.sound m.view.ready.sound ss.is_part m.met in
      let b : length (of_part part (caller_list q caller)) < entries_at p.needs caller part = subst (λ (l : List (Receipt E)). length (of_part part l) < entries_at p.needs caller part) (sym m.own) room in
      let same : p.needs ≡ s.needs = sym m.kept.needs ∙ m.told.needs in
      subst (λ (n : List (List Needs)). length (of_caller caller (list_at s part)) < entries_at n caller part) same (lt_of_le_of_lt a b)

  -- and then its list is shorter than the room
  pub has_space : (part caller : ℕ) (s p q : View E) → IsSpineView part s → HasRoom part caller p → HasMet part caller s p q → length (list_at s part) < part_entries s.needs part
  has_space part caller s p q ss room m =
      let l = ss.ready.sound.lists part in
      length-part_lt s.needs part (list_at s part) caller (λ r a. l.callers r ss.is_part a) (λ c. l.within c ss.is_part) (subst (λ (n : List (List Needs)). caller < length n) m.told.needs m.view.is_caller) (fewer_there part caller s p q ss room m)

  module _ (part caller : ℕ) (s p q : View E) (ss : IsSpineView part s) (room : HasRoom part caller p) (m : HasMet part caller s p q) where
    abbrev t : View E
    t = merged_views s (note q)

    -- the second meeting
    second : joined s (note q) ≡ t
    second = ap (grown t) m.view.ready.settled

    sizes : length s.names ≡ length (note q).names
    sizes = ss.ready.sound.whole ∙ ap names_of (sym m.told.needs) ∙ sym (note_sound q m.view.ready.sound).whole

    t_takes : TakesNote s q (name_at t)
    t_takes = takes_note s q (name_at t) (λ k. merged_name s (note q) k sizes)

    t_due : t.due ≡ None
    t_due = ap (λ d. due_still d (note q)) ss.ready.settled

    t_may : MayDraw t part caller
    t_may = record {
      is_part = ss.is_part;
      holds = t_takes.held part ∙ ss.holds;
      settled = t_due;
      is_caller = subst (λ (n : List (List Needs)). caller < length n) m.told.needs m.view.is_caller;
      fewer = subst (λ (l : List (Receipt E)). length (of_caller caller l) < entries_at s.needs caller part) (sym (t_takes.own part ss.holds)) (fewer_there part caller s p q ss room m);
    }

    pub may_draw : MayDraw (joined s (note q)) part caller
    may_draw = subst (λ (v : View E). MayDraw v part caller) (sym second) t_may

    module _ (entry : E) (stamp : ℕ) (u q' s' : View E) (is_u : u ≡ drawn (joined s (note q)) part caller entry stamp) (low : (joined s (note q)).floor ≤ stamp) (su : Sound u) (h4 : HasLooked (joined q (note u)) q') (h5 : HasLooked (joined u (note q')) s') where
      abbrev r : Receipt E
      r = receipt_of part caller entry stamp

      abbrev d : View E
      d = drawn t part caller entry stamp

      u_is : u ≡ d
      u_is = is_u ∙ ap (λ (v : View E). drawn v part caller entry stamp) second

      low_t : max s.floor q.floor ≤ stamp
      low_t = subst (λ (v : View E). v.floor ≤ stamp) second low

      inside : part < length t.names
      inside = let a = length-merged_all s.names (note q).names in let b = ss.ready.sound.whole in let c = ss.is_part in omega arith

      pushed : Pushes t.names d.names part r
      pushed = pushes t.names part r inside

      u_name : (k : ℕ) → name_at u k ≡ name_at d k
      u_name k = ap (λ (x : View E). name_at x k) u_is

      u_list : list_at u part ≡ list_at s part ++ r ∷ []
      u_list = ap (λ (n : Name E). n.list) (u_name part) ∙ pushed_here pushed ∙ ap (λ l. l ++ r ∷ []) (t_takes.own part ss.holds)

      u_held : (k : ℕ) → (name_at u k).held ≡ (name_at s k).held
      u_held k = ap (λ (n : Name E). n.held) (u_name k) ∙ pushed_held pushed k ∙ t_takes.held k

      u_needs : u.needs ≡ s.needs
      u_needs = ap (λ (x : View E). x.needs) u_is

      u_due : u.due ≡ Some r
      u_due = ap (λ (x : View E). x.due) u_is

      u_sent : u.sent ≡ None
      u_sent = ap (λ (x : View E). x.sent) u_is ∙ ss.ready.unsent

      -- the third meeting
      abbrev m4 : View E
      m4 = merged_views q (note u)

      q_sound : Sound q
      q_sound = m.view.ready.sound

      same_q : u.needs ≡ q.needs
      same_q = u_needs ∙ sym m.told.needs

      sizes4 : length q.names ≡ length (note u).names
      sizes4 = q_sound.whole ∙ ap names_of (sym same_q) ∙ sym (note_sound u su).whole

      m4_takes : TakesNote q u (name_at m4)
      m4_takes = takes_note q u (name_at m4) (λ k. merged_name q (note u) k sizes4)

      abbrev own_name : ℕ
      own_name = caller_name q caller

      above_q : (x : Receipt E) → Among x (caller_list q caller) → x.stamp < stamp
      above_q x a = let b = (q_sound.lists own_name).below x a in omega (arith, low_t)

      taken : takes m4 r ≡ true
      taken =
          ap (λ (b : Bool). b && is_above stamp (list_at m4 own_name)) (m4_takes.held own_name ∙ m.view.holds)
          ∙ ap (is_above stamp) (m4_takes.own own_name m.view.holds)
          ∙ all_above stamp (caller_list q caller) above_q

      third : joined q (note u) ≡ with_own m4 r
      third = ap (grown m4) u_due ∙ ap (λ (b : Bool). cond b (with_own m4 r) m4) taken

      inside4 : own_name < length m4.names
      inside4 = let a = length-merged_all q.names (note u).names in let b = q_sound.whole in let c = m.view.is_caller in omega arith

      pushed4 : Pushes m4.names (with_own m4 r).names own_name r
      pushed4 = pushes m4.names own_name r inside4

      view4 : q' ≡ looked (with_own m4 r) h4.found
      view4 = h4.view ∙ ap (λ (x : View E). looked x h4.found) third

      q'_name : (k : ℕ) → name_at q' k ≡ name_at (with_own m4 r) k
      q'_name k = ap (λ (x : View E). name_at x k) view4

      q'_needs : q'.needs ≡ q.needs
      q'_needs = ap (λ (x : View E). x.needs) view4

      q'_list : list_at q' own_name ≡ caller_list q caller ++ r ∷ []
      q'_list = ap (λ (n : Name E). n.list) (q'_name own_name) ∙ pushed_here pushed4 ∙ ap (λ l. l ++ r ∷ []) (m4_takes.own own_name m.view.holds)

      q'_caller : caller_list q' caller ≡ caller_list q caller ++ r ∷ []
      q'_caller = ap (λ (n : List (List Needs)). list_at q' (parts_of n + caller)) q'_needs ∙ q'_list

      q'_held : (k : ℕ) → (name_at q' k).held ≡ (name_at q k).held
      q'_held k = ap (λ (n : Name E). n.held) (q'_name k) ∙ pushed_held pushed4 k ∙ m4_takes.held k

      q'_due : q'.due ≡ None
      q'_due = ap (λ (x : View E). x.due) view4 ∙ ap (λ e. due_still e (note u)) m.view.ready.settled

      q'_sent : q'.sent ≡ None
      q'_sent = ap (λ (x : View E). x.sent) view4 ∙ m.view.ready.unsent

      q_in_q' : (k : ℕ) → IsPrefix (list_at q k) (list_at q' k)
      q_in_q' k = subst (λ (l : List (Receipt E)). IsPrefix l (list_at q' k)) (ap (λ (n : Name E). n.former) (q'_name k) ∙ pushed_former pushed4 k ∙ ap (λ (n : Name E). n.former) (merged_name q (note u) k sizes4)) (h4.sound.former k)

      pass_view : IsPassView caller q'
      pass_view = record {
        ready = record { sound = h4.sound; settled = q'_due; unsent = q'_sent };
        is_caller = subst (λ (n : List (List Needs)). caller < length n) (sym q'_needs) m.view.is_caller;
        holds = subst (λ (n : List (List Needs)). Holds q' (parts_of n + caller)) (sym q'_needs) (q'_held own_name ∙ m.view.holds);
        only = λ k held. m.view.only k (sym (q'_held k) ∙ held) ∙ ap (λ (n : List (List Needs)). parts_of n + caller) (sym q'_needs);
      }

      -- the fourth meeting
      k5 : HasJoined u (note q') s'
      k5 = has_joined u (note q') s' su (note_sound q' h4.sound) q'_due h5

      s'_takes : TakesNote u q' (name_at s')
      s'_takes = takes_note u q' (name_at s') k5.name

      s'_needs : s'.needs ≡ s.needs
      s'_needs = k5.needs ∙ u_needs

      u_holds : Holds u part
      u_holds = u_held part ∙ ss.holds

      s'_list : list_at s' part ≡ list_at s part ++ r ∷ []
      s'_list = s'_takes.own part u_holds ∙ u_list

      q'_in_s' : (k : ℕ) → IsPrefix (list_at q' k) (list_at s' k)
      q'_in_s' k = subst (λ (l : List (Receipt E)). IsPrefix l (list_at s' k)) (note_list q' k) (k5.told k)

      no_longer : due_still (Some r) (note q') ≡ None
      no_longer = ap (λ (b : Bool). cond b None (Some r)) (ap (has_stamp stamp) (note_list q' (caller_name q' caller) ∙ q'_caller) ∙ has_last (caller_list q caller) r)

      spine_view : IsSpineView part s'
      spine_view = record {
        ready = record { sound = k5.sound; settled = k5.due ∙ ap (λ e. due_still e (note q')) u_due ∙ no_longer; unsent = k5.sent ∙ u_sent };
        is_part = subst (λ (n : List (List Needs)). part < parts_of n) (sym s'_needs) ss.is_part;
        holds = s'_takes.held part ∙ u_holds;
        only = λ k held. ss.only k (sym (u_held k) ∙ sym (s'_takes.held k) ∙ held);
      }

      pub has_drawn : HasDrawn part caller entry stamp s p s' q'
      has_drawn = record {
        space = has_space part caller s p q ss room m;
        spine = spine_view;
        pass = pass_view;
        above_spine = λ x a. let b = (ss.ready.sound.lists part).below x a in omega (arith, low_t);
        above_pass = λ x a. above_q x (subst (Among x) (sym m.own) a);
        spine_list = s'_list;
        pass_list = q'_caller ∙ ap (λ l. l ++ r ∷ []) m.own;
        spine_kept = record { needs = s'_needs; lists = λ k. prefix_trans _ _ _ (m.told.lists k) (prefix_trans _ _ _ (q_in_q' k) (q'_in_s' k)) };
        spine_told = record { needs = s'_needs ∙ sym m.told.needs ∙ m.kept.needs; lists = λ k. prefix_trans _ _ _ (m.kept.lists k) (prefix_trans _ _ _ (q_in_q' k) (q'_in_s' k)) };
        pass_kept = record { needs = q'_needs ∙ m.kept.needs; lists = λ k. prefix_trans _ _ _ (m.kept.lists k) (q_in_q' k) };
        pass_told = record { needs = q'_needs ∙ m.told.needs; lists = λ k. prefix_trans _ _ _ (m.told.lists k) (q_in_q' k) };
      }
