-- What each kind of step does to a view.
use Rattle.std.specs.Prelude.{ℕ, ◌+◌, Bool, true, false, ◌||◌, ◌&&◌, cond, max, List, [], ◌∷◌, ◌++◌, map, replicate, slice_set, Option, Some, None}
use Rattle.pg_book.specs.declared.needs.Needs.{Needs}
use Rattle.pg_book.specs.declared.receipt.Receipt.{Receipt}
use Rattle.pg_book.specs.declared.view.Name.{Name}
use Rattle.pg_book.specs.declared.view.View.{View}
use Rattle.pg_book.specs.Needs.{names_of}
use Rattle.pg_book.specs.Lists.{is_above, has_stamp, longer}
use Rattle.pg_book.specs.Views.{blank, name_at, caller_name, caller_list}

module _ {E : Type 0} where
  -- first: the view of the first seat
  abbrev pub first : List (List Needs) → View E
  first needs = record { spent = false; floor = 0; needs = needs; other_needs = needs; names = replicate (names_of needs) blank; due = None; sent = None }

  -- a view that was joined into another
  abbrev pub spent_view : View E
  spent_view = record { spent = true; floor = 0; needs = []; other_needs = []; names = []; due = None; sent = None }

  -- split: what the new seat knows. It holds nothing, and what was due is sent
  abbrev pub not_held : Name E → Name E
  not_held n = record { held = false; list = n.list; former = []; former_other = [] }

  abbrev pub note : View E → View E
  note v = record { spent = v.spent; floor = v.floor; needs = v.needs; other_needs = v.needs; names = map not_held v.names; due = None; sent = v.due }

  -- name: the view holds the name k, with an empty list
  abbrev pub fresh : Name E
  fresh = record { held = true; list = []; former = []; former_other = [] }

  abbrev pub named : View E → ℕ → View E
  named v k = record { spent = v.spent; floor = v.floor; needs = v.needs; other_needs = v.other_needs; names = slice_set v.names k fresh; due = v.due; sent = v.sent }

  -- peek: the floor is the number that was read
  abbrev pub looked : View E → ℕ → View E
  looked v found = record { spent = v.spent; floor = found; needs = v.needs; other_needs = v.other_needs; names = v.names; due = v.due; sent = v.sent }

  -- one receipt more in the list of a name
  abbrev pub with_receipt : Name E → Receipt E → Name E
  with_receipt n r = record { held = n.held; list = n.list ++ r ∷ []; former = n.former; former_other = n.former_other }

  -- draw: the receipt of the old number ends the part's list and is due, and the floor is the next number
  abbrev pub receipt_of : ℕ → ℕ → E → ℕ → Receipt E
  receipt_of part caller entry stamp = record { part = part; caller = caller; stamp = stamp; entry = entry }

  abbrev pub drawn : View E → ℕ → ℕ → E → ℕ → View E
  drawn v part caller entry stamp =
      record { spent = v.spent; floor = stamp + 1; needs = v.needs; other_needs = v.other_needs; names = slice_set v.names part (with_receipt (name_at v part) (receipt_of part caller entry stamp)); due = Some (receipt_of part caller entry stamp); sent = v.sent }

  -- join: of each name the list of the view that held it, and where neither did the longer one
  abbrev pub merged : Name E → Name E → Name E
  merged a b = record { held = a.held || b.held; list = cond a.held a.list (cond b.held b.list (longer a.list b.list)); former = a.list; former_other = b.list }

  abbrev pub merged_all : List (Name E) → List (Name E) → List (Name E)
  merged_all [] ys = []
  merged_all (x ∷ xs) [] = merged x blank ∷ merged_all xs []
  merged_all (x ∷ xs) (y ∷ ys) = merged x y ∷ merged_all xs ys

  -- join: what was due is due no longer where the other view has it in its caller's list
  abbrev pub due_still : Option (Receipt E) → View E → Option (Receipt E)
  due_still None w = None
  due_still (Some r) w = cond (has_stamp r.stamp (caller_list w r.caller)) None (Some r)

  abbrev pub merged_views : View E → View E → View E
  merged_views v w = record { spent = v.spent; floor = max v.floor w.floor; needs = v.needs; other_needs = w.needs; names = merged_all v.names w.names; due = due_still v.due w; sent = v.sent }

  -- join: where the view holds the caller of the receipt that was sent, and its stamp is above all of that caller's list, that list grows by it
  abbrev pub takes : View E → Receipt E → Bool
  takes v r = (name_at v (caller_name v r.caller)).held && is_above r.stamp (caller_list v r.caller)

  abbrev pub with_own : View E → Receipt E → View E
  with_own v r = record { spent = v.spent; floor = v.floor; needs = v.needs; other_needs = v.other_needs; names = slice_set v.names (caller_name v r.caller) (with_receipt (name_at v (caller_name v r.caller)) r); due = v.due; sent = v.sent }

  abbrev pub grown : View E → Option (Receipt E) → View E
  grown v None = v
  grown v (Some r) = cond (takes v r) (with_own v r) v

  abbrev pub joined : View E → View E → View E
  joined v w = grown (merged_views v w) w.sent
