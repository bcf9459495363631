-- `slice_mut` lends a part of the values, and the owner of the places follows them. Assumes `Logic`.
use mathlib.Core.Path.{◌≡◌, refl, sym, ap, subst, ◌∙◌}
use Prim.Native.Nat.{ℕ, ◌+◌, ◌*◌, ◌≤◌, ◌<◌, ◌^◌}
use native.Mathlib.Omega.{arith}
use mathlib.Core.List.{List, [], ◌∷◌, ◌++◌}
use lib.ListN.{length, take, length-take, length-drop, length-append}
use lib.ListN.{drop as drop_l}
use lib.Seq.{take_at as take_front}
use seplogic.Ra.Ura.{Ura}
use base.Fraction.{full_share}
use mir.Syntax.{Fn, named, w64}
use mir.MapTy.{inst_fn}
use mir.Val.{Val, vptr, vint}
use base.Logic.{SProp, ent, sep, never, id⊢}
use base.Fml.{Lft, GName, Share, Fml, ftrue, fsep, fat, flft, fobs, fbor}
use prog.Wp.{Env, Calls, Loops, WpFn, Tables}
use types.Logic.{Logic, sem}
use types.SemTy.{Body as Borrowed, cells}
use contract.Monad.{fact}
use contract.Running.{tables, tables_of}
use sound.WpLaws.{WpFn-mono}
use types.Kit.{Item, ⋆, ‵, raw, ◌⊛◌, some, later, await, pick, at_ret, ◌$◌, ◌∵◌, !, qed, by, move, keep, use1, use2, split, join, group, rewrite, fsplit, fsplit3, fjoin, fjoin3, fpack, feq_l, flt_l, flt_i, suffices, frame, done}
use types.Part.{whole, sub, agg}
use types.Run.{stop, fld, of_opd, and_then, no_more, first, blocks, exec, returns, enter, bin, size_word}
use types.ByLocal.{alloc_all, pass_all, free_all, look_at, get, get_in, sets, sets_last, is, env, take_at, give_at}
use denote.Array.{Array}
use denote.Exit.{no}
use denote.Follow.{follows}
use denote.FollowSlice.{Elements, lends_Elements}
use denote.RattleType.{owns}
use denote.Memory.{mem, cell_at, part_of}
use denote.Param.{layout}
use denote.RawPtr.{Ptr, block_ptr, in_a_block}
use denote.Ref.{MutBor, MutRef}
use denote.Builtin.{RefMutOf, usize, SliceRefMutOf}
use denote.Signature.{plain, mut_ref_to}
use denote.Slice.{MutSlice, slice_val}
use denote.Steps.{nothing, opens}
use denote.Triple.Carry.{spared}
use denote.Triple.Clauses.{Clauses, Ended, closing}
use denote.Triple.Entry.{on_entry}
use denote.Triple.Spec.{Meets, triple_of}
use denote.Triple.Table.{entered, run_framed}
use denote.Triple.Walked.{says, needs, Stays, stay_dropped, walk_of, ends_at, Goes-dropped, Goes-spent_ref, walk_Meets}
use Rattle.std.specs.List.{refill}
use Rattle.core.proofs.mem.Param.{El, R, args, el_x}
use Rattle.core.proofs.ptr.Rows.{times_below}
use Rattle.core.proofs.slots.Leases.{uncapped}
use Rattle.std_alloc.proofs.RcSteps.{word, word-Good}
use Rattle.std_alloc.proofs.VecSteps.Shapes.{after}
use Rattle.pg_rows.specs.Lends.{with_items}
use Rattle.pg_rows.specs.Ownership.{rooms, places_own}
use Rattle.pg_rows.proofs.Memory.{Pl, St, Mark, sz, word_known, Beside, part_taken, part_put}
use Rattle.pg_rows.specs.contracts.places.Places.slice_mut.Key.{name as #self}
use Rattle.pg_rows.proofs.places.Places.slice_mut.Statement as stated
use Rattle.pg_rows.proofs.places.Places.slice_mut.Code as code

part_long : {X : Type 0} (from len : ℕ) (xs : List X) → from + len ≤ length xs → length (take len (drop_l from xs)) ≡ len
part_long from len xs le = omega (arith, length-take len (drop_l from xs), length-drop from xs, le)

with_part_long : {X : Type 0} (from len : ℕ) (xs ws : List X) → from + len ≤ length xs → length ws ≡ len → length (take from xs ++ (ws ++ drop_l (from + len) xs)) ≡ length xs
with_part_long from len xs ws le long = let rest = drop_l (from + len) xs in
    omega (arith, length-append (take from xs) (ws ++ rest), length-append ws rest, length-take from xs, length-drop (from + len) xs, le, long)

module _ (E : El) where
  abbrev function : Fn
  function = inst_fn (args E) code.function

  abbrev ended : Ended
  ended = record {
    signature = record { lifetimes = 1; outlives = []; params = RefMutOf (0 ∷ []) tt (plain (λ _. Pl E)) (λ _. tt) ∷ plain (λ _. St E) ∷ plain (λ _. usize) ∷ plain (λ _. usize) ∷ []; result = SliceRefMutOf (0 ∷ []) tt (plain (λ _. R E)) (λ _. tt) };
    kept = (no, (no, (no, (no, tt))));
  }

  abbrev stayed : Stays ended.signature.params ended.kept
  stayed = (stay_dropped (mut_ref_to (0 ∷ []) tt (plain (λ _. Pl E))) no, (stay_dropped (plain (λ _. St E)) no, (stay_dropped (plain (λ _. usize)) no, (stay_dropped (plain (λ _. usize)) no, tt))))

  abbrev Asks : (Pl E).Denot → (St E).Denot → ℕ → ℕ → Type 0
  Asks d start from len = (start.ptr ≡ d.at) × (from + len ≤ length d.items)

  abbrev spec : {M : Type 1} {𝓤 : Ura M} (𝓛 : Logic 𝓤) → Clauses 𝓤 ended
  spec {𝓤 = 𝓤} 𝓛 κs a = record {
    ghost = Unit {0};
    requires = λ _. fact 𝓤 (Asks a.0.now a.1.0 a.1.1.0 a.1.1.1.0);
    ensures = λ _ r w. sep 𝓤 (sem 𝓛 (follows (Pl E) (Array (R E) 0) a.0.ghost_name r.ghost_name (with_items a.0.now a.1.1.0 a.1.1.1.0))) (fact 𝓤 (r.now ≡ take a.1.1.1.0 (drop_l a.1.1.0 a.0.now.items)));
  }

module _ (E : El) {M : Type 1} {𝓤 : Ura M} (𝓛 : Logic 𝓤) (C : Calls 𝓤 𝓛.H) (Λ : Loops 𝓤 𝓛.H)
    (κ : Lft) (q : Share) (rb ro : ℕ) (γ : GName) (d : (Pl E).Denot) (start : (St E).Denot) (from len : ℕ) (us0 us1 us2 us3 : List Val) where
  open 𝓛 use {H, A}

  abbrev self : MutBor (Pl E).Denot
  self = record { ref_ptr = (rb, ro); ghost_name = γ; now = d }

  abbrev bound : (walk_of 𝓛 (ended E) (stayed E) (spec E 𝓛)).Ghost
  bound = (((κ, tt), (q, tt), tt, (self, (start, (from, (len, tt)))), (us0, (us1, (us2, (us3, tt))))), tt)

  abbrev Post : Val → SProp 𝓤
  Post = (walk_of 𝓛 (ended E) (stayed E) (spec E 𝓛)).post bound

  abbrev n : ℕ
  n = length d.items

  -- the part that is lent
  abbrev part : List (el_x E)
  part = take len (drop_l from d.items)

  abbrev new : List (el_x E) → (Pl E).Denot
  new = with_items d from len

  module _ (vs : List Val) (b o : ℕ) (le : from + len ≤ n) where
    -- the owner, but for the part
    abbrev Rest : Fml
    Rest = fsep (Beside E 𝓛 b d.items from len o le) (fsep (rooms (R E) b (n * sz E + o) d.empty) (fsep ((Mark E).own_val (tt, tt) vs) (cell_at full_share (Pl E).mir vs rb ro)))

    -- with another part, as long, it is whole again
    back : d.at ≡ block_ptr b o → (n + d.empty) * sz E < 2 ^ 63 → (ws : List (el_x E)) → length ws ≡ length part
        → ent 𝓤 (sep 𝓤 (sem 𝓛 (cells (mem (R E)) ws b (from * sz E + o))) (sem 𝓛 Rest)) (sem 𝓛 ((mem (Pl E)).own_at (new ws) rb ro))
    unfolding part_of
    back e small ws same =
        let count : length ws ≡ len = same ∙ part_long from len d.items le in
        let all : refill len part ws ≡ ws = take_front ws (drop_l (length ws) part) len count in
        let long : n ≡ length (new ws).items = sym (with_part_long from len d.items (refill len part ws) le (ap length all ∙ count)) in
        qed 𝓛 (‵ (cells (mem (R E)) ws b (from * sz E + o)) ∷ ‵ Rest ∷ []) ∵ move ! (1 ∷ []) $ fsplit ! $ move ! (2 ∷ 0 ∷ []) $
        rewrite ! 0 (λ (xs : List (el_x E)). ‵ (cells (mem (R E)) xs b (from * sz E + o))) (sym all) refl $
        use2 𝓛 (‵ (cells (mem (R E)) (new ws).items b o)) (part_put E 𝓛 b d.items from len o le (refill len part ws) (sym (ap length all ∙ count))) $
        move ! (1 ∷ []) $ fsplit3 ! $ move ! (3 ∷ []) $
        rewrite ! 1 (λ (k : ℕ). ‵ (rooms (R E) b (k * sz E + o) d.empty)) long refl $ fjoin ! $
        flt_i ! ((length (new ws).items + d.empty) * sz E) (2 ^ 63) (subst (λ k. (k + d.empty) * sz E < 2 ^ 63) long small) $ fjoin ! $
        rewrite ! 0 (λ (p : Ptr). ‵ (places_own (R E) p (new ws).items d.empty)) (sym e) refl $ move ! (1 ∷ 0 ∷ []) $ fjoin ! $ move ! (1 ∷ 0 ∷ []) $ fjoin ! $
        fpack ! (List Val) (λ us. fsep (cell_at full_share (Pl E).mir us rb ro) ((Pl E).own_val (new ws) us)) vs $ done !

  exits : (v : Val) (r : MutBor (List (el_x E))) → r.now ≡ part
      → ent 𝓤 (sep 𝓤 (sem 𝓛 ((MutSlice (named 0) κ (R E)).own_val r (v ∷ []))) (sep 𝓤 (A.lft κ q) (sem 𝓛 (follows (Pl E) (Array (R E) 0) γ r.ghost_name new)))) (Post v)
  exits v r same =
      qed 𝓛 (‵ ((MutSlice (named 0) κ (R E)).own_val r (v ∷ [])) ∷ ‵ (flft κ q) ∷ ‵ (follows (Pl E) (Array (R E) 0) γ r.ghost_name new) ∷ []) ∵
      suffices ! _ (ends_at 𝓛 (ended E) (stayed E) (spec E 𝓛) bound v r (tt, (tt, (tt, (tt, tt)))) (tt, (tt, (tt, (tt, tt))))) $
      nothing ! $ nothing ! $ fjoin ! $ nothing ! $ fjoin ! $ nothing ! $ fjoin ! $ nothing ! $ fjoin ! $ join ! $ nothing ! $ move ! (2 ∷ 0 ∷ []) $ join ! $ join ! $ frame ! $ says ! same $ done !

  abbrev Had : List (Item 𝓤)
  Had = ‵ (fobs γ ((Pl E).coded.code d)) ∷ ‵ (fbor κ (Borrowed (mem (Pl E)) rb ro γ)) ∷ ‵ (flft κ q) ∷ []

  abbrev passed : List Val
  passed = vptr rb ro ∷ word start.ptr ∷ vint w64 from ∷ vint w64 len ∷ []

  walk : Asks E d start from len → from < 2 ^ 64 → len < 2 ^ 64 → ent 𝓤 (⋆ 𝓛 Had) (WpFn 𝓤 H C Λ (function E) passed Post)
  walk asked fits_from fits_len =
      let code = (Pl E).coded.code d in let le = asked.1 in let long : length part ≡ len = part_long from len d.items le in
      qed 𝓛 Had ∵ enter ! C Λ (function E) passed _ $
      alloc_all ! (λ l. pass_all ! refl ((tt, tt), (word-Good [] start.ptr, ((tt, record { fits = fits_from }), ((tt, record { fits = fits_len }), tt)))) $
      let En : Env 𝓤 H = env (function E).locals l in
      opens ! tt (Pl E) {h = d} rb ro (λ vs. move ! (1 ∷ []) $ fsplit ! $ move ! (1 ∷ []) $
      in_a_block ! d.at (λ p. places_own (R E) p d.items d.empty) (id⊢ 𝓤 (never 𝓤)) (λ b o e. fsplit ! $ flt_l ! (λ small.
      let s = sz E in let at = from * s + o in
      let far : from * s < 2 ^ 64 = omega (arith, times_below from (n + d.empty) s (2 ^ 63) (omega (arith, le)) small) in
      let way = back vs b o le e small in
      let room : length part < 2 ^ 64 = subst (λ k. k < 2 ^ 64) (sym long) fits_len in
      let fitting : length part * s < 2 ^ 63 = times_below (length part) (n + d.empty) s (2 ^ 63) (omega (arith, le, long)) small in
      let Lent = Elements 𝓛 (Pl E) (R E) new (named 0) κ q rb ro b at γ part (room, fitting) (sem 𝓛 (Rest vs b o le)) way in
      take_at ! 2 $ rewrite ! 0 (λ (p : Ptr). ‵ (fat full_share (layout (St E)) (l 2) 0 (word p))) (asked.0 ∙ e) refl $ give_at ! 2 $ first ! $ blocks ! $
      sets ! (is ! (bin ! (get ! refl) (size_word !) (record { fits = subst (λ (k : ℕ). k < 2 ^ 64) (sym (uncapped from s far)) far })) (ap (vint w64) (uncapped from s far))) refl (tt, record { fits = far }) $
      sets ! (bin ! (get_in ! (fld ! refl (stop !)) (sub ! 0 refl (whole !))) (get ! refl) tt) refl (tt, tt) $
      fsplit ! $ use1 𝓛 (‵ (cells (mem (R E)) part b at) ⊛ ‵ (Beside E 𝓛 b d.items from len o le)) (part_taken E 𝓛 b d.items from len o le) $ split ! $
      sets_last ! (agg ! (and_then ! (get ! refl) (and_then ! (get ! refl) (no_more !)))) refl (tt, (tt, (record { fits = fits_len }, tt))) $
      exec ! C Λ En (after 1 (function E).body) (at_ret En Post) $ sets ! (of_opd ! (get ! refl)) refl (tt, (tt, (record { fits = fits_len }, tt))) $
      -- [the part; the other values; the room; the mark; its cell; the open borrow, in three entries]
      move ! (2 ∷ 3 ∷ 4 ∷ []) $ fjoin3 ! $ move ! (2 ∷ 0 ∷ []) $ fjoin ! $ move ! (2 ∷ 3 ∷ 4 ∷ 1 ∷ 0 ∷ []) $ group ! 5 $
      use1 𝓛 (later (some (λ (δ : GName). raw (Lent δ))))
      (lends_Elements 𝓛 (Pl E) (R E) new (named 0) κ q rb ro b at γ part (room, fitting) (sem 𝓛 (Rest vs b o le)) way code code) $ await ! tt $ pick ! (λ δ.
      let r : MutBor (List (el_x E)) = record { ref_ptr = (b, at); ghost_name = δ; now = part } in
      returns ! (look_at ! 0 refl) $ free_all ! refl $ keep ! (0 ∷ []) $
      by ! (subst (λ (k : ℕ). ent 𝓤 (Lent δ) (Post (slice_val (b, at) k))) long (exits (slice_val (b, at) (length part)) r refl)))))))

  entry : Asks E d start from len → ent 𝓤 (on_entry 𝓛 (ended E).signature (κ, tt) (q, tt) (self, (start, (from, (len, tt)))) (us0, (us1, (us2, (us3, tt))))) (WpFn 𝓤 H C Λ (function E) (us0 ++ (us1 ++ (us2 ++ (us3 ++ [])))) Post)
  entry asked =
      qed 𝓛 ((‵ (flft κ q) ⊛ ‵ ftrue) ∷ ‵ (owns (MutRef (named 0) κ (Pl E) ∷ St E ∷ usize ∷ usize ∷ []) (self, (start, (from, (len, tt)))) (us0, (us1, (us2, (us3, tt))))) ∷ []) ∵
      split ! $ move ! (2 ∷ []) $ fsplit ! $ fsplit3 ! $ feq_l ! (λ e0. move ! (2 ∷ []) $ fsplit ! $ word_known ! start.ptr us1 (λ e1.
      fsplit ! $ fsplit ! $ feq_l ! (λ e2. flt_l ! (λ fits_from. fsplit ! $ fsplit ! $ feq_l ! (λ e3. flt_l ! (λ fits_len. keep ! (1 ∷ 2 ∷ 3 ∷ []) $
      by ! (subst (λ (us : List Val × List Val × List Val × List Val). ent 𝓤 (⋆ 𝓛 Had) (WpFn 𝓤 H C Λ (function E) (us.0 ++ (us.1 ++ (us.2 ++ (us.3 ++ [])))) Post))
      (λ j. (sym e0 j, sym e1 j, sym e2 j, sym e3 j)) (walk asked fits_from fits_len))))))))

meets : (E : El) {M : Type 1} {𝓤 : Ura M} (𝓛 : Logic 𝓤) (𝓣 : Tables 𝓤 𝓛.H) → Meets 𝓛 (ended E).signature (WpFn 𝓤 𝓛.H 𝓣.C 𝓣.Λ (function E)) (closing 𝓛 (ended E) (spec E 𝓛))
meets E {𝓤 = 𝓤} 𝓛 𝓣 =
    walk_Meets 𝓛 (ended E) (stayed E)
    (Goes-spent_ref 𝓛 1 (0 ∷ []) tt (plain (λ _. Pl E)), (Goes-dropped 𝓛 1 (plain (λ _. St E)) no (λ κs x f. refl), (Goes-dropped 𝓛 1 (plain (λ _. usize)) no (λ κs x f. refl), (Goes-dropped 𝓛 1 (plain (λ _. usize)) no (λ κs x f. refl), tt))))
    (spec E 𝓛) (WpFn 𝓤 𝓛.H 𝓣.C 𝓣.Λ (function E)) (WpFn-mono 𝓤 𝓛.H 𝓛.laws 𝓣 (function E))
    (λ z. let a = z.0.3 in let vss = z.0.4 in needs 𝓤 (Asks E a.0.now a.1.0 a.1.1.0 a.1.1.1.0) _
    (entry E 𝓛 𝓣.C 𝓣.Λ z.0.0.0 z.0.1.0 a.0.ref_ptr.0 a.0.ref_ptr.1 a.0.ghost_name a.0.now a.1.0 a.1.1.0 a.1.1.1.0 vss.0 vss.1.0 vss.1.1.0 vss.1.1.1.0))

pub slice_mut_spec : {M : Type 1} → stated.statement M
unfolding tables_of
slice_mut_spec 𝓤 𝓛 𝓜 𝓡 wired X LX y =
    let E : El = record { row = X; laws = LX } in
    let 𝓣 : Tables 𝓤 𝓛.H = tables_of 𝓤 𝓛.H 𝓜 (tables 𝓤 𝓛.H 𝓜 𝓡 𝓡.env) in
    let k = #self (args E) in
    spared 𝓛 (ended E).signature (𝓡.run (𝓡.env k)) (run_framed 𝓤 𝓛.H 𝓜 𝓡 (𝓡.env k)) 1 (X.lives, tt) (closing 𝓛 (ended E) (spec E 𝓛))
    (entered 𝓤 𝓛.H (triple_of 𝓛 (ended E).signature (closing 𝓛 (ended E) (spec E 𝓛))) 𝓣.C 𝓣.Λ k (function E) (code.unfolded 𝓤 𝓛.H 𝓜 𝓡 wired (X, tt)) (meets E 𝓛 𝓣))
    ((y.0.0, y.0.1, tt, y.0.3, y.0.4), y.1)
