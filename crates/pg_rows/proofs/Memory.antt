-- What the functions with a raw pointer share: the values of `Start` and of an owner with no bytes, and a block's
-- places as they are filled and given up. Assumes `Logic`.
use mathlib.Core.Path.{◌≡◌, refl, sym, ap, subst, ◌∙◌}
use Prim.Native.Nat.{ℕ, zero, suc, ◌+◌, ◌*◌, ◌≤◌}
use native.Mathlib.Omega.{arith}
use native.Mathlib.Nat.{zero-mul, suc-mul}
use mathlib.Core.List.{List, [], ◌∷◌, ◌++◌}
use lib.ListN.{length, take, length-take, length-drop, take-append-drop}
use lib.ListN.{drop as drop_l}
use lib.Seq.{drop-drop}
use seplogic.Ra.Ura.{Ura}
use base.Fraction.{full_share}
use mir.Syntax.{Ty, ty_array}
use mir.Raw.{raw as bare}
use mir.Val.{Val, vstruct, vcons, vnil, of_list}
use base.Logic.{ent, sep, emp}
use base.Fml.{Fml, ftrue, fsep, fat, froom}
use types.Logic.{Logic, sem}
use types.SemTy.{cells}
use types.Kit.{Item, Goal, Seq, Step, step, ‵, some, ◌⊛◌, ◌$◌, ◌∵◌, !, qed, by, move, keep, drop, use1, use2, pick, split, rewrite, fsplit, fjoin, fpick, fpack, feq_i, feq_l, done}
use denote.RattleType.{RattleType, Valss}
use denote.Laws.{Typed, Is, shows}
use denote.Param.{param, layout}
use denote.Param.Laws.{Laws, param_laws}
use denote.Memory.{part_at, mem}
use denote.RawPtr.{Ptr, RawPtr, ptr_val}
use denote.Shadow.{makes_shadow}
use denote.Steps.{nothing, peeks}
use denote.Struct.Struct.{Shape, Struct, within}
use denote.Struct.Owning.{shape}
use denote.Struct.Declared as Declared
use denote.Struct.Tuple.{Tuple, tuple_type}
use borrow.Table.OneValue.{part_out, part_in}
use Rattle.std.specs.Mem.{type_size}
use Rattle.core.proofs.mem.Param.{El, R, el_x, elτ}
use Rattle.std_alloc.proofs.RcSteps.{Good, word}
use Rattle.pg_rows.specs.Ownership.{rooms}
use Rattle.pg_rows.specs.contracts.places.Places as P-type
use Rattle.pg_rows.specs.contracts.places.Start as S-type

-- ---- the types of the crate
module _ (E : El) where
  abbrev pub Pl : RattleType
  Pl = P-type.the_row (R E)

  abbrev pub St : RattleType
  St = S-type.the_row (R E)

  -- the one field of an owner, of no bytes
  abbrev pub Mark : RattleType
  Mark = Struct (shape (P-type.the_type (R E)))

  abbrev pub sz : ℕ
  sz = type_size (R E)

-- a struct of one pointer
abbrev one_pointer : Shape
one_pointer = record { name = []; args = []; types = []; fields = RawPtr ∷ [] }

abbrev pub Word : RattleType
Word = Struct one_pointer

abbrev pub mark : Val
mark = vstruct (vcons (vstruct vnil) vnil)

pub mark_made : (E : El) {M : Type 1} {𝓤 : Ura M} (𝓛 : Logic 𝓤) → ent 𝓤 (emp 𝓤) (sem 𝓛 ((Mark E).own_val (tt, tt) (mark ∷ [])))
mark_made E 𝓛 = makes_shadow 𝓛 ((Mark E).own_val (tt, tt) (mark ∷ [])) (λ vss. (tt, ((λ uss. (tt, tt)), tt))) ((vstruct vnil ∷ [], tt), (refl, ((tt, (refl, tt)), tt)))

module _ {M : Type 1} {𝓤 : Ura M} {𝓛 : Logic 𝓤} {K : Type 0} {Γ : List (Item 𝓤)} {G : Goal 𝓤 𝓛.H} where
  pub word_known : K → (p : Ptr) (vs : List Val) → (vs ≡ word p ∷ [] → Seq K 𝓛 Γ G) → Seq K 𝓛 (‵ (Word.own_val (p, tt) vs) ∷ Γ) G
  word_known t p vs k =
      fpick t (λ parts. fsplit t $ feq_l t (λ whole. fsplit t $ feq_l t (λ part. drop t $
      k (subst (λ (us : List Val). vs ≡ vstruct (of_list (us ++ [])) ∷ []) part whole))))

  pub word_made : K → (p : Ptr) → Step K 𝓛 (‵ (Word.own_val (p, tt) (word p ∷ [])) ∷ Γ) G Γ G
  word_made t p = step (λ s.
      nothing t $ feq_i t (List Val) (ptr_val p ∷ []) (ptr_val p ∷ []) refl $ fjoin t $ feq_i t (List Val) (word p ∷ []) (word p ∷ []) refl $ fjoin t $
      fpack t (Valss (RawPtr ∷ [])) (within one_pointer (p, tt) (word p ∷ [])) (ptr_val p ∷ [], tt) $ s)

  pub mark_known : K → (E : El) (vs : List Val) → (vs ≡ mark ∷ [] → Seq K 𝓛 Γ G) → Seq K 𝓛 (‵ ((Mark E).own_val (tt, tt) vs) ∷ Γ) G
  mark_known t E vs k =
      fpick t (λ parts. fsplit t $ feq_l t (λ whole. fsplit t $ fpick t (λ none. fsplit t $ feq_l t (λ part. drop t $ drop t $
      k (subst (λ (us : List Val). vs ≡ vstruct (of_list (us ++ [])) ∷ []) part whole)))))

-- ---- three values in a tuple
abbrev pub triple_val : Val → Val → Val → Val
triple_val u v w = vstruct (vcons u (vcons v (vcons w vnil)))

pub triple_made : {M : Type 1} {𝓤 : Ura M} (𝓛 : Logic 𝓤) (A B C : RattleType) (x : A.Denot) (y : B.Denot) (z : C.Denot) (u v w : Val)
    → ent 𝓤 (sep 𝓤 (sem 𝓛 (A.own_val x (u ∷ []))) (sep 𝓤 (sem 𝓛 (B.own_val y (v ∷ []))) (sem 𝓛 (C.own_val z (w ∷ []))))) (sem 𝓛 ((Tuple (A ∷ B ∷ C ∷ [])).own_val (x, y, z) (triple_val u v w ∷ [])))
triple_made 𝓛 A B C x y z u v w =
    let all = triple_val u v w ∷ [] in
    qed 𝓛 (‵ (A.own_val x (u ∷ [])) ∷ ‵ (B.own_val y (v ∷ [])) ∷ ‵ (C.own_val z (w ∷ [])) ∷ []) ∵
    nothing ! $ move ! (3 ∷ 0 ∷ []) $ fjoin ! $ move ! (2 ∷ 0 ∷ []) $ fjoin ! $ move ! (1 ∷ 0 ∷ []) $ fjoin ! $ feq_i ! (List Val) all all refl $ fjoin ! $
    fpack ! (Valss (A ∷ B ∷ C ∷ [])) (within (Declared.shape (tuple_type (A ∷ B ∷ C ∷ []))) (x, (y, (z, tt))) all) (u ∷ [], (v ∷ [], (w ∷ [], tt))) $ done !

-- ---- one value of the element type
lone_value : (τ : Ty) (vs : List Val) → Typed (τ ∷ []) vs → (v : Val) × ((vs ≡ v ∷ []) × Good τ v)
lone_value τ [] t = absurd t
lone_value τ (v ∷ []) t = (v, (refl, t.0))
lone_value τ (v ∷ w ∷ vs) t = absurd t.1

module _ (Y : RattleType) (L : Laws Y) {M : Type 1} {𝓤 : Ura M} {𝓛 : Logic 𝓤} {K : Type 0} {Γ : List (Item 𝓤)} {G : Goal 𝓤 𝓛.H} where
  -- what is owned of a value tells that it is one machine value of its type
  pub value_known : K → (x : Y.Denot) (vs : List Val) → ((v : Val) → vs ≡ v ∷ [] → Good (layout Y) v → Seq K 𝓛 (‵ (Y.own_val x (v ∷ [])) ∷ Γ) G) → Seq K 𝓛 (‵ (Y.own_val x vs) ∷ Γ) G
  value_known t x vs k =
      peeks t (param 0 Y) (Is (param 0 Y)) (shows 𝓛 (param 0 Y)) x vs (λ is.
      let one = lone_value (layout Y) vs (((param_laws 0 Y L).lawful 𝓛).typed x vs is) in
      rewrite t 0 (λ (us : List Val). ‵ (Y.own_val x us)) one.1.0 refl $ k one.0 one.1.0 one.1.1)

-- ---- a block's places
module _ (E : El) {M : Type 1} {𝓤 : Ura M} (𝓛 : Logic 𝓤) (b : ℕ) where
  open 𝓛 use {H}

  abbrev s : ℕ
  s = sz E

  abbrev τ : Ty
  τ = elτ E

  abbrev Values : List (el_x E) → ℕ → Fml
  Values xs o = cells (mem (R E)) xs b o

  -- a value is put into its place
  pub value_placed : (x : el_x E) (o : ℕ) (v : Val) → ent 𝓤 (sep 𝓤 (H.at full_share τ b o v) (sem 𝓛 (E.row.own_val x (v ∷ [])))) (sem 𝓛 (part_at (R E) full_share x b o))
  value_placed x o v = part_in 𝓛 (R E) refl full_share x b o v

  -- a place is room again: its value is let go
  place_emptied : (x : el_x E) (o : ℕ) → ent 𝓤 (sem 𝓛 (part_at (R E) full_share x b o)) (H.room τ b o)
  place_emptied x o = qed 𝓛 (‵ (part_at (R E) full_share x b o) ∷ []) ∵
      use1 𝓛 (some (λ (v : Val). ‵ (fat full_share τ b o v) ⊛ ‵ (E.row.own_val x (v ∷ [])))) (part_out 𝓛 (R E) refl full_share x b o) $ pick ! (λ v. split ! $ keep ! (0 ∷ []) $
      by ! (𝓛.laws.at_room τ b o v))

  -- a value behind the others
  pub value_joined : (xs : List (el_x E)) (x : el_x E) (o at : ℕ) → at ≡ length xs * s + o
      → ent 𝓤 (sep 𝓤 (sem 𝓛 (Values xs o)) (sem 𝓛 (part_at (R E) full_share x b at))) (sem 𝓛 (Values (xs ++ x ∷ []) o))
  value_joined [] x o at e = qed 𝓛 (‵ ftrue ∷ ‵ (part_at (R E) full_share x b at) ∷ []) ∵ drop ! $
      rewrite ! 0 (λ (k : ℕ). ‵ (part_at (R E) full_share x b k)) {x = o} (omega (arith, zero-mul s)) refl $ nothing ! $ move ! (1 ∷ 0 ∷ []) $ fjoin ! $ done !
  value_joined (y ∷ xs) x o at e = let along : at ≡ suc (length xs) * s + o = e in
      qed 𝓛 (‵ (Values (y ∷ xs) o) ∷ ‵ (part_at (R E) full_share x b at) ∷ []) ∵ fsplit ! $ move ! (1 ∷ 2 ∷ []) $
      use2 𝓛 (‵ (Values (xs ++ x ∷ []) (o + s))) (value_joined xs x (o + s) at (omega (arith, suc-mul (length xs) s))) $ move ! (1 ∷ 0 ∷ []) $ fjoin ! $ done !

  -- a row of values is cut in two, and joined
  values_cut : (xs ys : List (el_x E)) (o at : ℕ) → at ≡ length xs * s + o → ent 𝓤 (sem 𝓛 (Values (xs ++ ys) o)) (sep 𝓤 (sem 𝓛 (Values xs o)) (sem 𝓛 (Values ys at)))
  values_cut [] ys o at e = qed 𝓛 (‵ (Values ys o) ∷ []) ∵ rewrite ! 0 (λ (k : ℕ). ‵ (Values ys k)) {x = at} (omega (arith, zero-mul s)) refl $ nothing ! $ done !
  values_cut (x ∷ xs) ys o at e = let along : at ≡ suc (length xs) * s + o = e in
      qed 𝓛 (‵ (Values (x ∷ xs ++ ys) o) ∷ []) ∵ fsplit ! $ move ! (1 ∷ []) $
      use1 𝓛 (‵ (Values xs (o + s)) ⊛ ‵ (Values ys at)) (values_cut xs ys (o + s) at (omega (arith, suc-mul (length xs) s))) $ split ! $ move ! (2 ∷ 0 ∷ []) $ fjoin ! $ done !

  values_glued : (xs ys : List (el_x E)) (o at : ℕ) → at ≡ length xs * s + o → ent 𝓤 (sep 𝓤 (sem 𝓛 (Values xs o)) (sem 𝓛 (Values ys at))) (sem 𝓛 (Values (xs ++ ys) o))
  values_glued [] ys o at e = qed 𝓛 (‵ ftrue ∷ ‵ (Values ys at) ∷ []) ∵ drop ! $ rewrite ! 0 (λ (k : ℕ). ‵ (Values ys k)) {x = o} (omega (arith, zero-mul s)) refl $ done !
  values_glued (x ∷ xs) ys o at e = let along : at ≡ suc (length xs) * s + o = e in
      qed 𝓛 (‵ (Values (x ∷ xs) o) ∷ ‵ (Values ys at) ∷ []) ∵ fsplit ! $ move ! (1 ∷ 2 ∷ []) $
      use2 𝓛 (‵ (Values (xs ++ ys) (o + s))) (values_glued xs ys (o + s) at (omega (arith, suc-mul (length xs) s))) $ move ! (1 ∷ 0 ∷ []) $ fjoin ! $ done !

  module _ (xs : List (el_x E)) (from len o : ℕ) (le : from + len ≤ length xs) where
    abbrev part_at_o : ℕ
    part_at_o = from * s + o

    abbrev rest_at : ℕ
    rest_at = len * s + part_at_o

    -- the values but for a part
    abbrev pub Beside : Fml
    Beside = fsep (Values (take from xs) o) (Values (drop_l (from + len) xs) rest_at)

    front : part_at_o ≡ length (take from xs) * s + o
    front = let long : from ≡ length (take from xs) = omega (arith, length-take from xs, le) in ap (λ k. k * s + o) long

    pub part_taken : ent 𝓤 (sem 𝓛 (Values xs o)) (sep 𝓤 (sem 𝓛 (Values (take len (drop_l from xs)) part_at_o)) (sem 𝓛 Beside))
    part_taken =
        let part = take len (drop_l from xs) in let rest = drop_l (from + len) xs in
        let long : len ≡ length part = omega (arith, length-take len (drop_l from xs), length-drop from xs, le) in
        let whole : xs ≡ take from xs ++ (part ++ rest) =
        sym (take-append-drop from xs) ∙ ap (λ l. take from xs ++ l) (sym (take-append-drop len (drop_l from xs)) ∙ ap (λ l. part ++ l) (drop-drop len from xs)) in
        qed 𝓛 (‵ (Values xs o) ∷ []) ∵ rewrite ! 0 (λ (l : List (el_x E)). ‵ (Values l o)) whole refl $
        use1 𝓛 (‵ (Values (take from xs) o) ⊛ ‵ (Values (part ++ rest) part_at_o)) (values_cut (take from xs) (part ++ rest) o part_at_o front) $ split ! $ move ! (1 ∷ []) $
        use1 𝓛 (‵ (Values part part_at_o) ⊛ ‵ (Values rest rest_at)) (values_cut part rest part_at_o rest_at (ap (λ k. k * s + part_at_o) long)) $ split ! $
        move ! (2 ∷ 1 ∷ []) $ fjoin ! $ move ! (1 ∷ []) $ done !

    pub part_put : (ws : List (el_x E)) → len ≡ length ws
        → ent 𝓤 (sep 𝓤 (sem 𝓛 (Values ws part_at_o)) (sem 𝓛 Beside)) (sem 𝓛 (Values (take from xs ++ (ws ++ drop_l (from + len) xs)) o))
    part_put ws long = let rest = drop_l (from + len) xs in
        qed 𝓛 (‵ (Values ws part_at_o) ∷ ‵ Beside ∷ []) ∵ move ! (1 ∷ []) $ fsplit ! $ move ! (2 ∷ 1 ∷ []) $
        use2 𝓛 (‵ (Values (ws ++ rest) part_at_o)) (values_glued ws rest part_at_o rest_at (ap (λ k. k * s + part_at_o) long)) $ move ! (1 ∷ 0 ∷ []) $
        by ! (values_glued (take from xs) (ws ++ rest) o part_at_o front)

  -- room for an array is so many empty places, and the way back, whatever they hold
  pub room_cut : (n o : ℕ) → ent 𝓤 (H.room (ty_array τ n) b o) (sem 𝓛 (rooms (R E) b o n))
  room_cut zero o = qed 𝓛 (‵ (froom (ty_array τ 0) b o) ∷ []) ∵ keep ! [] $ done !
  room_cut (suc n) o = qed 𝓛 (‵ (froom (ty_array τ (suc n)) b o) ∷ []) ∵
      use1 𝓛 (‵ (froom τ b o) ⊛ ‵ (froom (ty_array τ n) b (o + s))) (𝓛.laws.room_uncons τ n b o) $ split ! $ move ! (1 ∷ []) $
      use1 𝓛 (‵ (rooms (R E) b (o + s) n)) (room_cut n (o + s)) $ move ! (1 ∷ []) $ use1 𝓛 (‵ (froom (bare τ) b o)) (𝓛.laws.room-raw τ b o) $ fjoin ! $ done !

  room_joined : (n o : ℕ) → ent 𝓤 (sem 𝓛 (rooms (R E) b o n)) (H.room (ty_array τ n) b o)
  room_joined zero o = 𝓛.laws.room_nil τ b o
  room_joined (suc n) o = qed 𝓛 (‵ (rooms (R E) b o (suc n)) ∷ []) ∵ fsplit ! $
      use1 𝓛 (‵ (froom τ b o)) (𝓛.laws.raw-room τ b o) $ move ! (1 ∷ []) $ use1 𝓛 (‵ (froom (ty_array τ n) b (o + s))) (room_joined n (o + s)) $ move ! (1 ∷ []) $
      by ! (𝓛.laws.room_cons τ n b o)

  pub block_joined : (xs : List (el_x E)) (n o at : ℕ) → at ≡ length xs * s + o
      → ent 𝓤 (sep 𝓤 (sem 𝓛 (Values xs o)) (sem 𝓛 (rooms (R E) b at n))) (H.room (ty_array τ (length xs + n)) b o)
  block_joined [] n o at e = let here : at ≡ o = omega (arith, zero-mul s) in let all : n ≡ 0 + n = omega arith in
      qed 𝓛 (‵ ftrue ∷ ‵ (rooms (R E) b at n) ∷ []) ∵ drop ! $ rewrite ! 0 (λ (k : ℕ). ‵ (rooms (R E) b k n)) here refl $
      use1 𝓛 (‵ (froom (ty_array τ n) b o)) (room_joined n o) $ rewrite ! 0 (λ (k : ℕ). ‵ (froom (ty_array τ k) b o)) all refl $ done !
  block_joined (x ∷ xs) n o at e = let along : at ≡ suc (length xs) * s + o = e in let all : suc (length xs + n) ≡ suc (length xs) + n = omega arith in
      qed 𝓛 (‵ (Values (x ∷ xs) o) ∷ ‵ (rooms (R E) b at n) ∷ []) ∵ fsplit ! $ move ! (1 ∷ 2 ∷ []) $
      use2 𝓛 (‵ (froom (ty_array τ (length xs + n)) b (o + s))) (block_joined xs n (o + s) at (omega (arith, suc-mul (length xs) s))) $ move ! (1 ∷ []) $
      use1 𝓛 (‵ (froom τ b o)) (place_emptied x o) $ move ! (0 ∷ 1 ∷ []) $ use2 𝓛 (‵ (froom (ty_array τ (suc (length xs + n))) b o)) (𝓛.laws.room_cons τ (length xs + n) b o) $
      rewrite ! 0 (λ (k : ℕ). ‵ (froom (ty_array τ k) b o)) all refl $ done !
