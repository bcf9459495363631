-- What so many words say, each of the form of its column, or none where one is not or the number is another.
use Rattle.std.specs.Prelude.{List, [], ◌∷◌, ℕ, if◌then◌else◌, bytes_eq, Option, Some, None, option_map, option_and_then}

-- the form of a column: what a word says
abbrev pub Form : Type 0 → Type 0
Form A = List ℕ → Option A

-- the second step, where the first one says something
infixl 10 ◌>>=◌
abbrev pub ◌>>=◌ : {A B : Type 0} → Option A → (A → Option B) → Option B
o >>= f = option_and_then f o

abbrev pub row0 : {X : Type 0} → X → List (List ℕ) → Option X
row0 made [] = Some made
row0 made (x ∷ words) = None

abbrev pub row1 : {A X : Type 0} → Form A → (A → X) → List (List ℕ) → Option X
row1 a make (x ∷ []) = option_map make (a x)
row1 a make _ = None

abbrev pub row2 : {A B X : Type 0} → Form A → Form B → (A → B → X) → List (List ℕ) → Option X
row2 a b make (x ∷ y ∷ []) = do
  x ← a x
  y ← b y
  Some (make x y)
row2 a b make _ = None

abbrev pub row3 : {A B C X : Type 0} → Form A → Form B → Form C → (A → B → C → X) → List (List ℕ) → Option X
row3 a b c make (x ∷ y ∷ z ∷ []) = do
  x ← a x
  y ← b y
  z ← c z
  Some (make x y z)
row3 a b c make _ = None

abbrev pub row4 : {A B C D X : Type 0} → Form A → Form B → Form C → Form D → (A → B → C → D → X) → List (List ℕ) → Option X
row4 a b c d make (x ∷ y ∷ z ∷ w ∷ []) = do
  x ← a x
  y ← b y
  z ← c z
  w ← d w
  Some (make x y z w)
row4 a b c d make _ = None

abbrev pub row5 : {A B C D E X : Type 0} → Form A → Form B → Form C → Form D → Form E → (A → B → C → D → E → X) → List (List ℕ) → Option X
row5 a b c d e make (x ∷ y ∷ z ∷ w ∷ v ∷ []) = do
  x ← a x
  y ← b y
  z ← c z
  w ← d w
  v ← e v
  Some (make x y z w v)
row5 a b c d e make _ = None

abbrev pub row6 : {A B C D E F X : Type 0} → Form A → Form B → Form C → Form D → Form E → Form F → (A → B → C → D → E → F → X) → List (List ℕ) → Option X
row6 a b c d e f make (x ∷ y ∷ z ∷ w ∷ v ∷ u ∷ []) = do
  x ← a x
  y ← b y
  z ← c z
  w ← d w
  v ← e v
  u ← f u
  Some (make x y z w v u)
row6 a b c d e f make _ = None

abbrev pub row7 : {A B C D E F G X : Type 0} → Form A → Form B → Form C → Form D → Form E → Form F → Form G → (A → B → C → D → E → F → G → X) → List (List ℕ) → Option X
row7 a b c d e f g make (x ∷ y ∷ z ∷ w ∷ v ∷ u ∷ t ∷ []) = do
  x ← a x
  y ← b y
  z ← c z
  w ← d w
  v ← e v
  u ← f u
  t ← g t
  Some (make x y z w v u t)
row7 a b c d e f g make _ = None

-- the first of a list whose text is this word
abbrev pub named : {A : Type 0} → (A → List ℕ) → List A → List ℕ → Option A
named text [] word = None
named text (first ∷ others) word = if bytes_eq word (text first) then Some first else named text others word
