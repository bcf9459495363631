-- Tables of lines. A column tells how its values are printed and what a word says there. A row has its columns once: from
-- them both come, the words of a value that has these columns, and what words say.
use Rattle.std.specs.Prelude.{ℕ, List, [], ◌∷◌, Option}
use Rattle.pg_words.specs.Rows.{Form, row0, row1, row2, row3, row4, row5, row6, row7}

pub record Column (A : Type 0) : Type 0 where
  pub text : A → List ℕ
  pub form : Form A

-- values `V` of the columns make one of `X`
pub record Row (V X : Type 0) : Type 0 where
  pub words : V → List (List ℕ)
  pub says : List (List ℕ) → Option X

abbrev pub no_columns : {X : Type 0} → X → Row (Unit {0}) X
no_columns made = record { words = λ v. []; says = λ words. row0 made words }

abbrev pub columns1 : {A X : Type 0} → Column A → (A → X) → Row A X
columns1 a make = record { words = λ v. a.text v ∷ []; says = λ words. row1 a.form make words }

abbrev pub columns2 : {A B X : Type 0} → Column A → Column B → (A → B → X) → Row (A × B) X
columns2 a b make = record { words = λ v. a.text v.0 ∷ b.text v.1 ∷ []; says = λ words. row2 a.form b.form make words }

abbrev pub columns3 : {A B C X : Type 0} → Column A → Column B → Column C → (A → B → C → X) → Row (A × B × C) X
columns3 a b c make =
    record { words = λ v. a.text v.0 ∷ b.text v.1 ∷ c.text v.2 ∷ []; says = λ words. row3 a.form b.form c.form make words }

abbrev pub columns4 : {A B C D X : Type 0} → Column A → Column B → Column C → Column D → (A → B → C → D → X) → Row (A × B × C × D) X
columns4 a b c d make = record {
  words = λ v. a.text v.0 ∷ b.text v.1 ∷ c.text v.2 ∷ d.text v.3 ∷ [];
  says = λ words. row4 a.form b.form c.form d.form make words;
}

abbrev pub columns5 : {A B C D E X : Type 0} → Column A → Column B → Column C → Column D → Column E → (A → B → C → D → E → X) → Row (A × B × C × D × E) X
columns5 a b c d e make = record {
  words = λ v. a.text v.0 ∷ b.text v.1 ∷ c.text v.2 ∷ d.text v.3 ∷ e.text v.4 ∷ [];
  says = λ words. row5 a.form b.form c.form d.form e.form make words;
}

abbrev pub columns6 : {A B C D E F X : Type 0} → Column A → Column B → Column C → Column D → Column E → Column F → (A → B → C → D → E → F → X) → Row (A × B × C × D × E × F) X
columns6 a b c d e f make = record {
  words = λ v. a.text v.0 ∷ b.text v.1 ∷ c.text v.2 ∷ d.text v.3 ∷ e.text v.4 ∷ f.text v.5 ∷ [];
  says = λ words. row6 a.form b.form c.form d.form e.form f.form make words;
}

abbrev pub columns7 : {A B C D E F G X : Type 0} → Column A → Column B → Column C → Column D → Column E → Column F → Column G → (A → B → C → D → E → F → G → X) → Row (A × B × C × D × E × F × G) X
columns7 a b c d e f g make = record {
  words = λ v. a.text v.0 ∷ b.text v.1 ∷ c.text v.2 ∷ d.text v.3 ∷ e.text v.4 ∷ f.text v.5 ∷ g.text v.6 ∷ [];
  says = λ words. row7 a.form b.form c.form d.form e.form f.form g.form make words;
}
