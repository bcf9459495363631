-- What a word for data says with a count below 2 ^ 32, by what it says below 2 ^ 64.
use Rattle.std.proofs.Common.{◌≡◌, ℕ, ◌^◌, ◌<◌, ◌≤◌, List, Option, Some, None, refl, ap, sym, ◌∙◌, arith}
use Rattle.cs_policy.specs.declared.data.Data.{Data}
use Rattle.cs_policy.specs.declared.data.Data.TheVariants.{Hex, Fill}
use Rattle.pg_words.specs.Data.{data_word, CanWrite}
use Rattle.pg_words.proofs.PieceFacts.{data_again, data_takes}

pub none_unless : {A : Type 0} (o : Option A) → ((x : A) → o ≡ Some x → ⊥) → o ≡ None
none_unless None apart = refl
none_unless (Some x) apart = absurd (apart x refl)

up : (word : List ℕ) (piece : Data) → data_word (2 ^ 64) word ≡ Some piece → CanWrite (2 ^ 32) piece → data_word (2 ^ 32) word ≡ Some piece
up word piece e can =
    let t = data_takes (2 ^ 64) word piece (omega arith) e in
    ap (data_word (2 ^ 32)) t.is ∙ data_again (2 ^ 32) piece (omega arith) can

wider : (piece : Data) → CanWrite (2 ^ 32) piece → CanWrite (2 ^ 64) piece
wider (Hex bytes) can = can
wider (Fill byte count) can = (can.0, omega (arith, can.1))

down : (word : List ℕ) (piece : Data) → data_word (2 ^ 32) word ≡ Some piece → data_word (2 ^ 64) word ≡ Some piece
down word piece e =
    let t = data_takes (2 ^ 32) word piece (omega arith) e in
    ap (data_word (2 ^ 64)) t.is ∙ data_again (2 ^ 64) piece (omega arith) (wider piece t.can)

can_fill : (byte count : ℕ) (limit : ℕ) → CanWrite limit (Fill byte count) → count < limit
can_fill byte count limit can = can.1

pub short_some : (word : List ℕ) (bytes : List ℕ) → data_word (2 ^ 64) word ≡ Some (Hex bytes) → data_word (2 ^ 32) word ≡ Some (Hex bytes)
short_some word bytes e = up word (Hex bytes) e (data_takes (2 ^ 64) word (Hex bytes) (omega arith) e).can

pub short_fill : (word : List ℕ) (byte count : ℕ) → data_word (2 ^ 64) word ≡ Some (Fill byte count) → count < 2 ^ 32 → data_word (2 ^ 32) word ≡ Some (Fill byte count)
short_fill word byte count e lt = up word (Fill byte count) e ((data_takes (2 ^ 64) word (Fill byte count) (omega arith) e).can.0, lt)

pub short_out : (word : List ℕ) (byte count : ℕ) → data_word (2 ^ 64) word ≡ Some (Fill byte count) → 2 ^ 32 ≤ count → data_word (2 ^ 32) word ≡ None
short_out word byte count e ge =
    none_unless (data_word (2 ^ 32) word) (λ piece said.
    let same : Some piece ≡ Some (Fill byte count) = sym (down word piece said) ∙ e in
    let is : piece ≡ Fill byte count = cc in
    let t = data_takes (2 ^ 32) word (Fill byte count) (omega arith) (said ∙ ap (λ (p : Data). Some p) is) in
    absurd (omega (arith, t.can.1)))

pub short_none : (word : List ℕ) → data_word (2 ^ 64) word ≡ None → data_word (2 ^ 32) word ≡ None
short_none word e =
    none_unless (data_word (2 ^ 32) word) (λ piece said. let wrong : Some piece ≡ None = sym (down word piece said) ∙ e in absurd cc)
