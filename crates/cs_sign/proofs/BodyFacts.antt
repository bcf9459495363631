-- What is written into the bytes that are signed.
use Rattle.std.proofs.Common.{◌≡◌, ℕ, ◌+◌, ◌-◌, ◌≤◌, List, ◌++◌, length, drop, refl, arith, length-drop}
use Rattle.std.proofs.lemmas.List.{take_rest, drop-drop, drop_all, append-nil, length-append, length-take-le}
use borrow.Rule.Slice.PartMut.{put_mid, mid_of}
use Rattle.cs_sign.specs.Body.{put, word_bytes, long_bytes}

-- a write at the front of all bytes from a place on
pub put_written : (bytes field new : List ℕ) (at : ℕ) → new ≡ field ++ drop (length field) (mid_of at (length bytes - at) bytes) → put_mid at (length bytes - at) bytes new ≡ put bytes at field
unfolding put
put_written bytes field new at is =
    let rest = take_rest bytes at in
    let behind = drop-drop (length field) at bytes in
    let none = drop_all (length bytes - at) (drop at bytes) (omega (arith, length-drop at bytes)) in
    rw (is, rest, behind, none, append-nil) refl

-- how many bytes a number has
pub length-word_bytes : (number : ℕ) → length (word_bytes number) ≡ 4
unfolding word_bytes
length-word_bytes number = refl

pub length-long_bytes : (number : ℕ) → length (long_bytes number) ≡ 8
unfolding long_bytes
length-long_bytes number = refl

-- a write within the bytes keeps their number
pub length-put : (bytes field : List ℕ) (at : ℕ) → at + length field ≤ length bytes → length (put bytes at field) ≡ length bytes
unfolding put
length-put bytes field at within =
    omega (arith, length-append {A = ℕ}, length-take-le at bytes (omega arith), length-drop (at + length field) bytes)
